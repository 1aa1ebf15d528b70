pub mod Edited
pub mod Filling
pub mod Whole
