pub mod Edits
pub mod Rows
pub mod Tables
