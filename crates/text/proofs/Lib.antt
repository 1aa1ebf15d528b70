pub mod Numerals
pub mod Signs
pub mod Cuts
pub mod Written
pub mod Lines
pub mod Pairs
pub mod Numbered
