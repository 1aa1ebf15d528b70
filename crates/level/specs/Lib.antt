pub mod Checks
pub mod Edits
pub mod Meant
pub mod Tables
pub mod View
