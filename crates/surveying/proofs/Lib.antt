pub mod Checks
pub mod Files
pub mod Lines
pub mod Places
pub mod Records
