pub mod Errors
pub mod Failures
pub mod Summary
pub mod Survey
