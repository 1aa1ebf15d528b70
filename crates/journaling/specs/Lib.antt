pub mod Answers
pub mod Calls
pub mod Doors
pub mod Journal
pub mod Summary
