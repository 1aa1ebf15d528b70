pub mod Written
pub mod Buffers
pub mod Replies
