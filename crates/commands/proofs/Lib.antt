mod Buffered
mod Parsed
