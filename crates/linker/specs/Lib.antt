pub mod Tables
pub mod Meanings
pub mod Turns
pub mod Holders
pub mod OneWay
pub mod Rounds
pub mod Links
pub mod Parts
