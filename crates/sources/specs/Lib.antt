pub mod Files
pub mod Grounds
pub mod Layers
