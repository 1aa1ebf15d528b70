pub mod Ground
pub mod Order
pub mod Steps
