pub mod Lists
pub mod Ranks
pub mod Linkings
pub mod Proposals
pub mod Settled
pub mod Rotations
pub mod TwoWay
pub mod Holders
