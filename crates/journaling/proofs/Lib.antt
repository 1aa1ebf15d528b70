pub mod Cuts
pub mod Heads
pub mod Ledgers
pub mod Runs
pub mod Tallies
pub mod Texts
