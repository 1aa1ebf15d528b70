pub mod Blocks
pub mod Findings
pub mod Laws
pub mod Verdicts
