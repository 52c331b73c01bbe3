pub mod Runs
pub mod FromOpening
pub mod Corollaries
pub mod Examples
