pub mod Lined
pub mod Keyed
