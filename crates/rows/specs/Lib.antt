pub mod Row
pub mod Kept
pub mod Room
