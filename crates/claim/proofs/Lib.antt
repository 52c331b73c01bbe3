pub mod Unused
pub mod Theorem
pub mod Alike
pub mod Edges
pub mod Corollaries
