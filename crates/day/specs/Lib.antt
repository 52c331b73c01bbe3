pub mod Day
pub mod Laws
pub mod Chunks
pub mod Whole
pub mod Pieces
pub mod Examples
