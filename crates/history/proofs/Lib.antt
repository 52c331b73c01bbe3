pub mod Tally
pub mod Laws
pub mod OldRatios
pub mod Answered
