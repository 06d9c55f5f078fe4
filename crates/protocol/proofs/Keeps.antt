-- A run keeps the invariant: one file for each call, and what these share. Assumes nothing.
pub mod ClosingStands
pub mod ClosingTime
pub mod Closings
pub mod Kept
pub mod Lays
pub mod Leaving
pub mod Moves
pub mod Opens
pub mod Passes
pub mod Sends
pub mod Signs
pub mod Stands
