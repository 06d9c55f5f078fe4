-- One run of three sound switches, worked to its end. Assumes nothing.
pub mod Closes
pub mod Run
pub mod Sends
pub mod Tests
pub mod Weights
