pub mod Alike
pub mod Crowds
pub mod Prefixes
pub mod Pushes
pub mod Splits
pub mod Tallies
