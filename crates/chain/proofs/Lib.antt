pub mod NameLists
mod NameSets
mod Bounds
mod Examples
mod FirstFaults
pub mod Numbering
pub mod ProperChains
mod Ranking
mod Ranks
mod Seen
mod Spelling
