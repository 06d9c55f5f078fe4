pub mod Links
pub mod Rankings
pub mod Refused
pub mod Sets
pub mod Masks
pub mod Earliest
