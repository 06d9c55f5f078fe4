mod Examples
mod Gathering
mod HeldChains
mod Hiding
mod Knowing
mod Searching
pub mod Smaller
mod TakenCells
mod Weighing
