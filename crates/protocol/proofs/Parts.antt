-- The parts of the promise, from the invariant and from what cannot be hidden. Assumes nothing.
pub mod Agreement
pub mod AllOrNone
pub mod CarriedOrders
pub mod Decided
pub mod Ended
pub mod InTime
pub mod LastWeights
pub mod LeadSigned
pub mod Led
pub mod Stays
