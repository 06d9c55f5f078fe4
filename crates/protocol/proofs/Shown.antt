-- What cannot be hidden: from one who holds a chain to one who waited in the right round. Assumes nothing.
pub mod Backers
pub mod Conspicuous
pub mod Hidden
pub mod Seen
pub mod SoundLead
pub mod Through
pub mod Visible
