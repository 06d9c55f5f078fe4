pub mod Quotes
pub mod Refused
pub mod Settings
