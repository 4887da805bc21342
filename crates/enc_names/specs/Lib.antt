pub mod Members
pub mod Lookups
pub mod Finding
