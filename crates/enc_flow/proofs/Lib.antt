pub mod Vars
pub mod Unders
pub mod Knowing
