pub mod Order
pub mod Modes
pub mod Equality
pub mod Parting
pub mod formers
