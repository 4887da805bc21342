pub mod Meaning
pub mod Memory
pub mod Blocks
pub mod Whole
pub mod Printing
