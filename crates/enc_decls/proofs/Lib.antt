pub mod Passing
pub mod Loops
pub mod Words
pub mod Agreeing
pub mod Standing
pub mod Holding
