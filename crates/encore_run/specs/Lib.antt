pub mod Answer
pub mod Built
pub mod Command
pub mod Due
pub mod Lines
pub mod Promises
pub mod Source
pub mod Status
