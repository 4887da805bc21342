pub mod Finding
pub mod BodyFolds
pub mod TypeFolds
pub mod Knowing
pub mod KnownTypes
pub mod There
pub mod PlainNames
