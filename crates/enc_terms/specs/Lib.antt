pub mod Words
pub mod Names
pub mod Types
pub mod TypeReading
pub mod Exprs
pub mod ExprReading
pub mod Sets
