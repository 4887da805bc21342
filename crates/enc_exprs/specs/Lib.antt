pub mod Uses
pub mod Types
pub mod Told
pub mod Exprs
pub mod Typing
