pub mod Keywords
pub mod Lending
pub mod Place
pub mod Rules
pub mod Thin
