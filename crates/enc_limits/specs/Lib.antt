pub mod Numbers
pub mod Types
pub mod Exprs
pub mod Sources
pub mod Stmts
pub mod Names
pub mod Programs
