pub mod Premises
pub mod First
pub mod Passing
