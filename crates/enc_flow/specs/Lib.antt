pub mod Vars
pub mod Env
pub mod Under
pub mod Known
