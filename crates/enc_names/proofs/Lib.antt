pub mod OnlyOne
pub mod Passed
pub mod There
