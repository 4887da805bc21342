pub mod Decls
pub mod DeclReading
pub mod Spells
pub mod Failure
pub mod Answers
