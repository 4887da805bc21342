pub mod Words
pub mod Requests
pub mod Sources
pub mod Stmts
pub mod Sets
pub mod SourceReading
pub mod StmtReading
