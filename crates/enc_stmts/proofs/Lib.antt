pub mod SourceLaws
pub mod StmtLaws
pub mod BlockLaws
