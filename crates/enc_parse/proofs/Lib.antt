pub mod DeclLaws
pub mod OneAnswer
pub mod Few
