pub mod Commit
pub mod Eval
pub mod Exec
pub mod Laws
pub mod Machine
pub mod Phase
pub mod Scope
pub mod Step
