pub mod Conflicts
pub mod Rules
pub mod Nodes
pub mod Known
pub mod Found
pub mod Laws
