pub mod Calls
pub mod Causes
pub mod HostView
pub mod MemFiles
pub mod MemFilesLaws
pub mod MemFilesView
pub mod MemSinkView
pub mod Texts
