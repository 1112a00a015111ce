pub mod Asking
pub mod Fronts
pub mod Running
pub mod FilesListed
