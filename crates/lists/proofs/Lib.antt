pub mod Room
pub mod Entries
pub mod Ranks
pub mod Forms
pub mod Lending
pub mod Results
pub mod Parts
