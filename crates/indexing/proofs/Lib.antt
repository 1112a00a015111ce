-- The code against the definitions on arrays (`Cases`), and these against what they stand for.
pub mod Selecting
pub mod Entries
pub mod ByKey
pub mod ByGroup
pub mod Indexes
pub mod Lists
pub mod Ready
pub mod Cases
