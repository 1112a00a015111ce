-- The theorems on starts: what is written is read back, and one start has one form.
pub mod RoundTrip
pub mod CellLists
pub mod Lending
pub mod StartTheorems
-- The code: what it writes and reads is the definition's.
pub mod Writing
pub mod MapBytes
pub mod RankBytes
pub mod RankTurns
pub mod Gathering
pub mod Answering
pub mod Reading
