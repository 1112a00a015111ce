-- Writer and reader are the definition's, and what is written is read back, from no other bytes.
pub mod Commands
pub mod Writing
pub mod Putting
pub mod Accepting
pub mod Reading
pub mod RoundTrip
pub mod SlipTheorems
