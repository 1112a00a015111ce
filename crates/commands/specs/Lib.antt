-- The commands on arrays.
pub mod Commands
