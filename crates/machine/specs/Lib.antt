-- The machine's arrays as one; what an item leaves of them; how they stand for a state.
pub mod Arrays
pub mod Outcomes
pub mod Standing
