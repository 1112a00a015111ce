-- The statement first; then what it stands on, from lists up to the two halves.
pub mod Serializability
pub mod Cells
pub mod Arrangement
pub mod Projections
pub mod Groups
pub mod Identity
pub mod CommandKinds
pub mod Correspondence
pub mod Blocks
pub mod Backward
pub mod Alike
pub mod Standing
pub mod TakenCommand
pub mod TakenPop
pub mod Rows
pub mod Simulation
pub mod Forward
