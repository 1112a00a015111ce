-- `Queued` has the laws that the proofs above cite.
pub mod Room
pub mod Every
pub mod Contents
pub mod Moves
pub mod Queued
