-- The queues' operations on the tables, and how the tables stand for the model's queues.
pub mod Transfers
pub mod Endings
pub mod Queued
