pub mod Statuses
pub mod Arguments
pub mod Runs
pub mod Files
