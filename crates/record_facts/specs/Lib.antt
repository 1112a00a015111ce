-- What holds of every accepted record; and which pops belong to which transfer, as the papers say it and as the replay's marks do.
pub mod Facts
pub mod Transfers
