-- The claim, and what it needs of an order.
pub mod Claim
pub mod Orders
