-- The argument in its reading order, behind what specs/ says of walks, orders and rings: edges as they are drawn and as they are worded, how many
-- there are, chains of edges, the greedy placing, the walk back that shows that some walk closes, how many arrows lead from group to group, the
-- shortest ring, the verdict, and what all this says of a run; and last that the orders are those of document 01's rule.
pub mod Nearest
pub mod Links
pub mod Edges
pub mod Counting
pub mod Retold
pub mod Chains
pub mod Placing
pub mod Walks
pub mod WalkBack
pub mod Orders
pub mod Lengths
pub mod FirstWalks
pub mod Closest
pub mod Shortest
pub mod Passing
pub mod Found
pub mod Reaching
pub mod Judging
pub mod Verdicts
pub mod Runs
pub mod SameOrders
