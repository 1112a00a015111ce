-- What records of one trace have in common, and how a record may change and stay one. First the pairs of events of two records with one trace: the
-- same values, so the same cells and registers; the same arrows, so the same kind of answer. Then what an item depends on: so a start may change where
-- no item looks, and two items may change places.
pub mod Accesses
pub mod Pairs
pub mod Equivalence
pub mod LastWrites
pub mod Steps
pub mod Contents
pub mod Arrows
pub mod Verdicts
pub mod Views
pub mod Locality
pub mod Following
pub mod Starts
pub mod Commuting
pub mod Turned
pub mod Exchange
pub mod Merging
