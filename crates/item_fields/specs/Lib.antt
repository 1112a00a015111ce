-- The fields of an item, each there only where its map bit stands.
pub mod Optional
