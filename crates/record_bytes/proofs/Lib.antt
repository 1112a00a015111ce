-- Readers and writers that undo each other: first the rules, then an item's map, its fields, an item and a record; and a header.
pub mod RoundTrip
pub mod ItemMaps
pub mod Fields
pub mod Items
pub mod Records
pub mod Headers
