-- Maps of numbers with a value, their bits in turn, and values read by them: they are the definition's, which goes number by number.
pub mod Numbers
pub mod MarkedMaps
pub mod Bits
pub mod Reading
