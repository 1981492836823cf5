pub mod Key
pub mod Layout
pub mod Test
pub mod Order
pub mod Round
pub mod Range
