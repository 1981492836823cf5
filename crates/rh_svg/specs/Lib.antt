pub mod Looks
pub mod Markup
pub mod Outlines
pub mod Tags
