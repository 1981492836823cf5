pub mod Word
pub mod Control
