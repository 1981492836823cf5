pub mod Parts
pub mod Splitting
pub mod Number
pub mod Plan
pub mod Files
pub mod IntoFiles
pub mod Name
