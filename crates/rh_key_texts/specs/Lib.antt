pub mod Files
pub mod List
pub mod Pack
