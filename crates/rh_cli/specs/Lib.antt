pub mod Closed
pub mod Endings
pub mod Outlet
pub mod Progress
pub mod Sizes
pub mod Notes
