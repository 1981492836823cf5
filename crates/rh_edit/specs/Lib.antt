pub mod Acts
pub mod Held
pub mod News
pub mod Pull
pub mod Put
pub mod Rising
