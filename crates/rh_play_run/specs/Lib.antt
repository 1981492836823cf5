pub mod Beginning
pub mod Devices
pub mod Drawing
pub mod Run
pub mod Schedule
pub mod Pieces
