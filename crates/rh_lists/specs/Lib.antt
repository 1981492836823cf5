pub mod Lists
pub mod Parts
pub mod Ahead
pub mod Blanks
pub mod Skipping
-- Files: the lists that paths give, and the first fault in one
pub mod Files
-- Paths: the lists of several paths
pub mod Paths
