pub mod Entries
pub mod Files
pub mod Groups
pub mod Images
pub mod Joins
pub mod Patches
pub mod Runs
pub mod Words
