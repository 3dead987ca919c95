pub mod GoodFiles
pub mod Resets
pub mod Statuses
pub mod StopLemmas
pub mod Words
