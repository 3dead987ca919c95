pub mod Bits
pub mod Histories
pub mod Lists
pub mod Marked
pub mod Reversed
pub mod Stores
pub mod Tapes
pub mod Turned
