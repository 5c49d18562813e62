-- What follows from the definitions of `model`'s `Joined` and `RequestSix`.
pub mod Unique
pub mod Joining
pub mod Reading
pub mod Held
pub mod Kept
pub mod RequestSix
