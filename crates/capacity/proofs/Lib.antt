-- What follows from the definitions of `model`'s `Bounds` and `RequestFour`.
pub mod Lengths
pub mod Bytes
pub mod Said
pub mod Members
pub mod Replies
pub mod Widest
pub mod RequestFour
pub mod Shape
