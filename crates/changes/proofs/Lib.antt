-- What follows from the definitions of `model`'s `Update` and `RequestOne`.
pub mod Changes
pub mod Told
pub mod RequestOne
pub mod Shape
pub mod Table
