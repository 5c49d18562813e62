-- What follows from the definitions of `model`'s `RequestFive`.
pub mod Alike
pub mod RequestFive
