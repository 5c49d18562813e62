-- What follows from the definitions of `model`'s `RequestTwo`.
pub mod Judged
pub mod Only18
pub mod Behind
pub mod RequestTwo
