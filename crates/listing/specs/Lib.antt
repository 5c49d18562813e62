-- What this crate's functions say beside the definitions of the model.
pub mod Over
pub mod Answers
