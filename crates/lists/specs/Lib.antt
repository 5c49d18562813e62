-- What the functions of this crate say beside the definitions of the model.
pub mod Rise
pub mod Span
pub mod Place
pub mod Readable
