-- What the generators' functions say beside the definitions of the model.
pub mod Rows
pub mod Sought
pub mod Tally
