-- The theory about seeking over member nodes.
pub mod Turns
pub mod Nodes
pub mod Stepping
pub mod Kept
