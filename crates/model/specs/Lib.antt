-- Document 01 as definitions, in its order, but that what a definition needs stands before it. Nothing here is proved,
-- and nothing here is assumed.
pub mod Outcome
pub mod Fields
pub mod Lists
pub mod Expression
pub mod Sets
pub mod Machine
pub mod Steps
pub mod Run
pub mod Forms
pub mod Delivery
pub mod Calls
pub mod Program
pub mod Demands
-- The change requests, each with its call and its promise.
pub mod Update
pub mod RequestOne
pub mod RequestTwo
pub mod Bounds
pub mod RequestFour
pub mod RequestFive
pub mod Joined
pub mod RequestSix
pub mod Regrouped
pub mod RequestSeven
