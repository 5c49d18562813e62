-- What the proofs of several functions cite, and what users of a page cite.
pub mod Pages
pub mod Laws
