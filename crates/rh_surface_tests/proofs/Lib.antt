-- The proofs of this crate: a free cell, counted.
mod Free
