-- As in rh_helping, a worker's stage with its key is a value with one clause for each variant, and the proofs go stage
-- by stage.
-- Anew: what was read for a key since it was begun.
-- Keeping: what a worker's step leaves of what was read, and what the Read of a cell adds to it.
-- Scans: what a scan has seen, and what it tells.
-- Plans: the act that a scan asks for is one on the table, and its entries are those of a descriptor.
-- OpenStep: the opening of an own descriptor whose entries do a key.
-- CloseStep: the step that closes an own descriptor is a Release, which notes nothing.
-- KeyLaws: a worker's own acts, and its keys.

pub mod Anew
pub mod Keeping
pub mod OpenStep
pub mod CloseStep
pub mod Plans
pub mod Scans
pub mod KeyLaws
