pub mod KeyLemmas
pub mod SnapshotLemmas
