-- What the contracts of the calls that this crate hands on speak of.
pub use Rattle.rh_key_files.specs.KeyFile
pub use Rattle.rh_bytes.specs.Counting
pub use Rattle.rh_dump.specs.Dump
pub use Rattle.rh_snapshot.specs.Snapshot
pub use Rattle.rh_snapshot.specs.Reading
