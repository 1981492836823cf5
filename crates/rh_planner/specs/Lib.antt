-- What the contracts of the calls that this crate hands on speak of.
pub use Rattle.rh_bytes.specs.Counting
pub use Rattle.rh_script.specs.Grammar
pub use Rattle.rh_script.specs.Script
pub use Rattle.rh_script.specs.Plan
pub use Rattle.rh_shelf.specs.Shelf
pub use Rattle.rh_shelf.specs.Kinds
pub use Rattle.rh_threads.specs.Made
pub use Rattle.rh_script_run.specs.Meaning
pub use Rattle.rh_script_run.specs.Environment
pub use Rattle.rh_script_run.specs.Ends
