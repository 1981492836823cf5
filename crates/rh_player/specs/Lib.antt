-- What the contracts of the calls that this crate hands on speak of.
pub use Rattle.rh_interleaving.specs.Turned
pub use Rattle.rh_play_text.specs.Grammar
pub use Rattle.rh_play_text.specs.Lines
pub use Rattle.rh_play_run.specs.Run
