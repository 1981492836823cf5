-- The reader and the writer that share who is told how far the reading is.
use Rattle.rh_streams.specs.declared.shared.Followed.{Followed}
use Rattle.rh_streams.specs.declared.shared.Clearing.{Clearing}

abbrev pub read_beside : {R P : Type 0} → Followed R P → R
read_beside f = f.inner

abbrev pub written_beside : {W P : Type 0} → Clearing W P → W
written_beside c = c.inner
