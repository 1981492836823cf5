-- How large a file is.
use Rattle.std.specs.Prelude.{◌≡◌, ℕ, Option, Some, None}
use Rattle.std.specs.Fs.{IsFile, file_type, metadata_len}
use Rattle.std.specs.declared.fs.attrs.Metadata.{Metadata}

-- the size that the system says, where it is that of a file
abbrev pub IsSizeIn : Metadata → Option ℕ → Type 0
IsSizeIn metadata (Some bytes) = IsFile (file_type metadata) × (bytes ≡ metadata_len metadata)
IsSizeIn metadata None = IsFile (file_type metadata) → ⊥
