-- What is held in the places of the standard streams that are closed.
use Rattle.std.specs.Prelude.{◌≤ℤ◌, ℤ, pos, Option, IfSome}

-- nothing is held, or a file whose number is that of a standard stream, where its type tells the number
abbrev pub IsHeld : {T : Type 0} → (T → Option ℤ) → Option T → Type 0
IsHeld number held = IfSome held (λ file. IfSome (number file) (λ fd. fd ≤ℤ pos 2))
