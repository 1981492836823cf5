-- Keys that come in batches: what is still to come of them.
use Rattle.std.specs.Prelude.{◌≡◌, ℕ, zero, suc, List, [], ◌++◌, length, take, Option, Some, None, Result, Ok, Err}
use Rattle.rh_bytes.specs.Input.{◌>>=◌}
use Rattle.rh_key_files.specs.declared.fault.KeyFault.{KeyFault}
use Rattle.rh_key_files.specs.Reading.{KeysFail, file_keys}

-- the keys still to come, or the fault that comes before their end, where that is known
abbrev pub Coming : Type 0
Coming = Option (Result (List ℕ) KeyFault)

-- the keys of a step of reading, without the bytes after them
abbrev pub keys_alone : Result (List ℕ × List ℕ) KeyFault → Result (List ℕ) KeyFault
keys_alone read = read >>= (λ keys. Ok keys.0)

-- the keys of a whole file, or its first fault
abbrev pub keys_of_file : List ℕ → Result (List ℕ) KeyFault
keys_of_file bytes = keys_alone (file_keys bytes)

-- these keys, and then what comes after them
abbrev pub keys_then : List ℕ → Result (List ℕ) KeyFault → Result (List ℕ) KeyFault
keys_then front (Ok keys) = Ok (front ++ keys)
keys_then front (Err e) = Err e

-- What was to come is the keys that were put at the front of the batch, and then what is to come now.
-- Where no key was put there, none was to come; a fault is the one that was to come.
abbrev pub Gives : Coming → Coming → List ℕ → Result ℕ KeyFault → Type 0
Gives None new batch r = Unit {0}
Gives (Some said) new batch (Err e) = KeysFail e said
Gives (Some said) new batch (Ok zero) = said ≡ Ok []
Gives (Some said) None batch (Ok (suc n)) = ⊥
Gives (Some said) (Some rest) batch (Ok (suc n)) = said ≡ keys_then (take (suc n) batch) rest

-- these keys were to come and nothing else, as far as that is known
abbrev pub AllCome : Coming → List ℕ → Type 0
AllCome None keys = Unit {0}
AllCome (Some said) keys = said ≡ Ok keys

-- this fault was to come, as far as that is known
abbrev pub FaultComes : Coming → KeyFault → Type 0
FaultComes None e = Unit {0}
FaultComes (Some said) e = KeysFail e said

-- what is to come is the keys of a file of these bytes, where they are known
abbrev pub ComesFrom : Option (List ℕ) → Coming → Type 0
ComesFrom None now = Unit {0}
ComesFrom (Some bytes) now = now ≡ Some (keys_of_file bytes)

-- known bytes that are a key file have so many keys
abbrev pub HasCount : Option (List ℕ) → ℕ → Type 0
HasCount None n = Unit {0}
HasCount (Some bytes) n = (keys : List ℕ) → keys_of_file bytes ≡ Ok keys → length keys ≡ n
