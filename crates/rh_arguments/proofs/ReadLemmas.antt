-- What the getters of clap's matches read.
use Rattle.std.proofs.Common.{◌≡◌, ℕ, true, List, Option, Some, None, Result, Ok, Err, is_some, option_map, unwrap_or, refl, ap, sym, ◌∙◌}
use Rattle.std.specs.Option.{IsSome}
use Rattle.std.specs.Str.Parse.{ParsesUnsigned}
use Rattle.clap.specs.Matches.{ReadsOne}
use Rattle.clap.specs.Values.{IsUnsignedIn}
use Rattle.clap.specs.Walk.{Row, Text, one_of}
use Rattle.rh_arguments.specs.Words.{GivesNumber, number_spelled}

pub some_read : {X : Type 0} (f : X → Text) (read : Option X) (text : Option Text) → option_map f read ≡ text → is_some text ≡ true → IsSome read
some_read f None text is some = let bad = rw (← is) at some in absurd cc
some_read f (Some x) text is some = refl

-- a text that spells a number in the bounds is read as that number
module _ {E : Type 0} (G : Text → Result ℕ E → Type 0) (parses : (u : Text) (x : Result ℕ E) → G u x → ParsesUnsigned 64 10 u x) where
  pub number_read : (least most : ℕ) (text : Text) (read : Option ℕ) → ReadsOne G text read → IsUnsignedIn least most text → IsSome read
  number_read least most text (Some n) reads fits = refl
  number_read least most text None reads fits = absurd (parses text (Err reads.0) reads.1 (fits.0, fits.1))

  pub number_given : (id : Text) (least most : ℕ) (rows : List Row) (text : Text) (read : Option ℕ) (n : ℕ) → one_of id rows ≡ Some text → ReadsOne G text read
      → IsUnsignedIn least most text → read ≡ Some n → GivesNumber id least most rows n
  number_given id least most rows text None n at reads fits is = absurd cc
  number_given id least most rows text (Some m) n at reads fits is =
      let same : n ≡ number_spelled text = sym (ap (λ o. unwrap_or o n) is) ∙ (parses text (Ok m) reads).1 in
      rw same (ap (option_map number_spelled) at, fits.2, fits.3)
