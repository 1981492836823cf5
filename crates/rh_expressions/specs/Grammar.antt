-- The grammar of expressions: a text is read token by token, from left to right.
use Rattle.std.specs.Prelude.{◌≡◌, ℕ, Bool, true, false, nat_lt, if◌then◌else◌, List, [], ◌∷◌, length, Option, Some, None, option_map, Result, Ok, Err}
use Rattle.rh_combine.specs.declared.how.How.{How}
use Rattle.rh_combine.specs.declared.how.How.TheVariants.{Intersect}
use Rattle.rh_expressions.specs.declared.fault.ExpressionFault.{ExpressionFault}
use Rattle.rh_expressions.specs.declared.fault.SelectFault.{SelectFault}
use Rattle.rh_expressions.specs.declared.fault.SelectFault.TheVariants.{Expression as Here, Memory}
use Rattle.rh_expressions.specs.declared.fault.ExpressionFault.TheVariants as fault
use Rattle.rh_expressions.specs.declared.limits.TheConstants.{MAX_EXPRESSION_BYTES}
use Rattle.rh_expressions.specs.declared.reading.Begun.{Begun}
use Rattle.rh_expressions.specs.declared.reading.State.{State as Reading}
use Rattle.rh_expressions.specs.declared.reading.Begun.TheVariants.{Nothing, Open', First'}
use Rattle.rh_expressions.specs.declared.token.Token.{Token}
use Rattle.rh_expressions.specs.declared.token.TokenKind.{TokenKind}
use Rattle.rh_expressions.specs.declared.token.TokenKind.TheVariants as token
use Rattle.rh_expressions.specs.Formulas.{Formula, formula_of, list, join}
use Rattle.rh_expressions.specs.Tokens.{tokens_of}

-- what is begun: a parenthesis that opens at this byte, or the first of two that are joined
pub data Beginning : Type 0 where
  opens : (at : ℕ) → Beginning
  first : (formula : Formula) → (how : How) → Beginning

-- what is begun, the last first
abbrev pub beginnings_of : Begun → List Beginning
beginnings_of Nothing = []
beginnings_of (Open' at p outer) = opens at ∷ beginnings_of outer
beginnings_of (First' e how p outer) = first (formula_of e) how ∷ beginnings_of outer

-- what is known between two tokens: what is begun, and the operand before, if one ends here
abbrev pub State : Type 0
State = List Beginning × Option Formula

abbrev pub state_of : Reading → State
state_of s = (beginnings_of s.begun, option_map formula_of s.operand)

-- one step, and then the next
abbrev pub and_then : {A B E : Type 0} → Result A E → (A → Result B E) → Result B E
and_then (Ok x) next = next x
and_then (Err e) next = Err e

abbrev pub fault_at : ℕ → ExpressionFault → SelectFault
fault_at at f = Here at f

-- what goes no further for want of memory, or with the fault that the grammar has here
abbrev pub IsFaultOf : {A : Type 0} → Result A SelectFault → SelectFault → Type 0
IsFaultOf read Memory = Unit {0}
IsFaultOf read (Here at f) = read ≡ Err (Here at f)
IsFaultOf read fault = ⊥

-- The first operator of two has its operands before the second has: `&` before each, and each before all but `&`.
abbrev pub goes_first : How → How → Bool
goes_first Intersect after = true
goes_first before Intersect = false
goes_first before after = true

-- what is begun behind an operator, once those before the operand that go first have it
abbrev pub with_operator : How → List Beginning → Formula → List Beginning
with_operator how [] f = first f how ∷ []
with_operator how (opens at ∷ begun) f = first f how ∷ opens at ∷ begun
with_operator how (first g before ∷ begun) f =
    if goes_first before how then with_operator how begun (join before g f) else first f how ∷ first g before ∷ begun

-- the operand that a parenthesis closes
abbrev pub closed : (at : ℕ) → List Beginning → Formula → Result State SelectFault
closed at [] f = Err (fault_at at fault.NotOpened)
closed at (opens o ∷ begun) f = Ok (begun, Some f)
closed at (first g how ∷ begun) f = closed at begun (join how g f)

-- the operand that the text ends with
abbrev pub whole : List Beginning → Formula → Result Formula SelectFault
whole [] f = Ok f
whole (opens at ∷ begun) f = Err (fault_at at fault.NotClosed)
whole (first g how ∷ begun) f = whole begun (join how g f)

-- after a token where an operand is missing
abbrev pub after_none : (at : ℕ) → TokenKind → List Beginning → Result State SelectFault
after_none at (token.List index) begun = Ok (begun, Some (list index))
after_none at token.Open begun = Ok (opens at ∷ begun, None)
after_none at token.Unknown begun = Err (fault_at at fault.Unknown)
after_none at token.Foreign begun = Err (fault_at at fault.Foreign)
after_none at kind begun = Err (fault_at at fault.NoOperand)

-- after a token behind an operand
abbrev pub after_operand : (at : ℕ) → TokenKind → List Beginning → Formula → Result State SelectFault
after_operand at (token.Operator how) begun f = Ok (with_operator how begun f, None)
after_operand at token.Close begun f = closed at begun f
after_operand at token.Foreign begun f = Err (fault_at at fault.Foreign)
after_operand at kind begun f = Err (fault_at at fault.NoOperator)

abbrev pub after_token : Token → State → Result State SelectFault
after_token t (begun, None) = after_none t.at t.kind begun
after_token t (begun, Some f) = after_operand t.at t.kind begun f

abbrev pub at_end : (end : ℕ) → State → Result Formula SelectFault
at_end end (begun, None) = Err (fault_at end fault.NoOperand)
at_end end (begun, Some f) = whole begun f

-- what the tokens make of this state, behind which the text ends
abbrev pub read : (end : ℕ) → List Token → State → Result Formula SelectFault
read end [] state = at_end end state
read end (t ∷ tokens) state = and_then (after_token t state) (read end tokens)

-- what the text is read as, where the lists have these names
abbrev pub formula_in : (names : List (List ℕ)) → (text : List ℕ) → Result Formula SelectFault
formula_in names text =
    if nat_lt MAX_EXPRESSION_BYTES (length text) then Err (fault_at MAX_EXPRESSION_BYTES fault.TooLong)
    else read (length text) (tokens_of names 0 false text) ([], None)
