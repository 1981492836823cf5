-- What a line asks of which lists, or why it is refused.
use Rattle.std.specs.Prelude.{◌≡◌, ◌≢◌, ℕ, ◌<◌, ◌≤◌, Bool, true, false, List, length, map, string_bytes, Some, None, Err, Ok}
use Rattle.std.specs.Str.Parse.{IsNumeral, digits_value, without_leading_plus}
use Rattle.rh_combine.specs.declared.how.How.TheVariants.{Union}
use Rattle.rh_expressions.specs.Formulas.{formula_of}
use Rattle.rh_expressions.specs.Naming.{path_in, selection_in}
use Rattle.rh_expressions.specs.declared.expression.Expression.{Expression}
use Rattle.rh_expressions.specs.declared.fault.SelectFault.{SelectFault}
use Rattle.rh_expressions.specs.declared.fault.SelectFault.TheVariants.{Memory}
use Rattle.rh_expressions.specs.declared.select.Select.{Select as Found}
use Rattle.rh_key_commands.specs.declared.asked.Asked.{Asked}
use Rattle.rh_key_commands.specs.declared.asked.Asked.TheVariants.{Made, AtLeast, Select}
use Rattle.rh_key_commands.specs.declared.asked.Line.{Line}
use Rattle.rh_keys_program.specs.Told.{TellsSelect}
use Rattle.rh_keys_program.specs.declared.fault.Fault.{Fault}
use Rattle.rh_keys_program.specs.declared.fault.Fault.TheVariants as fault
use Rattle.rh_questions.specs.declared.limits.TheConstants.{MOST_LISTS}
use Rattle.rh_questions.specs.declared.selection.Selection.TheVariants.{AtLeast as InAtLeast, Where}
use Rattle.rh_questions.specs.declared.wanted.Wanted.{Wanted}
use Rattle.rh_questions.specs.declared.wanted.Wanted.TheVariants as wanted
use Rattle.rhkeys.specs.declared.request.Request.{Request}

-- The command says something of one list: it sorts it, or asks for what stands there. Of the others one alone is a word that was
-- forgotten.
abbrev pub takes_one : Asked → Bool
takes_one (Made Union) = true
takes_one (Made how) = false
takes_one (AtLeast least) = true
takes_one (Select expression) = true

-- ---- in how many lists

-- the text says so many: one list at least, and no more than there are
abbrev pub IsLeast : (text : List ℕ) → (lists least : ℕ) → Type 0
IsLeast text lists least =
    IsNumeral 10 (without_leading_plus text) × (least ≡ digits_value 10 (without_leading_plus text)) × (0 < least) × (least ≤ lists) × (lists ≤ MOST_LISTS)

-- what is told of a text that does not: too many lists, whatever it says, or that it does not say so many
abbrev pub RefusesNumber : (text : List ℕ) → (lists : ℕ) → Fault → Type 0
RefusesNumber text lists fault.TooMany = MOST_LISTS < lists
RefusesNumber text lists (fault.Least n) = (n ≡ lists) × (lists ≤ MOST_LISTS) × ((least : ℕ) → IsLeast text lists least → ⊥)
RefusesNumber text lists told = ⊥

-- ---- expressions

-- the expression is what the text says of the lists that the words name, and their paths are these
abbrev pub IsSelected : (text : List ℕ) → (words : List (List ℕ)) → Found → Type 0
IsSelected text words found = (selection_in text words ≡ Ok (formula_of found.expression)) × (map string_bytes found.paths.items ≡ map path_in words)

-- what is told where they say none: too many lists, whatever they say, or the fault that the words or the text have
abbrev pub RefusesSelect : (text : List ℕ) → (words : List (List ℕ)) → Fault → Type 0
RefusesSelect text words fault.TooMany = MOST_LISTS < length words
RefusesSelect text words told = (f : SelectFault) × TellsSelect text words f told × (f ≢ Memory → selection_in text words ≡ Err f)

-- ---- a line

-- of the lists in these files that is asked, and they stand at these paths
abbrev pub IsAsked : Asked → (files : List (List ℕ)) → Wanted → (paths : List (List ℕ)) → Type 0
IsAsked (Made how) files question paths = (question ≡ wanted.Made how) × (paths ≡ files)
IsAsked (AtLeast text) files question paths =
    (least : ℕ) × (question ≡ wanted.Selected (InAtLeast least)) × IsLeast (string_bytes text) (length files) least × (paths ≡ files)
IsAsked (Select text) files question paths =
    (expression : Expression) × (question ≡ wanted.Selected (Where expression)) × (selection_in (string_bytes text) files ≡ Ok (formula_of expression))
    × (paths ≡ map path_in files)

abbrev pub Requests : Line → Request → Type 0
Requests line request =
    (line.form ≡ Some request.run.form) × (request.run.workers ≡ line.workers) × (request.run.skip ≡ line.skip)
    × (length line.files.items ≡ 1 → takes_one line.asked ≡ true)
    × IsAsked line.asked (map string_bytes line.files.items) request.wanted (map string_bytes request.run.paths.items)

-- why that is asked of none of these lists
abbrev pub IsRefused : Asked → (files : List (List ℕ)) → Fault → Type 0
IsRefused (Made how) files told = ⊥
IsRefused (AtLeast text) files told = RefusesNumber (string_bytes text) (length files) told
IsRefused (Select text) files told = RefusesSelect (string_bytes text) files told

-- why a line asks for nothing
abbrev pub Refuses : Line → Fault → Type 0
Refuses line fault.TwoOutputs = line.form ≡ None
Refuses line fault.OneList = (line.form ≢ None) × (length line.files.items ≡ 1) × (takes_one line.asked ≡ false)
Refuses line told = (line.form ≢ None) × IsRefused line.asked (map string_bytes line.files.items) told
