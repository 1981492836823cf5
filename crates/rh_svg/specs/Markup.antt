-- Trees of elements, and their text.
use Rattle.std.specs.Prelude.{◌≡◌, ℕ, zero, suc, ◌==◌, nat_le, if◌then◌else◌, List, [], ◌∷◌, ◌++◌, codes, Result, OnOk}
use Rattle.std.specs.List.{flat_map}
use Rattle.rh_svg.specs.Tags.{end_tag, start_tag}
use Rattle.rh_svg.specs.declared.tags.Tag.{Tag}

-- a byte of a text: none opens a tag or a reference, and each is a character
abbrev pub escaped_byte : ℕ → List ℕ
escaped_byte byte =
    if byte == 60 then codes "&lt;"
    else if byte == 62 then codes "&gt;"
    else if byte == 38 then codes "&amp;"
    else if nat_le 32 byte then (if nat_le byte 126 then byte ∷ [] else codes "?")
    else codes "?"

abbrev pub escaped : List ℕ → List ℕ
escaped text = flat_map escaped_byte text

-- texts and elements, one after the other
pub data Content : Type 0 where
  Nothing : Content
  Text : (text : List ℕ) → (after : Content) → Content
  Element : (tag : Tag) → (inside after : Content) → Content

-- the text `a<b` in a Title: `<title>a&lt;b</title>`
unfoldable pub render : Content → List ℕ
render Nothing = []
render (Text text after) = escaped text ++ render after
render (Element tag inside after) = start_tag tag ++ (render inside ++ (end_tag tag ++ render after))

-- The text is that of one element with what it holds: so each element that is opened is closed, and no text has markup.
pub record IsWellFormed (text : List ℕ) : Type 0 where
  pub tag : Tag
  pub inside : Content
  pub whole : text ≡ render (Element tag inside Nothing)

-- The content was drawn after what was there.
abbrev pub DrawsAfter : {X E : Type 0} → (old new : List ℕ) → Content → Result X E → Type 0
DrawsAfter old new content r = OnOk r (new ≡ old ++ render content)

-- ---- contents

abbrev pub text_of : List ℕ → Content
text_of text = Text text Nothing

abbrev pub leaf : Tag → Content
leaf tag = Element tag Nothing Nothing

abbrev pub labelled : Tag → List ℕ → Content
labelled tag text = Element tag (Text text Nothing) Nothing

unfoldable pub beside : Content → Content → Content
beside Nothing more = more
beside (Text text after) more = Text text (beside after more)
beside (Element tag inside after) more = Element tag inside (beside after more)

-- one for each number below a bound
abbrev pub each : (ℕ → Content) → ℕ → Content
each drawn zero = Nothing
each drawn (suc n) = beside (each drawn n) (drawn n)

-- one for each of a list
abbrev pub for_all : {X : Type 0} → (X → Content) → List X → Content
for_all drawn [] = Nothing
for_all drawn (x ∷ more) = beside (drawn x) (for_all drawn more)
