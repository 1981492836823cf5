-- What can be read off a picture: its marks, its lines and its heads. All else in it is for the eye.
use Rattle.std.specs.Prelude.{◌≡◌, ℕ, Bool, true, false, if◌then◌else◌, List, [], ◌∷◌, ◌++◌, Result, OnOk}
use Rattle.rh_svg.specs.Markup.{Content, Nothing, Text, Element, render}
use Rattle.rh_svg.specs.declared.looks.Look.{Look}
use Rattle.rh_svg.specs.declared.looks.Look.TheVariants.{Head, Lane, Title}
use Rattle.rh_svg.specs.declared.tags.Tag.{Tag}
use Rattle.rh_svg.specs.declared.tags.Tag.TheVariants.{Label, Line, Mark}

-- element by element, by its tag and by what it holds
abbrev pub read : {X : Type 0} → (Tag → Content → List X) → Content → List X
read one Nothing = []
read one (Text text after) = read one after
read one (Element tag inside after) = one tag inside ++ (read one inside ++ read one after)

abbrev pub mark : Tag → Content → List Tag
mark (Mark x y kind) inside = Mark x y kind ∷ []
mark tag inside = []

-- a line, unless it is the lane of a worker
abbrev pub line_of : (x y to_x to_y : ℕ) → Look → List Tag
line_of x y to_x to_y (Lane worker) = []
line_of x y to_x to_y look = Line x y to_x to_y look ∷ []

abbrev pub line : Tag → Content → List Tag
line (Line x y to_x to_y look) inside = line_of x y to_x to_y look
line tag inside = []

abbrev pub is_head : Look → Bool
is_head Head = true
is_head Title = true
is_head look = false

abbrev pub texts : Content → List (List ℕ)
texts Nothing = []
texts (Text text after) = text ∷ texts after
texts (Element tag inside after) = texts after

-- what the head of a lane or a column says, or a line of the title
abbrev pub head : Tag → Content → List (List ℕ)
head (Label x y look) inside = if is_head look then texts inside else []
head tag inside = []

abbrev pub marks : Content → List Tag
marks content = read mark content

abbrev pub lines : Content → List Tag
lines content = read line content

abbrev pub heads : Content → List (List ℕ)
heads content = read head content

-- What was appended is the text of a content with these marks, lines and heads, in this order, and with no others.
pub record ShowsTags (old new : List ℕ) (m l : List Tag) (h : List (List ℕ)) : Type 0 where
  pub content : Content
  pub text : new ≡ old ++ render content
  pub marks_are : marks content ≡ m
  pub lines_are : lines content ≡ l
  pub heads_are : heads content ≡ h

abbrev pub Draws : {X E : Type 0} → (old new : List ℕ) → (m l : List Tag) → (h : List (List ℕ)) → Result X E → Type 0
Draws old new m l h r = OnOk r (ShowsTags old new m l h)

-- boxes, labels and signs alone
abbrev pub DrawsPlain : {X E : Type 0} → (old new : List ℕ) → Result X E → Type 0
DrawsPlain old new r = Draws old new [] [] [] r
