-- What contents show that stand beside each other, and what the whole picture shows.
use Rattle.std.proofs.Common.{◌≡◌, ◌≢◌, ℕ, ◌+◌, ◌<◌, ◌≤◌, ◌==◌, Bool, true, false, if◌then◌else◌, List, [], ◌∷◌, ◌++◌, codes, decimal, slice_index, length, get_or, take, drop, drop-cons, Option, Some, None, Vec, Result, Ok, Err, refl, ap, subst, append_assoc, append-nil, add-one, arith, flat_map}
use Rattle.std.specs.Global.{Global}
use Rattle.std.proofs.lemmas.Grind.{common_steps, flat_map-append}
use Rattle.std.proofs.lemmas.Bool.Decides.{nat_tests}
use Rattle.std.proofs.lemmas.List.{take_more}
use Rattle.rh_words.specs.declared.shape.Shape.{Shape}
use Rattle.rh_play_text.specs.Appending.{Prints}
use Rattle.rh_svg.specs.Markup.{Content, Nothing, Text, Element, DrawsAfter, IsWellFormed, beside, labelled, leaf, render}
use Rattle.rh_svg.specs.Tags.{start_tag, end_tag}
use Rattle.rh_svg.specs.declared.tags.Tag.{Tag}
use Rattle.rh_svg.specs.declared.tags.Tag.TheVariants.{Svg, Label}
use Rattle.rh_draw.specs.Changing.{LeaveAll, opening}
use Rattle.rh_draw.specs.Columns.{ColumnsAreChanges}
use Rattle.rh_draw.specs.Heads.{column_head, head_row, repeated, title_lines}
use Rattle.rh_draw.specs.Notices.{AreNotices, notice}
use Rattle.rh_draw.specs.Picture.{IsPicture, legend_lines, legend_marks}
use Rattle.rh_draw.specs.Places.{lane_x}
use Rattle.rh_draw.specs.Reading.{Draws, ShowsTags, head, is_head, line, mark, read}
use Rattle.rh_draw.specs.Rows.{at_after, at_first, mark_of, record_lines, row_lines}
use Rattle.rh_draw.specs.declared.records.Record.{Record}
use Rattle.rh_draw.specs.declared.records.Window.{Window}

-- ---- texts and readings of contents that stand beside each other

five : (a b c d e : List ℕ) → a ++ (b ++ (c ++ (d ++ e))) ≡ (a ++ (b ++ (c ++ d))) ++ e
five a b c d e = simp append_assoc

four : {X : Type 0} → (a b c d : List X) → a ++ (b ++ (c ++ d)) ≡ (a ++ (b ++ c)) ++ d
four a b c d = simp append_assoc

render-nothing : render Nothing ≡ []
unfolding render
render-nothing = refl

render-element : (tag : Tag) (inside : Content) → render (Element tag inside Nothing) ≡ start_tag tag ++ (render inside ++ end_tag tag)
unfolding render
render-element tag inside = rw append-nil refl

render-beside : (one other : Content) → render (beside one other) ≡ render one ++ render other
unfolding render beside
render-beside Nothing other = refl
render-beside (Text text after) other = rw (render-beside after other) (simp append_assoc)
render-beside (Element tag inside after) other =
    rw (render-beside after other) (five (start_tag tag) (render inside) (end_tag tag) (render after) (render other))

read-beside : {X : Type 0} → (one : Tag → Content → List X) (first second : Content) →
    read one (beside first second) ≡ read one first ++ read one second
unfolding beside
read-beside one Nothing second = refl
read-beside one (Text text after) second = read-beside one after second
read-beside one (Element tag inside after) second =
    rw (read-beside one after second) (four (one tag inside) (read one inside) (read one after) (read one second))

-- ---- one after the other

pub nothing : (text : List ℕ) → ShowsTags text text [] [] []
nothing text = record {
  content = Nothing;
  text = rw (render-nothing, append-nil) refl;
  marks_are = refl;
  lines_are = refl;
  heads_are = refl;
}

pub both : {a b c : List ℕ} {m l n k : List Tag} {h i : List (List ℕ)} → ShowsTags a b m l h → ShowsTags b c n k i → ShowsTags a c (m ++ n) (l ++ k) (h ++ i)
both {a = a} p q = record {
  content = beside p.content q.content;
  text = rw (q.text, p.text, render-beside p.content q.content) (append_assoc a (render p.content) (render q.content));
  marks_are = rw (read-beside mark p.content q.content, p.marks_are, q.marks_are) refl;
  lines_are = rw (read-beside line p.content q.content, p.lines_are, q.lines_are) refl;
  heads_are = rw (read-beside head p.content q.content, p.heads_are, q.heads_are) refl;
}

-- and last what is the answer
pub both_ok : {X E : Type 0} {a b : List ℕ} {m l : List Tag} {h : List (List ℕ)} (c : List ℕ) (n k : List Tag) (i : List (List ℕ)) (r : Result X E) →
    ShowsTags a b m l h → Draws b c n k i r → Draws a c (m ++ n) (l ++ k) (h ++ i) r
both_ok c n k i (Ok x) p q = both p q
both_ok c n k i (Err e) p q = tt

-- ---- single elements

-- of an element that holds nothing that is shown
one_element : {X : Type 0} → (one : Tag → Content → List X) (tag : Tag) (inside : Content) → read one inside ≡ [] →
    read one (Element tag inside Nothing) ≡ one tag inside
one_element one tag inside none = rw (none, append-nil) refl

pub shown : {a b : List ℕ} (tag : Tag) (inside : Content) → read mark inside ≡ [] → read line inside ≡ [] → read head inside ≡ [] →
    b ≡ a ++ render (Element tag inside Nothing) → ShowsTags a b (mark tag inside) (line tag inside) (head tag inside)
shown tag inside no_mark no_line no_head text = record {
  content = Element tag inside Nothing;
  text = text;
  marks_are = one_element mark tag inside no_mark;
  lines_are = one_element line tag inside no_line;
  heads_are = one_element head tag inside no_head;
}

-- a leaf has no text, and so it is no head
headless : (test : Bool) → ◌≡◌ {A = List (List ℕ)} (if test then [] else []) []
headless true = refl
headless false = refl

pub a_leaf : {a b : List ℕ} (tag : Tag) → b ≡ a ++ render (leaf tag) → ShowsTags a b (mark tag Nothing) (line tag Nothing) []
a_leaf (Label x y look) text = rw (headless (is_head look)) at (shown (Label x y look) Nothing refl refl refl text)
a_leaf tag text = shown tag Nothing refl refl refl text

pub a_label : {a b : List ℕ} (tag : Tag) (words : List ℕ) → b ≡ a ++ render (labelled tag words) →
    ShowsTags a b (mark tag (Text words Nothing)) (line tag (Text words Nothing)) (head tag (Text words Nothing))
a_label tag words text = shown tag (Text words Nothing) refl refl refl text

pub element_ok : {X E : Type 0} (a b : List ℕ) (tag : Tag) (inside : Content) (r : Result X E) →
    read mark inside ≡ [] → read line inside ≡ [] → read head inside ≡ [] → DrawsAfter a b (Element tag inside Nothing) r →
    Draws a b (mark tag inside) (line tag inside) (head tag inside) r
element_ok a b tag inside (Ok x) no_mark no_line no_head text = shown tag inside no_mark no_line no_head text
element_ok a b tag inside (Err e) no_mark no_line no_head text = tt

pub wrapped_ok : {X E : Type 0} (a b c d : List ℕ) (tag : Tag) (inside : Content) (r : Result X E) →
    b ≡ a ++ start_tag tag → c ≡ b ++ render inside → Prints c d (end_tag tag) r → DrawsAfter a d (Element tag inside Nothing) r
wrapped_ok a b c d tag inside (Ok x) opened held closed =
    rw (closed, held, opened, render-element tag inside) (simp append_assoc)
wrapped_ok a b c d tag inside (Err e) opened held closed = tt

pub no_column : (flags : List ℕ) (cell : ℕ) → slice_index flags cell ≡ 0 → column_head flags cell ≡ []
no_column flags cell none = rw none refl

pub a_column : (flags : List ℕ) (cell : ℕ) → slice_index flags cell ≢ 0 → column_head flags cell ≡ (codes "cell " ++ decimal cell) ∷ []
a_column flags cell some = by_test (slice_index flags cell == 0) refl
  where
    by_test : (test : Bool) → (slice_index flags cell == 0) ≡ test →
        (if test then [] else (codes "cell " ++ decimal cell) ∷ []) ≡ (codes "cell " ++ decimal cell) ∷ []
    by_test true is = let none : slice_index flags cell ≡ 0 = grind (arith, nat_tests) in absurd (some none)
    by_test false is = refl

-- ---- lists

one_more : {X Y : Type 0} → (f : X → List Y) (xs : List X) (i : ℕ) (d : X) → i < length xs →
    flat_map f (take (i + 1) xs) ≡ flat_map f (take i xs) ++ f (get_or xs i d)
one_more f xs i d lt = rw (take_more xs i d lt, flat_map-append) (ap (λ (ys : List _). flat_map f (take i xs) ++ ys) (append-nil (f (get_or xs i d))))

-- one more of a list was drawn
pub more : {X : Type 0} {a b c : List ℕ} (f g : X → List Tag) (xs : List X) (i : ℕ) (d : X) → i < length xs →
    ShowsTags a b (flat_map f (take i xs)) (flat_map g (take i xs)) [] → ShowsTags b c (f (get_or xs i d)) (g (get_or xs i d)) [] →
    ShowsTags a c (flat_map f (take (i + 1) xs)) (flat_map g (take (i + 1) xs)) []
more f g xs i d lt before here = rw (one_more f xs i d lt, one_more g xs i d lt) (both before here)

pub all_of : {X Y : Type 0} → (f : X → List Y) (xs : List X) (i : ℕ) → length xs ≤ i → flat_map f (take i xs) ≡ flat_map f xs
all_of f xs i past = let all : take i xs ≡ xs = grind (arith, common_steps) in rw all refl

pub one_title : {a b c : List ℕ} (title : List (Vec ℕ Global)) (i : ℕ) (line : Vec ℕ Global) → i < length title → line ≡ get_or title i line →
    ShowsTags a b [] [] (title_lines (take i title)) → ShowsTags b c [] [] (line.items ∷ []) → ShowsTags a c [] [] (title_lines (take (i + 1) title))
one_title {b = b} {c = c} title i line lt is before here =
    rw (one_more (λ one. one.items ∷ []) title i line lt) (both before (subst (λ (one : Vec ℕ Global). ShowsTags b c [] [] (one.items ∷ [])) is here))

-- ---- the rows of records

-- what is so of no owner is so of None alone
pub none_alone : (P : Option ℕ → Type 0) → ((owner : ℕ) → P (Some owner) → ⊥) → (whose : Option ℕ) → P whose → whose ≡ None
none_alone P not None p = refl
none_alone P not (Some owner) p = absurd (not owner p)

-- Those of the first records were drawn: with what the others have, it is all that they have.
abbrev pub RowsDrawn : Window → (workers : ℕ) → (given : List Record) → (whole : List Tag) → (i : ℕ) → (whose : List (Option ℕ)) → (a b : List ℕ) → Type 0
RowsDrawn window workers given whole i whose a b =
    (done : List Tag) × ShowsTags a b (flat_map (mark_of window) (take i given)) done [] × (done ++ row_lines window workers whose (drop i given) ≡ whole)

pub one_row : {a b c : List ℕ} (window : Window) (workers : ℕ) (given : List Record) (i : ℕ) (d : Record) (whose next : List (Option ℕ))
    (whole : List Tag) → i < length given → next ≡ at_after whose (get_or given i d) → RowsDrawn window workers given whole i whose a b →
    ShowsTags b c (mark_of window (get_or given i d)) (record_lines window workers next (get_or given i d)) [] →
    RowsDrawn window workers given whole (i + 1) next a c
one_row window workers given i d whose next whole lt goes before here = (
  before.0 ++ record_lines window workers next (get_or given i d),
  rw (one_more (mark_of window) given i d lt) (both before.1 here),
  rw (append_assoc, goes, add-one) (rw (drop-cons given i d lt) at before.2),
)

pub all_rows : {a b : List ℕ} (window : Window) (workers : ℕ) (given : List Record) (i : ℕ) (whose : List (Option ℕ)) (whole : List Tag) →
    length given ≤ i → RowsDrawn window workers given whole i whose a b → ShowsTags a b (flat_map (mark_of window) given) whole []
all_rows window workers given i whose whole past before =
    let none : drop i given ≡ [] = grind (arith, common_steps) in
    let same : before.0 ≡ whole = rw (none, append-nil) at before.2 in
    rw (all_of (mark_of window) given i past, same) at before.1

-- ---- lines that are told of records

module _ (z : Shape) (window : Window) (right : ℕ) (Fits : List Tag → Type 0) where
  -- what comes of the lines so far with those of the records from here on
  abbrev pub Goes : (words : List ℕ) (rest : List Record) (done : List Tag) → Type 0
  Goes words rest done = (more : List Tag) → AreNotices z window right words rest more → Fits (done ++ more)

  pub more_notices : (given : List Record) (i : ℕ) (words next : List ℕ) (d : Record) (done : List Tag) → i < length given → LeaveAll z words (get_or given i d ∷ []) next →
      Goes words (drop i given) done → Goes next (drop (i + 1) given) (done ++ notice z window right words (get_or given i d))
  more_notices given i words next d done lt leaves before more notices =
      let here : List Tag = notice z window right words (get_or given i d) in
      rw append_assoc (before (here ++ more) (rw (drop-cons given i d lt) (next, more, leaves, refl, (rw add-one at notices))))

  pub all_notices : (given : List Record) (i : ℕ) (words : List ℕ) (done : List Tag) → length given ≤ i → Goes words (drop i given) done → Fits done
  all_notices given i words done past before =
      let none : drop i given ≡ [] = grind (arith, common_steps) in
      rw append-nil at (before [] (rw none refl))

-- ---- the whole

pub framed : {a b c d : List ℕ} {m l n k : List Tag} {h i : List (List ℕ)} → ShowsTags a b m l h → ShowsTags b c [] [] [] → ShowsTags c d n k i →
    ShowsTags a d (m ++ n) (l ++ k) (h ++ i)
framed frame boxes more = both (simp append-nil at (both frame boxes)) more

pub a_picture : (title : List (Vec ℕ Global)) (z there : Shape) (cells : List ℕ) (given : List Record) (window here : Window) (flags : List ℕ)
    (right times width height : ℕ) (a b c d : List ℕ) (notices : List Tag) → there ≡ z → here ≡ window → length flags ≡ length cells →
    ColumnsAreChanges z cells given window flags → lane_x z.workers ≤ right → a ≡ [] → b ≡ a ++ start_tag (Svg width height) →
    AreNotices there here right (opening there cells) given notices →
    ShowsTags b c (legend_marks ++ flat_map (mark_of here) given) (legend_lines ++ (notices ++ row_lines here there.workers (at_first there.workers) given))
    (title_lines title ++ repeated (head_row there.workers flags) (times + 1)) → d ≡ c ++ end_tag (Svg width height) → IsPicture title z cells given window d
a_picture title z there cells given window here flags right times width height a b c d notices same_shape same_window long columns wide empty opened are_notices shows closed =
    let tag : Tag = Svg width height in
    record {
      width = width;
      height = height;
      inside = shows.content;
      text_is = rw (closed, shows.text, opened, empty, render-element tag shows.content) (append_assoc (start_tag tag) (render shows.content) (end_tag tag));
      marks_are_steps = rw same_window at shows.marks_are;
      right = right;
      across = wide;
      notices = notices;
      are_notices = rw (same_window, same_shape) at are_notices;
      lines_are = rw (same_window, same_shape) at shows.lines_are;
      flags = flags;
      long = long;
      columns_are_changes = columns;
      times = times + 1;
      some = omega arith;
      heads_are = rw same_shape at shows.heads_are;
    }

pub well_formed : {title : List (Vec ℕ Global)} {z : Shape} {cells : List ℕ} {given : List Record} {window : Window} {text : List ℕ} → IsPicture title z cells given window text →
    IsWellFormed text
well_formed picture = record { tag = Svg picture.width picture.height; inside = picture.inside; whole = picture.text_is }
