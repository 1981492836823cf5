-- The tags of the elements: a name, and attributes of which no two have one name.
use Rattle.std.specs.Prelude.{ℕ, List, ◌++◌, codes, decimal}
use Rattle.rh_play_text.specs.Words.{kind_word}
use Rattle.rh_svg.specs.Looks.{look_word, tint}
use Rattle.rh_svg.specs.Outlines.{outline, reference}
use Rattle.rh_svg.specs.declared.tags.TheConstants.{NAMESPACE}
use Rattle.rh_svg.specs.declared.looks.Look.{Look}
use Rattle.rh_svg.specs.declared.tags.Tag.{Tag}
use Rattle.rh_svg.specs.declared.tags.Tag.TheVariants.{Svg, Style, Definitions, Outline, Title, Box, Line, Dot, Label, Mark}

abbrev pub name : Tag → List ℕ
name (Svg width height) = codes "svg"
name Style = codes "style"
name Definitions = codes "defs"
name (Outline kind) = codes "path"
name Title = codes "title"
name (Box x y width height look) = codes "rect"
name (Line x y to_x to_y look) = codes "line"
name (Dot x y look) = codes "circle"
name (Label x y look) = codes "text"
name (Mark x y kind) = codes "use"

-- an attribute before others
abbrev pub with : (name value rest : List ℕ) → List ℕ
with name value rest = codes " " ++ (name ++ (codes "=\"" ++ (value ++ (codes "\"" ++ rest))))

abbrev pub with_look : Look → (rest : List ℕ) → List ℕ
with_look look rest = codes " class=\"" ++ (look_word look ++ (tint look ++ (codes "\"" ++ rest)))

-- an attribute that says where a picture begins, and how large it is
abbrev pub with_sizes : (name : List ℕ) → (width height : ℕ) → (rest : List ℕ) → List ℕ
with_sizes name width height rest =
    codes " " ++ (name ++ (codes "=\"0 0 " ++ (decimal width ++ (codes " " ++ (decimal height ++ (codes "\"" ++ rest))))))

-- the attributes of an element, before what follows
abbrev pub attributes : Tag → (rest : List ℕ) → List ℕ
attributes (Svg width height) rest =
    with (codes "xmlns") NAMESPACE.now (with (codes "width") (decimal width)
    (with (codes "height") (decimal height) (with_sizes (codes "viewBox") width height rest)))
attributes Style rest = rest
attributes Definitions rest = rest
attributes (Outline kind) rest = with (codes "id") (kind_word kind) (with (codes "d") (outline kind) rest)
attributes Title rest = rest
attributes (Box x y width height look) rest =
    with (codes "x") (decimal x) (with (codes "y") (decimal y)
    (with (codes "width") (decimal width) (with (codes "height") (decimal height) (with_look look rest))))
attributes (Line x y to_x to_y look) rest =
    with (codes "x1") (decimal x) (with (codes "y1") (decimal y)
    (with (codes "x2") (decimal to_x) (with (codes "y2") (decimal to_y) (with_look look rest))))
attributes (Dot x y look) rest =
    with (codes "r") (codes "4") (with (codes "cx") (decimal x) (with (codes "cy") (decimal y) (with_look look rest)))
attributes (Label x y look) rest = with (codes "x") (decimal x) (with (codes "y") (decimal y) (with_look look rest))
attributes (Mark x y kind) rest =
    with (codes "href") (reference kind) (with (codes "x") (decimal x) (with (codes "y") (decimal y)
    (with (codes "class") (kind_word kind) rest)))

abbrev pub start_tag : Tag → List ℕ
start_tag tag = codes "<" ++ (name tag ++ attributes tag (codes ">"))

abbrev pub end_tag : Tag → List ℕ
end_tag tag = codes "</" ++ (name tag ++ codes ">")
