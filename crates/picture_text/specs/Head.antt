-- What each picture has. A picture is an SVG 2 document.
use Rattle.std.specs.Prelude.{ℕ, List, [], ◌∷◌, ◌++◌, codes}
use Rattle.std.specs.List.{flat_map}
use Rattle.picture_text.specs.Elements.{label}
use Rattle.picture_text.specs.Markup.{element, single}

-- the picture's element: an SVG of its own (SVG 2), which a screen reader announces as one image
abbrev pub svg_attributes : List (List ℕ × List ℕ)
svg_attributes =
    (codes "xmlns", codes "http://www.w3.org/2000/svg") ∷ (codes "viewBox", codes "0 0 1080 712")
    ∷ (codes "role", codes "img") ∷ []

-- The opening tag of the picture's element.
unfoldable pub opening_text : List ℕ
opening_text =
    codes "<svg xmlns=\"http://www.w3.org/2000/svg\" viewBox=\"0 0 1080 712\" role=\"img\">\n"

-- the description of the picture: for readers who cannot see it, and below its title
abbrev pub meaning : List ℕ
meaning =
    codes "A square is a bucket, and a dot in it is an occupied slot."
    ++ codes " Its colour is the group of the source that first announced the peer."

-- The styles of the texts.
abbrev pub styles : List ℕ
styles =
    codes "text{font:13px sans-serif;fill:#1b1f24}.h{font-size:20px}.b{font-weight:bold}"
    ++ codes ".k{font-size:12px;fill:#57606a}.n{text-anchor:end}"

-- the ground of a free tile: eight dots of nine
abbrev pub tile : List ℕ
tile =
    single (codes "path")
    ((codes "fill", codes "#eceff2") ∷ (codes "d", codes "M0 0h8v8h-8z") ∷ []) []

-- The attributes of the pattern that repeats a free tile.
abbrev pub tile_attributes : List (List ℕ × List ℕ)
tile_attributes =
    (codes "id", codes "free") ∷ (codes "width", codes "9") ∷ (codes "height", codes "9")
    ∷ (codes "patternUnits", codes "userSpaceOnUse") ∷ []

-- its description, styles and grounds
unfoldable pub head_text : List ℕ
head_text =
    element (codes "title") [] (codes "The tables of peers.dat") (codes "\n")
    ++ (element (codes "desc") [] meaning (codes "\n")
    ++ (element (codes "style") [] styles (codes "\n")
    ++ (element (codes "pattern") tile_attributes tile (codes "\n")
    ++ single (codes "rect")
    ((codes "width", codes "1080") ∷ (codes "height", codes "712")
    ∷ (codes "fill", codes "#fff") ∷ []) (codes "\n"))))

-- A label: its coordinates, its class of style, and its text.
pub record Label : Type 0 where
  pub x : List ℕ
  pub y : List ℕ
  pub class : List ℕ
  pub text : List ℕ

-- The label with these parts.
abbrev pub at : List ℕ → List ℕ → List ℕ → List ℕ → Label
at x y class text = record { x = x; y = y; class = class; text = text }

-- the title, the number of the first bucket of every fourth row of tiles, the head of the list, and
-- what its numbers mean
abbrev pub labels : List Label
labels =
    at (codes "24") (codes "36") (codes "h") (codes "The tables of peers.dat")
    ∷ at (codes "24") (codes "58") (codes "k") meaning
    ∷ at (codes "50") (codes "110") (codes "n k") (codes "0")
    ∷ at (codes "50") (codes "182") (codes "n k") (codes "128")
    ∷ at (codes "50") (codes "254") (codes "n k") (codes "256")
    ∷ at (codes "50") (codes "326") (codes "n k") (codes "384")
    ∷ at (codes "50") (codes "398") (codes "n k") (codes "512")
    ∷ at (codes "50") (codes "470") (codes "n k") (codes "640")
    ∷ at (codes "50") (codes "542") (codes "n k") (codes "768")
    ∷ at (codes "50") (codes "614") (codes "n k") (codes "896")
    ∷ at (codes "688") (codes "110") (codes "n k") (codes "0")
    ∷ at (codes "688") (codes "182") (codes "n k") (codes "64")
    ∷ at (codes "688") (codes "254") (codes "n k") (codes "128")
    ∷ at (codes "688") (codes "326") (codes "n k") (codes "192")
    ∷ at (codes "694") (codes "422") (codes "b") (codes "Source groups with the most slots")
    ∷ at (codes "712") (codes "444") (codes "k") (codes "group")
    ∷ at (codes "896") (codes "444") (codes "n k") (codes "slots")
    ∷ at (codes "970") (codes "444") (codes "n k") (codes "tried")
    ∷ at (codes "1056") (codes "444") (codes "n k") (codes "new buckets")
    ∷ at (codes "694") (codes "664") (codes "k")
    (codes "Peers announced by one group get 64 of the 1024 new")
    ∷ at (codes "694") (codes "680") (codes "k")
    (codes "buckets. A peer that other groups announced too may be")
    ∷ at (codes "694") (codes "696") (codes "k")
    (codes "in theirs, and keeps the colour of its first source.")
    ∷ []

-- The labels of the usual picture.
unfoldable pub labels_text : List ℕ
labels_text = flat_map (λ l. label l.x l.y l.class l.text) labels
