-- The elements of the picture.
use Rattle.std.specs.Prelude.{ℕ, ◌+◌, ◌==◌, List, ◌++◌, if◌then◌else◌, codes, decimal}

-- the colour of the mark after the index: six that differ for eyes of every kind (Okabe and Ito),
-- grey for all other groups, and one nearly black for those of them that spread
abbrev pub colour : ℕ → List ℕ
colour index =
    if index == 0 then codes "#d55e00"
    else if index == 1 then codes "#0072b2"
    else if index == 2 then codes "#009e73"
    else if index == 3 then codes "#cc79a7"
    else if index == 4 then codes "#e69f00"
    else if index == 5 then codes "#56b4e9"
    else if index == 6 then codes "#57606a"
    else codes "#0b0c0d"

-- that of a free slot
abbrev pub ground : List ℕ
ground = codes "#eceff2"

-- a text of a class at a position
abbrev pub label : List ℕ → List ℕ → List ℕ → List ℕ → List ℕ
label x y class text =
    codes "<text x=\"" ++ (x ++ (codes "\" y=\"" ++ (y
    ++ (codes "\" class=\"" ++ (class ++ (codes "\">" ++ (text ++ codes "</text>\n")))))))

-- how many of the new table's slots are occupied
unfoldable pub new_title : ℕ → List ℕ
new_title count =
    codes "<text x=\"56\" y=\"88\" class=\"b\">New table: "
    ++ (decimal count ++ codes " of 65536 slots are occupied</text>\n")

-- and of the tried one's
unfoldable pub tried_title : ℕ → List ℕ
tried_title count =
    codes "<text x=\"694\" y=\"88\" class=\"b\">Tried table: "
    ++ (decimal count ++ codes " of 16384 slots are occupied</text>\n")

-- how many groups are in many buckets of the new table
unfoldable pub wide_text : ℕ → List ℕ
wide_text count =
    codes "<text x=\"694\" y=\"644\">Groups in more than 32 of the 1024 new buckets: "
    ++ (decimal count ++ codes "</text>\n")

-- a row of the list: the square of its colour
unfoldable pub swatch : ℕ → List ℕ → List ℕ
swatch y fill =
    codes "<rect x=\"694\" y=\"" ++ (decimal y
    ++ (codes "\" width=\"11\" height=\"11\" fill=\"" ++ (fill ++ codes "\"/>\n")))

-- its name
unfoldable pub name_text : ℕ → List ℕ → List ℕ
name_text y name =
    codes "<text x=\"712\" y=\"" ++ (decimal y ++ (codes "\">" ++ (name ++ codes "</text>\n")))

-- a count in it
unfoldable pub count_text : ℕ → ℕ → ℕ → List ℕ
count_text x y count =
    codes "<text x=\"" ++ (decimal x ++ (codes "\" y=\"" ++ (decimal y
    ++ (codes "\" class=\"n\">" ++ (decimal count ++ codes "</text>\n")))))

-- the row but for the buckets
unfoldable pub row_text : ℕ → List ℕ → List ℕ → ℕ → ℕ → List ℕ
row_text y fill name slots tried =
    swatch y fill
    ++ (name_text (y + 10) name ++ (count_text 896 (y + 10) slots ++ count_text 970 (y + 10) tried))
