-- The map of a table: its tiles, and a path for each mark.
use Rattle.std.specs.Prelude.{ℕ, ◌+◌, ◌*◌, List, [], ◌++◌, length, codes, decimal, slice_index_or}
use Rattle.std.specs.List.{flat_map, range_with_len}
use Rattle.dot_runs.specs.Tables.{path_text}
use Rattle.picture_text.specs.Elements.{colour}

-- The name at an index; empty if there is none.
abbrev pub name_at : List (List ℕ) → ℕ → List ℕ
name_at names index = slice_index_or names index []

-- the path of the mark after the index, with its name, which a viewer shows over its dots
unfoldable pub path_element : List ℕ → ℕ → List ℕ → ℕ → List ℕ
path_element marks side name index =
    codes "<path fill=\"" ++ (colour index ++ (codes "\" d=\"" ++ (path_text (index + 1) side marks
    ++ (codes "\"><title>" ++ (name ++ codes "</title></path>\n")))))

-- a path for each name, from the mark 1 on
unfoldable pub paths_text : List ℕ → ℕ → List (List ℕ) → List ℕ
paths_text marks side names =
    flat_map (λ index. path_element marks side (name_at names index) index)
    (range_with_len 0 (length names))

-- where the map is, in twice the size of its dots
unfoldable pub map_opening : ℕ → List ℕ
map_opening x =
    codes "<g transform=\"translate("
    ++ (decimal x ++ codes " 98) scale(2)\" shape-rendering=\"crispEdges\">\n")

-- the ground of all tiles
unfoldable pub ground_text : ℕ → List ℕ
ground_text size =
    codes "<rect width=\"" ++ (decimal size
    ++ (codes "\" height=\"" ++ (decimal size ++ codes "\" fill=\"url(#free)\"/>\n")))

-- the map of a table, `side` tiles wide
unfoldable pub map_text : ℕ → ℕ → List ℕ → List (List ℕ) → List ℕ
map_text x side marks names =
    map_opening x ++ (ground_text (9 * side) ++ (paths_text marks side names ++ codes "</g>\n"))

-- the same, and over it a path of some marks in the colour of an index
unfoldable pub map_with : ℕ → ℕ → List ℕ → List (List ℕ) → List ℕ → ℕ → List ℕ → List ℕ
map_with x side marks names over index name =
    map_opening x ++ (ground_text (9 * side) ++ (paths_text marks side names
    ++ (path_element over side name index ++ codes "</g>\n")))
