-- The picture of the tables, from the groups of their sources in order, the marks of their slots,
-- and the names of the listed groups.
use Rattle.std.specs.Prelude.{ℕ, ◌+◌, ◌-◌, ◌*◌, ◌==◌, nat_lt, List, [], ◌∷◌, ◌++◌, count_by, length, map, take, drop, codes, decimal, if◌then◌else◌, slice_index_or}
use Rattle.std.specs.List.{flat_map, range_with_len}
use Rattle.picture_text.specs.By.{head_by, sets_head}
use Rattle.picture_text.specs.Elements.{colour, ground, count_text, row_text, new_title, tried_title, wide_text}
use Rattle.picture_text.specs.Head.{head_text, labels_text, opening_text}
use Rattle.picture_text.specs.Maps.{map_text, map_with, name_at}
use Rattle.picture_text.specs.Marks.{buckets_of, dots_of}
use Rattle.picture_text.specs.Notes.{notes_by}
use Rattle.picture_text.specs.Spread.{spread_of}
use Rattle.slot_grid.specs.declared.sizes.TheConstants.{NEW_SLOTS}
use Rattle.picture_text.specs.declared.by.By.{By}
use Rattle.table_groups.specs.declared.sources.Source.{Source}

-- The marks of the new table's slots, which come first.
unfoldable pub in_new : List ℕ → List ℕ
in_new marks = take NEW_SLOTS marks

-- The marks of the tried table's slots, which come after those of the new table.
unfoldable pub in_tried : List ℕ → List ℕ
in_tried marks = drop NEW_SLOTS marks

-- the groups that are listed: the six with the most slots
abbrev pub listed_in : List Source → List Source
listed_in sources = take 6 sources

-- how many groups are not listed
abbrev pub others_of : List Source → ℕ
others_of sources = length sources - 6

-- how many groups are in more than 32 buckets of the new table
abbrev pub wide_of : List Source → ℕ
wide_of sources = count_by (λ s. nat_lt 32 s.buckets) sources

-- the name of all groups that are not listed
unfoldable pub others_name : ℕ → List ℕ
others_name others = codes "other groups: " ++ decimal others

-- the names of the marks
abbrev pub names_of : ℕ → List (List ℕ) → List (List ℕ)
names_of others names = names ++ (if others == 0 then [] else others_name others ∷ [])

-- how many slots are occupied
abbrev pub occupied : List ℕ → ℕ
occupied marks = length marks - dots_of marks 0

-- where a row of the list is
abbrev pub top_of : ℕ → ℕ
top_of index = 456 + 22 * index

-- the row of a listed group: its slots, those in the tried table, and its buckets of the new one
unfoldable pub group_row : Source → List ℕ → ℕ → List ℕ
group_row s name index =
    row_text (top_of index) (colour index) name (s.new + s.tried) s.tried
    ++ count_text 1056 (top_of index + 10) s.buckets

-- The listed group at an index; one without slots if there is none.
abbrev pub source_at : List Source → ℕ → Source
source_at listed index =
    slice_index_or listed index
    (record { group = record { items = [] }; new = 0; tried = 0; buckets = 0 })

-- The rows of the listed groups.
unfoldable pub group_rows : List Source → List (List ℕ) → List ℕ
group_rows listed names =
    flat_map (λ index. group_row (source_at listed index) (name_at names index) index)
    (range_with_len 0 (length listed))

-- that of a mark: at an index of the list, with its name
unfoldable pub mark_row : List ℕ → ℕ → ℕ → List ℕ → List ℕ
mark_row marks mark index name =
    row_text (top_of index) (colour (mark - 1)) name (dots_of marks mark)
    (dots_of (in_tried marks) mark)

-- that of all other groups
abbrev pub others_text : List ℕ → ℕ → List ℕ
others_text marks others = mark_row marks 7 6 (others_name others)

-- the same, if there are some
abbrev pub others_row : List ℕ → ℕ → List ℕ
others_row marks others = if others == 0 then [] else others_text marks others

-- that of the free slots
unfoldable pub free_row : List ℕ → ℕ → List ℕ
free_row marks index =
    row_text (top_of index) ground (codes "free") (dots_of marks 0) (dots_of (in_tried marks) 0)

-- both maps
unfoldable pub maps_text : List ℕ → List (List ℕ) → List ℕ
maps_text marks names =
    map_text 56 32 (in_new marks) names ++ map_text 694 16 (in_tried marks) names

-- the list
unfoldable pub rows_text : List Source → List ℕ → List (List ℕ) → ℕ → List ℕ
rows_text listed marks names others =
    group_rows listed names ++ (others_row marks others ++ free_row marks (length names))

-- how full the tables are
unfoldable pub titles_text : List ℕ → List ℕ
titles_text marks =
    new_title (occupied (in_new marks)) ++ tried_title (occupied (in_tried marks))

-- what is between the head and the end
unfoldable pub body_text : List Source → List ℕ → List (List ℕ) → List ℕ
body_text sources marks names =
    titles_text marks
    ++ (maps_text marks names
    ++ (rows_text (listed_in sources) marks names (others_of sources)
    ++ wide_text (wide_of sources)))

-- the whole picture
unfoldable pub picture_text : List Source → List ℕ → List (List ℕ) → List ℕ
picture_text sources marks names =
    opening_text ++ (head_text ++ (labels_text
    ++ (body_text sources marks (names_of (others_of sources) names) ++ codes "</svg>\n")))

-- the picture whose colours go by something, from the classes of the slots in order, with a line
-- that says which tables they are
unfoldable pub picture_by_text : By → List ℕ → List Source → List ℕ → List (List ℕ) → List ℕ
picture_by_text by facts sources marks names =
    opening_text ++ (head_by by facts
    ++ (body_text sources marks (names_of (others_of sources) names) ++ codes "</svg>\n"))

-- WHERE SOME OF THE OTHER GROUPS SPREAD

-- their name
unfoldable pub spread_name : ℕ → List ℕ
spread_name spread = codes "spread groups: " ++ decimal spread

-- both maps, each with a path of some marks over it
unfoldable pub maps_with : List ℕ → List (List ℕ) → List ℕ → ℕ → List ℕ → List ℕ
maps_with marks names over index name =
    map_with 56 32 (in_new marks) names (in_new over) index name
    ++ map_with 694 16 (in_tried marks) names (in_tried over) index name

-- what is between the head and the end; `over` has the mark 8 in slots of groups that spread
unfoldable pub spread_body : By → List Source → List ℕ → List (List ℕ) → List ℕ → List ℕ
spread_body by sources marks names over =
    titles_text marks
    ++ (maps_with marks names over 7 (spread_name (spread_of by sources))
    ++ (rows_text (listed_in sources) marks names (others_of sources)
    ++ (wide_text (wide_of sources)
    ++ (mark_row over 8 9 (spread_name (spread_of by sources)) ++ notes_by by))))

-- The whole picture, with marks and notes of the groups that spread.
unfoldable pub spread_picture : By → List ℕ → List Source → List ℕ → List (List ℕ) → List ℕ
    → List ℕ
spread_picture by facts sources marks names over =
    opening_text ++ (head_by by facts
    ++ (spread_body by sources marks (names_of (others_of sources) names) over
    ++ codes "</svg>\n"))

-- WHERE COLOURS GO BY SETS OF ADDRESSES

-- the numbers of a set: its slots, and its buckets of the new table
abbrev pub set_numbers : List ℕ → ℕ → Source
set_numbers marks index = record {
  group = record { items = [] };
  new = dots_of (in_new marks) (index + 1);
  tried = dots_of (in_tried marks) (index + 1);
  buckets = buckets_of marks (index + 1);
}

-- The numbers of all sets.
abbrev pub sets_in : List ℕ → ℕ → List Source
sets_in marks count = map (set_numbers marks) (range_with_len 0 count)

-- the name of the peers that are in none of the sets
abbrev pub rest_name : List ℕ
rest_name = codes "in no set"

-- the rows of the sets, of the other peers and of the free slots
unfoldable pub sets_rows : List ℕ → List (List ℕ) → List ℕ
sets_rows marks names =
    group_rows (sets_in marks (length names)) names
    ++ (mark_row marks 7 (length names) rest_name ++ free_row marks (length names + 1))

-- the picture from the marks of the slots, and the names of the sets: a set has its position among
-- them, counted from 1
unfoldable pub sets_picture : List ℕ → List ℕ → List (List ℕ) → List ℕ
sets_picture facts marks names =
    opening_text ++ (sets_head facts ++ (titles_text marks
    ++ (maps_with marks names marks 6 rest_name ++ (sets_rows marks names ++ codes "</svg>\n"))))
