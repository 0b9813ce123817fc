-- The picture of a view.
use Rattle.std.specs.Prelude.{ℕ, ◌+◌, ◌==◌, List, [], length, map, Option, Some, None, if◌then◌else◌}
use Rattle.std.specs.List.{position_or_len, range_with_len}
use Rattle.placing.specs.Places.{Places}
use Rattle.peer_rec.specs.declared.rec.Rec.{Rec}
use Rattle.picture_text.specs.Picture.{listed_in, picture_by_text, picture_text, sets_picture, spread_picture}
use Rattle.picture_text.specs.Spread.{spread_of}
use Rattle.picture_text.specs.declared.by.By.{By}
use Rattle.picture_text.specs.declared.by.By.TheVariants.{Source as BySource}
use Rattle.table_groups.specs.Sources.{sources_of}
use Rattle.table_groups.specs.declared.sources.Source.{Source}
use Rattle.risk_parts.specs.Sets.{set_text}
use Rattle.risk_parts.specs.declared.addr_set.AddrSet.{AddrSet}
use Rattle.table_picture.specs.By.{name_by, newest_in, rec_in, view_by}
use Rattle.table_picture.specs.Facts.{facts_of}
use Rattle.table_picture.specs.Marks.{marks_by}
use Rattle.table_picture.specs.Slots.{rec_set, rec_spread, slot_marks, spread_in}
use Rattle.table_groups.specs.View.{View}

-- The name of the colour of a record; empty if there is none.
abbrev pub rec_name : By → ℕ → Places → Option Rec → List ℕ
rec_name by newest places None = []
rec_name by newest places (Some r) = name_by by newest places r

-- the name of the listed group at an index: that of the record in the first slot with its mark
abbrev pub mark_name : By → ℕ → View → List ℕ → ℕ → List ℕ
mark_name by newest view marks index =
    rec_name by newest view.places (rec_in view (position_or_len (λ m. m == index + 1) marks))

-- The names of the listed groups, by their marks.
abbrev pub names_in : By → ℕ → View → List ℕ → ℕ → List (List ℕ)
names_in by newest view marks count =
    map (mark_name by newest view marks) (range_with_len 0 count)

-- the groups that are listed
unfoldable pub listed_of : View → List Source
listed_of view = listed_in (sources_of view)

-- the marks of the slots
abbrev pub marks_of : View → List ℕ
marks_of view = marks_by view (listed_of view)

-- the picture of a view
unfoldable pub picture_of : View → List ℕ
picture_of view =
    picture_text (sources_of view) (marks_of view)
    (names_in BySource 0 view (marks_of view) (length (listed_of view)))

-- the marks of the slots of groups that spread
abbrev pub spread_marks : By → View → List ℕ
spread_marks by view = slot_marks (rec_spread view.places (spread_in by (sources_of view))) view

-- the picture of a view's groups, with those that spread if there are some
abbrev pub picture_from : By → List ℕ → View → List (List ℕ) → List ℕ
picture_from by facts view names =
    if spread_of by (sources_of view) == 0
    then picture_by_text by facts (sources_of view) (marks_of view) names
    else spread_picture by facts (sources_of view) (marks_of view) names (spread_marks by view)

-- the picture whose colours go by something: its groups are those of the view with other addresses
-- in the place of sources
unfoldable pub picture_with : By → List ℕ → ℕ → View → View → List ℕ
picture_with by facts newest view other =
    picture_from by facts other
    (names_in by newest view (marks_of other) (length (listed_of other)))

-- The picture of a view, by what its colours show.
abbrev pub picture_by : By → List ℕ → View → List ℕ
picture_by by chain view =
    picture_with by (facts_of chain view) (newest_in view.records) view
    (view_by by (newest_in view.records) view)

-- the picture whose colours go by sets of addresses
unfoldable pub picture_of_sets : List AddrSet → List ℕ → View → List ℕ
picture_of_sets sets chain view =
    sets_picture (facts_of chain view) (slot_marks (rec_set view.places sets) view)
    (map set_text sets)
