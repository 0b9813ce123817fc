-- Words that only private contracts cite.
use Rattle.std.specs.Prelude.{ℕ, List, Option, Some, None, bytes_eq, if◌then◌else◌}
use Rattle.indexmap.specs.IndexMap.{insert_entry}
use Rattle.peer_rec.specs.declared.rec.Rec.{Rec}
use Rattle.picture_text.specs.Spread.{is_spread}
use Rattle.picture_text.specs.declared.by.By.{By}
use Rattle.placing.specs.Places.{Places, group}
use Rattle.table_groups.specs.Tally.{value_in}
use Rattle.table_groups.specs.declared.sources.Source.{Source}

-- the marks of groups, with 8 for one that spreads
abbrev pub with_spread : By → List (List ℕ × ℕ) → Source → List (List ℕ × ℕ)
with_spread by marks s =
    if is_spread by s then insert_entry bytes_eq marks s.group.items 8 else marks

-- the mark of a slot by the marks of some groups, 0 for any other group
abbrev pub spread_by : Places → List (List ℕ × ℕ) → Option Rec → ℕ
spread_by places marks None = 0
spread_by places marks (Some r) = value_in 0 marks (group places r.source)
