-- What only private contracts cite: the slots of a mask, the first records of groups, classes of
-- starts, the sides of both tables, and the groups of some sets.
use Rattle.std.specs.Int.{bit_at}
use Rattle.std.specs.List.{flat_map}
use Rattle.indexmap.specs.IndexMap.{insert_entry}
use Rattle.std.specs.Prelude.{ℕ, ◌*◌, ◌^◌, ◌==◌, Bool, false, List, [], ◌∷◌, length, map, ◌≡◌, ◌+◌, ◌≤◌, ◌||◌, min, sum_by, bytes_eq, ⊤, if◌then◌else◌}
use Rattle.peer_rec.specs.Rec.{chance}
use Rattle.peer_rec.specs.declared.rec.Rec.{Rec}
use Rattle.risk_laws.specs.Classes.{chances}
use Rattle.risk_sum.specs.Kinds.{most_by, starts_of, AreKinds}
use Rattle.risk_sum.specs.declared.kinds.Kind.{Kind}
use Rattle.table_machine.specs.Picks.{first_factor}
use Rattle.table_groups.specs.View.{View}
use Rattle.placing.specs.Places.{Places, group}
use Rattle.table_groups.specs.Tally.{by_bytes, tally_of, value_in}
use Rattle.table_risk.specs.Grouping.{group_by}
use Rattle.table_risk.specs.Occupants.{occupants_of}
use Rattle.table_risk.specs.Rows.{wanted_in}
use Rattle.table_risk.specs.declared.by.By.{By}
use Rattle.table_risk.specs.declared.classes.Class.{Class}
use Rattle.table_risk.specs.declared.classes.Search.{Search}
use Rattle.table_risk.specs.declared.occupants.Occupant.{Occupant}
use Rattle.table_risk.specs.declared.rows.Row.{Row}
use Rattle.table_risk.specs.declared.rows.Side.{Side}
use Rattle.risk_parts.specs.Parts.{millionths}
use Rattle.risk_parts.specs.Sets.{is_among}
use Rattle.risk_parts.specs.declared.addr_set.AddrSet.{AddrSet}
use Rattle.risk_parts.specs.declared.parts.TheConstants.{AHEAD}
use Rattle.risk_tries.specs.TenBound.{ten_bound}
use Rattle.risk_tries.specs.declared.ten.TheConstants.{TRY_LISTS}

-- the slot is in the mask
abbrev pub in_mask : ℕ → ℕ → Bool
in_mask mask slot = bit_at mask slot == 1

-- ---- the first record of each group

-- The lower of two indexes, which keeps the first record of a group.
abbrev pub lower : ℕ → ℕ → ℕ
lower n index = min n index

-- the groups of records, with their indices, counted on from one
abbrev pub index_visits : (Rec → List ℕ) → ℕ → List Rec → List (List ℕ × ℕ)
index_visits f index [] = []
index_visits f index (r ∷ recs) = (f r, index) ∷ index_visits f (index + 1) recs

-- each group of the records with the index of its first one, which is below `count`
abbrev pub firsts_by : Places → By → ℕ → List Rec → List (List ℕ × ℕ)
firsts_by places by count recs = tally_of count lower (index_visits (group_by by places) 0 recs)

-- ---- the starts that lead to the records of each chance

-- The sum of two numbers of starts.
abbrev pub plus : ℕ → ℕ → ℕ
plus n starts = n + starts

-- the group of a record of the chance, with how many starts lead to it
abbrev pub visits_for : Places → Search → ℕ → Occupant → List (List ℕ × ℕ)
visits_for places what likely o =
    if chance o.rec what.now == likely then (group_by what.by places o.rec, o.starts) ∷ []
    else []

-- The records of a chance, each by its group with its starts.
unfoldable pub class_visits : Places → Search → List Occupant → ℕ → List (List ℕ × ℕ)
class_visits places what occupants likely = flat_map (visits_for places what likely) occupants

-- what a class says
pub record Counts : Type 0 where
  pub chance : ℕ
  pub all : ℕ
  pub groups : List (List ℕ × ℕ)

-- What a class in memory says.
abbrev pub class_value : {H G : Type 0} → Class H G → Counts
class_value c = record { chance = c.chance; all = c.all; groups = by_bytes c.groups.entries }

-- how many starts some visits have
abbrev pub all_starts : List (List ℕ × ℕ) → ℕ
all_starts visits = sum_by (λ v. v.1) visits

-- The class of a chance, from the records in the slots.
abbrev pub class_by : Places → Search → List Occupant → ℕ → Counts
class_by places what occupants likely =
    let visits = class_visits places what occupants likely in
    record { chance = likely; all = all_starts visits; groups = tally_of 0 plus visits }

-- The kind of a group in a class.
abbrev pub kind_in : List ℕ → Counts → Kind
kind_in g c = record { chance = c.chance; all = c.all; theirs = value_in 0 c.groups g }

-- what a side says of its table
pub record Sides : Type 0 where
  pub classes : List Counts
  pub wanted : ℕ
  pub slots : ℕ

-- What a side in memory says.
abbrev pub side_value : {H G : Type 0} → Side H G → Sides
side_value s = record {
  classes = map class_value s.classes.items;
  wanted = s.wanted;
  slots = s.slots;
}

-- The side of a table, from a view.
abbrev pub side_by : View → Search → Sides
side_by view what =
    let occupants = occupants_of view what.in_new in
    record {
      classes = map (class_by view.places what occupants) chances;
      wanted = wanted_in view what.in_new;
      slots = length occupants;
    }

-- the side's table has no record, or none in a slot
abbrev pub is_none : Sides → Bool
is_none side = side.wanted == 0 || side.slots == 0

-- with records, a side and a group have kinds
pub record FitsSide (side : Sides) (g : List ℕ) : Type 0 where
  pub few : length side.classes ≤ 18
  pub kinds : is_none side ≡ false → AreKinds (map (kind_in g) side.classes)

-- Of 2^64 searches, an upper bound on those that end at a group, by its kinds.
unfoldable pub classes_share : List Counts → List ℕ → ℕ
classes_share classes g =
    let kinds = map (kind_in g) classes in
    most_by kinds (starts_of kinds * 2 ^ 30) (2 ^ 64) AHEAD first_factor

-- The same bound, at most all searches, and 0 if the table has no eligible record.
abbrev pub side_share : Sides → List ℕ → ℕ
side_share side g =
    if is_none side then 0 else min (classes_share side.classes g) (2 ^ 64)

-- how many picks the shares of a group are parts of
abbrev pub whole_in : Sides → Sides → ℕ
whole_in new tried = if new.wanted == 0 || tried.wanted == 0 then 2 ^ 64 else 2 ^ 65

-- The row of a group: its share of the picks, and of those from each table, in parts of a million.
abbrev pub row_in : Sides → Sides → List ℕ → ℕ → Row
row_in new tried g first =
    let in_new = side_share new g in
    let in_tried = side_share tried g in
    record {
      group = record { items = g };
      first = first;
      picks = millionths (in_new + in_tried) (whole_in new tried);
      new = millionths in_new (2 ^ 64);
      tried = millionths in_tried (2 ^ 64);
    }

-- ---- the groups of the peers of some sets

-- a record, whose group is noted if one of the sets has its peer's address
abbrev pub noted_among : Places → List AddrSet → List (List ℕ × ⊤) → Rec → List (List ℕ × ⊤)
noted_among places sets es r =
    if is_among places sets r.peer then insert_entry bytes_eq es (group places r.peer.addr) tt
    else es

-- how many of 2^64 or 2^65 picks return a peer of a group, at most
abbrev pub both_shares : Sides → Sides → List ℕ → ℕ
both_shares new tried g = side_share new g + side_share tried g

-- which part of the lists of tries opens all outbound connections to peers of some groups, at most
abbrev pub part_by : Sides → Sides → List (List ℕ) → ℕ
part_by new tried groups =
    millionths (ten_bound (map (both_shares new tried) groups) (whole_in new tried) TRY_LISTS)
    TRY_LISTS
