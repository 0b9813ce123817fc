-- The groups of records, and which part of the picks falls to each, at most.
use Rattle.std.specs.Prelude.{◌≡◌, ℕ, ◌+◌, ◌^◌, ◌==◌, ◌||◌, length, min, Bool, true, false, Contains, List, map, if◌then◌else◌}
use Rattle.std.specs.Cmp.Lexicographic.{slice_cmp}
use Rattle.std.specs.List.{position_or_len}
use Rattle.std.specs.Ordering.{is_lt, nat_cmp, ordering_then}
use Rattle.std.specs.declared.cmp.Ordering.{Ordering}
use Rattle.net_addr.specs.NetSet.{all}
use Rattle.net_addr.specs.declared.peer.Peer.{Peer}
use Rattle.peer_rec.specs.declared.rec.Rec.{Rec}
use Rattle.risk_parts.specs.Parts.{millionths}
use Rattle.table_machine.specs.State.{State}
use Rattle.table_groups.specs.Tally.{once}
use Rattle.table_groups.specs.View.{View, wanted_new, wanted_tried}
use Rattle.table_risk.specs.Grouping.{group_by, is_in}
use Rattle.table_risk.specs.Occupants.{occupants_of}
use Rattle.table_risk.specs.Shares.{share_of}
use Rattle.table_risk.specs.declared.by.By.{By}
use Rattle.table_risk.specs.declared.classes.Search.{Search}
use Rattle.table_risk.specs.declared.rows.Row.{Row}

-- The search of a table, of groups of this kind, at this time.
abbrev pub search : Bool → By → ℕ → Search
search in_new by now = record { in_new = in_new; by = by; now = now }

-- how many records a table has
abbrev pub wanted_in : View → Bool → ℕ
wanted_in view true = wanted_new view all
wanted_in view false = wanted_tried view all

-- a table has no record, or none in a slot
abbrev pub has_none : View → Bool → Bool
has_none view in_new =
    wanted_in view in_new == 0 || length (occupants_of view in_new) == 0

-- of 2^64 searches of a table, how many end at records of the group, at most: none if it has no
-- records
abbrev pub share_in : View → Search → List ℕ → ℕ
share_in view what g =
    if has_none view what.in_new then 0 else min (share_of view what g) (2 ^ 64)

-- A group, whose first record has this index. With records in both tables, half of the picks come
-- from each.
abbrev pub row_by : View → By → ℕ → List ℕ → ℕ → Row
row_by view by now g first =
    let new = share_in view (search true by now) g in
    let tried = share_in view (search false by now) g in
    record {
      group = record { items = g };
      first = first;
      picks = millionths (new + tried)
          (if wanted_new view all == 0 || wanted_tried view all == 0 then 2 ^ 64 else 2 ^ 65);
      new = millionths new (2 ^ 64);
      tried = millionths tried (2 ^ 64);
    }

-- the groups of the records, each once
abbrev pub groups_by : View → By → List (List ℕ)
groups_by view by = once (map (group_by by view.places) view.records)

-- the index of the first record of a group
abbrev pub first_in : View → By → List ℕ → ℕ
first_in view by g = position_or_len (is_in by view.places g) view.records

-- the rows of all groups, in the order of their first records
unfoldable pub rows_of : View → By → ℕ → List Row
rows_of view by now =
    map (λ g. row_by view by now g (first_in view by g)) (groups_by view by)

-- the row with more picks comes first, and of two with as many the one with the lower group
abbrev pub rank_cmp : Row → Row → Ordering
rank_cmp a b =
    ordering_then (nat_cmp b.picks a.picks) (slice_cmp nat_cmp a.group.items b.group.items)

-- The row comes before another one.
abbrev pub comes_before : Row → Row → Bool
comes_before a b = is_lt (rank_cmp a b)

-- the peers among the records that are in the set are those of the group
abbrev pub AreOfGroup : State → By → List ℕ → (Peer → Bool) → Type 0
AreOfGroup st by g theirs =
    (r : Rec) → Contains st.records r → theirs r.peer ≡ is_in by st.places g r
