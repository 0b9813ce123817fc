-- The mark of each slot by a rule of its record.
use Rattle.std.specs.Prelude.{ℕ, ◌+◌, List, [], ◌∷◌, map, filter, Option, Some, None, bytes_eq, if◌then◌else◌}
use Rattle.std.specs.List.{list_any, range_with_len}
use Rattle.net_addr.specs.Address.{Address}
use Rattle.peer_rec.specs.declared.rec.Rec.{Rec}
use Rattle.picture_text.specs.Spread.{is_spread, unlisted_in}
use Rattle.picture_text.specs.declared.by.By.{By}
use Rattle.placing.specs.Places.{Places, asn, group}
use Rattle.risk_parts.specs.Sets.{set_by}
use Rattle.risk_parts.specs.declared.addr_set.AddrSet.{AddrSet}
use Rattle.slot_grid.specs.declared.sizes.TheConstants.{ALL_SLOTS}
use Rattle.table_groups.specs.View.{View}
use Rattle.table_groups.specs.declared.sources.Source.{Source}
use Rattle.table_picture.specs.By.{rec_in}

-- by rising bucket, those of the new table first
unfoldable pub slot_marks : (Option Rec → ℕ) → View → List ℕ
slot_marks mark view = map (λ slot. mark (rec_in view slot)) (range_with_len 0 ALL_SLOTS)

-- 8 for a group that is one of these, else 0
abbrev pub spread_mark : List Source → List ℕ → ℕ
spread_mark spread g = if list_any (λ s. bytes_eq g s.group.items) spread then 8 else 0

-- The mark of a slot by its record: 8 if the group of its source spreads, and 0 for a free slot.
abbrev pub rec_spread : Places → List Source → Option Rec → ℕ
rec_spread places spread None = 0
rec_spread places spread (Some r) = spread_mark spread (group places r.source)

-- the groups that are not listed and spread
abbrev pub spread_in : By → List Source → List Source
spread_in by sources = filter (is_spread by) (unlisted_in sources)

-- The position of the first set that has the address, counted on from n, and 7 if none has. The
-- number is that of the autonomous system that announces it.
abbrev pub set_mark : ℕ → List AddrSet → Address → ℕ → ℕ
set_mark n [] a number = 7
set_mark n (set ∷ sets) a number = if set_by set a number then n else set_mark (n + 1) sets a number

-- that of a record's peer, and 0 without a record
abbrev pub rec_set : Places → List AddrSet → Option Rec → ℕ
rec_set places sets None = 0
rec_set places sets (Some r) = set_mark 1 sets r.peer.addr (asn places.map r.peer.addr)
