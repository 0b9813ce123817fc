-- What only private contracts cite: what counts of each record, and sums of it.
use Rattle.std.specs.Prelude.{◌≡◌, ℕ, ◌*◌, ◌≤◌, ◌<◌, ◌^◌, ◌==◌, ◌||◌, min, Bool, true, false, All, List, filter, get_or, length, map, sum_by, if◌then◌else◌}
use Rattle.net_addr.specs.NetSet.{all}
use Rattle.peer_rec.specs.Rec.{chance}
use Rattle.peer_rec.specs.declared.rec.Rec.{Rec}
use Rattle.placing.specs.Places.{asn}
use Rattle.risk_laws.specs.Classes.{chances}
use Rattle.risk_sum.specs.Kinds.{AreKinds, most_by, starts_of}
use Rattle.risk_sum.specs.declared.kinds.Kind.{Kind}
use Rattle.slot_grid.specs.declared.sizes.TheConstants.{NEW_SLOTS}
use Rattle.table_laws.specs.Odds.{leading_starts}
use Rattle.table_machine.specs.Picks.{first_factor}
use Rattle.table_machine.specs.State.{State}
use Rattle.table_machine.specs.Sound.{IsSound}
use Rattle.risk_parts.specs.Parts.{parts_from, wanted_in}
use Rattle.risk_parts.specs.Sets.{any_by}
use Rattle.risk_parts.specs.declared.addr_set.AddrSet.{AddrSet}
use Rattle.risk_parts.specs.declared.leads.Lead.{Lead}
use Rattle.risk_parts.specs.declared.parts.Parts.{Parts}
use Rattle.risk_parts.specs.declared.parts.TheConstants.{AHEAD}

-- what counts of a record
abbrev pub lead_of : State → ℕ → Rec → Lead
lead_of st now r = record {
  addr = r.peer.addr;
  number = asn st.places.map r.peer.addr;
  chance = chance r now;
  new = leading_starts st true all r;
  tried = leading_starts st false all r;
}

-- The number of starts of a table that lead to a record.
abbrev pub lead_starts : Bool → Lead → ℕ
lead_starts true lead = lead.new
lead_starts false lead = lead.tried

-- the starts of a record of the chance
abbrev pub class_starts : Bool → ℕ → Lead → ℕ
class_starts in_new likely lead = if lead.chance == likely then lead_starts in_new lead else 0

-- one of the sets has its address
abbrev pub has_lead : List AddrSet → Lead → Bool
has_lead sets lead = any_by sets lead.addr lead.number

-- no chance has more starts than a table
abbrev pub FitTable : List Lead → Bool → Type 0
FitTable leads in_new =
    (i : ℕ) → i < 18 → sum_by (class_starts in_new (get_or chances i 0)) leads ≤ NEW_SLOTS

-- The starts that lead to records of a chance, without those of a set.
abbrev pub kind_of_all : List Lead → Bool → ℕ → Kind
kind_of_all leads in_new likely = record {
  chance = likely;
  all = sum_by (class_starts in_new likely) leads;
  theirs = 0;
}

-- The starts that lead to records, by their chances.
abbrev pub kinds_of_all : List Lead → Bool → List Kind
kinds_of_all leads in_new = map (kind_of_all leads in_new) chances

-- and how many of them lead to some of the records
abbrev pub with_theirs : List Lead → Bool → Kind → Kind
with_theirs some in_new k = record {
  chance = k.chance;
  all = k.all;
  theirs = sum_by (class_starts in_new k.chance) some;
}

-- what counts of the records whose addresses are in one of the sets
abbrev pub among : List Lead → List AddrSet → List Lead
among leads sets = filter (has_lead sets) leads

-- what holds of the kinds of a table and of the records in some sets
pub record FitsSets (leads : List Lead) (in_new : Bool) (kinds : List Kind) (wanted : ℕ)
    (sets : List AddrSet) : Type 0 where
  pub few : length kinds ≤ 18
  pub fit : All (λ k. sum_by (class_starts in_new k.chance) (among leads sets) ≤ NEW_SLOTS) kinds
  pub are : (wanted == 0) ≡ false → AreKinds (map (with_theirs (among leads sets) in_new) kinds)

-- Of 2^64 searches of a table, an upper bound on those that end at a record of the set, by the
-- kinds of its records.
unfoldable pub kinds_share : List Kind → ℕ
kinds_share kinds = most_by kinds (starts_of kinds * 2 ^ 30) (2 ^ 64) AHEAD first_factor

-- The same bound, at most all searches, and 0 if the table has no eligible record.
abbrev pub share_within : ℕ → List Kind → ℕ
share_within wanted kinds = if wanted == 0 then 0 else min (kinds_share kinds) (2 ^ 64)

-- The parts of some sets, from what counts of each record and the kinds of both tables.
abbrev pub parts_in : List Lead → List Kind → List Kind → ℕ → ℕ → List AddrSet → Parts
parts_in leads new tried wanted_new wanted_tried sets =
    parts_from (share_within wanted_new (map (with_theirs (among leads sets) true) new))
    (share_within wanted_tried (map (with_theirs (among leads sets) false) tried))
    (wanted_new == 0 || wanted_tried == 0)

-- What is computed from the tables at a time: what counts of each record, how many starts of each
-- table lead to records of each chance, and how many records it has.
pub record AreLeads (st : State) (now : ℕ) (leads : List Lead) (new tried : List Kind)
    (wanted : ℕ × ℕ) : Type 0 where
  pub sound : IsSound st
  pub each : leads ≡ map (lead_of st now) st.records
  pub new_kinds : new ≡ kinds_of_all leads true
  pub tried_kinds : tried ≡ kinds_of_all leads false
  pub wanted_new : wanted.0 ≡ wanted_in st true
  pub wanted_tried : wanted.1 ≡ wanted_in st false

-- they are those of some tables at some time
abbrev pub AreSomeLeads : List Lead → List Kind → List Kind → ℕ × ℕ → Type 0
AreSomeLeads leads new tried wanted =
    (st : State) × (now : ℕ) × AreLeads st now leads new tried wanted
