-- Which part of the lists of tries opens all outbound connections to peers of some sets, at most.
use Rattle.std.specs.Prelude.{ℕ, List, filter, map}
use Rattle.placing.specs.Places.{group}
use Rattle.risk_parts.specs.Parts.{millionths}
use Rattle.risk_parts.specs.Sets.{is_among}
use Rattle.risk_parts.specs.declared.addr_set.AddrSet.{AddrSet}
use Rattle.risk_tries.specs.TenBound.{group_share, ten_bound, whole_of}
use Rattle.risk_tries.specs.declared.ten.TheConstants.{TRY_LISTS}
use Rattle.table_groups.specs.Tally.{once}
use Rattle.table_machine.specs.State.{State}

-- the groups of the peers whose addresses are in one of the sets, each once
abbrev pub groups_among : State → List AddrSet → List (List ℕ)
groups_among st sets =
    once (map (λ r. group st.places r.peer.addr)
    (filter (λ r. is_among st.places sets r.peer) st.records))

-- the part, in parts of a million, rounded up
abbrev pub ten_part : State → ℕ → List AddrSet → ℕ
ten_part st now sets =
    millionths
    (ten_bound (map (group_share st now) (groups_among st sets)) (whole_of st) TRY_LISTS)
    TRY_LISTS
