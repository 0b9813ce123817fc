-- Which part of the lists of tries opens all connections to peers of some groups, at most.
use Rattle.std.specs.Prelude.{ℕ, zero, suc, ◌+◌, ◌-◌, ◌*◌, ◌^◌, ◌==◌, ◌||◌, min, nat_lt, List, [], ◌∷◌, true, false, bytes_eq, sum, if◌then◌else◌}
use Rattle.net_addr.specs.NetSet.{all}
use Rattle.peer_open.specs.declared.opener.TheConstants.{MAX_OUTBOUND}
use Rattle.placing.specs.Places.{group}
use Rattle.risk_parts.specs.Parts.{share_for}
use Rattle.risk_sum.specs.Kinds.{rounded_up}
use Rattle.table_machine.specs.Picks.{wanted_new, wanted_tried}
use Rattle.table_machine.specs.State.{State}

-- Of so many picks, how many return a peer of the group, at most. With records in both tables, half
-- of the picks come from each.
abbrev pub whole_of : State → ℕ
whole_of st = if wanted_new st all == 0 || wanted_tried st all == 0 then 2 ^ 64 else 2 ^ 65

-- The shares of a group in both tables, each of 2^64 searches.
abbrev pub group_share : State → ℕ → List ℕ → ℕ
group_share st now g =
    share_for st true now (λ peer. bytes_eq g (group st.places peer.addr))
    + share_for st false now (λ peer. bytes_eq g (group st.places peer.addr))

-- the least sum of so many of the numbers; `none` if there are fewer
abbrev pub least_sum : ℕ → ℕ → List ℕ → ℕ
least_sum none zero shares = 0
least_sum none (suc count) [] = none
least_sum none (suc count) (share ∷ shares) =
    min (share + least_sum none count shares) (least_sum none (suc count) shares)

-- Of `left` lists, how many open so many more connections to these groups, at most. The peers that
-- are open already have groups of their own, whose shares are at least the least ones.
abbrev pub part_from : List ℕ → ℕ → ℕ → ℕ → ℕ → ℕ → ℕ
part_from shares total whole opened zero left = left
part_from shares total whole opened (suc count) left =
    part_from shares total whole (suc opened) count
    (rounded_up (left * (total - least_sum total opened shares))
    (whole - least_sum total opened shares))

-- of `unit` lists, how many open all connections to these groups, at most
abbrev pub ten_bound : List ℕ → ℕ → ℕ → ℕ
ten_bound shares whole unit =
    if nat_lt (sum shares) whole then part_from shares (sum shares) whole 0 MAX_OUTBOUND unit
    else unit
