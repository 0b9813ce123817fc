-- Whether a node connects to the peer of a try (`CConnman::ThreadOpenConnections` in net.cpp of
-- Bitcoin Core; the number of tries that rule out a recently tried peer, thirty, is our own). Times
-- are in seconds since 1970; tries are numbered from 1.
use Rattle.std.specs.Prelude.{ℕ, ◌-◌, List, Bool, ◌&&◌, nat_lt, nat_le, if◌then◌else◌}
use Rattle.peer_open.specs.Groups.{Outbound, has_group}
use Rattle.peer_open.specs.declared.outbound.Verdict.{Verdict}
use Rattle.peer_open.specs.declared.outbound.Verdict.TheVariants.{Take, SameGroup, Recent}

-- in the first thirty tries, a peer is ruled out if it was last tried less than ten minutes ago; a
-- last try ahead of the clock counts as one of now
abbrev pub is_recent : ℕ → ℕ → ℕ → Bool
is_recent last_try now tries = nat_lt (now - last_try) 600 && nat_le tries 30

-- for a feeler, which stays open only until the peer answered, groups do not count
abbrev pub judge_feeler : ℕ → ℕ → ℕ → Verdict
judge_feeler last_try now tries = if is_recent last_try now tries then Recent else Take

-- The verdict on a peer to connect to: an open peer of its group rules it out, and else a try that
-- is too recent.
abbrev pub judge : List Outbound → List ℕ → ℕ → ℕ → ℕ → Verdict
judge open_peers group last_try now tries =
    if has_group group open_peers then SameGroup else judge_feeler last_try now tries
