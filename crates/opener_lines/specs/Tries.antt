-- The tries of a connection (`CConnman::ThreadOpenConnections` in net.cpp of Bitcoin Core). Each
-- try picks a peer by random words of its own, and the first one that decides counts.
use Rattle.std.specs.Prelude.{◌≡◌, ℕ, suc, ◌+◌, ◌<◌, ◌≤◌, List, Bool, true, false, ◌||◌, ◌==◌, Option, Some, None, option_map, unwrap_or, if◌then◌else◌}
use Rattle.net_addr.specs.NetSet.{all}
use Rattle.net_addr.specs.declared.peer.Peer.{Peer}
use Rattle.placing.specs.Places.{Places, group}
use Rattle.peer_rec.specs.declared.answers.Picked.{Picked}
use Rattle.peer_rec.specs.declared.answers.Picked.TheVariants as picked
use Rattle.table_machine.specs.Picks.{select}
use Rattle.table_machine.specs.State.{State, find_peer}
use Rattle.random_words.specs.Seeded.{seeded_words}
use Rattle.manager.specs.Machine.{Machine}
use Rattle.peer_open.specs.Groups.{Outbound}
use Rattle.peer_open.specs.Rules.{counted_group, has_bad_port, lacks_services, lacks_useful_services}
use Rattle.peer_open.specs.Verdicts.{judge, judge_feeler}
use Rattle.peer_open.specs.declared.opener.TheConstants.{MAX_TRIES}
use Rattle.peer_open.specs.declared.outbound.Verdict.{Verdict}
use Rattle.peer_open.specs.declared.outbound.Verdict.TheVariants as verdict
use Rattle.peer_open.specs.declared.rules.OpenRules.{OpenRules}
use Rattle.opener_lines.specs.declared.tries.TheConstants.{TRY_WORDS}
use Rattle.opener_lines.specs.declared.tries.Outcome.{Outcome}
use Rattle.opener_lines.specs.declared.tries.Outcome.TheVariants.{Taken, GaveUp}
use Rattle.opener_lines.specs.declared.tries.Outcome.TheVariants as outcome

-- What a connection is opened for: to keep it, or to test a peer. The candidate of the first try of
-- a test is the occupant of a collision's slot, if there is one; it comes with the time when it was
-- last tried.
pub data Aim : Type 0 where
  ToKeep : Aim
  ToTest : (occupant : Option (Peer × ℕ)) → Aim

-- What one try comes to: the peer is taken; there is no peer to take; or the try does not decide,
-- and the next one is made.
pub data Try : Type 0 where
  Take : (peer : Peer) → Try
  NoneLeft : Try
  Next : Try

-- the random words of try i: those of a field `@V:10000` with V = seed + i
abbrev pub try_words : ℕ → ℕ → List ℕ
try_words seed i = seeded_words (seed + i) TRY_WORDS

-- the pick of try i, from the new table only or from both
abbrev pub pick_of_try : Machine → Bool → ℕ → ℕ → Picked
pick_of_try m new_only seed i = select m.tables new_only all (try_words seed i) m.clock

-- the same of a feeler, whose first try picks the occupant of a collision's slot, if there is one
abbrev pub pick_of_feeler : Machine → Option (Peer × ℕ) → ℕ → ℕ → Picked
pick_of_feeler m None seed i = pick_of_try m true seed i
pick_of_feeler m (Some occupant) seed i =
    if i == 1 then picked.One occupant.0 occupant.1 else pick_of_try m true seed i

-- The pick of a try, for a connection to keep or for a test.
abbrev pub pick_by : Machine → Aim → ℕ → ℕ → Picked
pick_by m ToKeep seed i = pick_of_try m false seed i
pick_by m (ToTest occupant) seed i = pick_of_feeler m occupant seed i

-- the services of a peer, 0 if it has no record
abbrev pub services_of : State → Peer → ℕ
services_of st peer = unwrap_or (option_map (λ r. r.services) (find_peer st peer)) 0

-- whether the rules of Bitcoin Core pass the peer over in try i
abbrev pub is_passed : OpenRules → Aim → State → Peer → ℕ → Bool
is_passed rules ToKeep st peer i =
    lacks_services rules (services_of st peer) || has_bad_port rules peer i
is_passed rules (ToTest occupant) st peer i =
    lacks_useful_services rules (services_of st peer) || has_bad_port rules peer i

-- the group that a peer counts in
abbrev pub counted : OpenRules → Places → Peer → List ℕ
counted rules places peer = counted_group rules peer.addr (group places peer.addr)

-- whether the peer is taken in try i
abbrev pub verdict_by : OpenRules → Aim → Places → List Outbound → Peer → ℕ → ℕ → ℕ → Verdict
verdict_by rules ToKeep places open_peers peer last_try now i =
    judge open_peers (counted rules places peer) last_try now i
verdict_by rules (ToTest occupant) places open_peers peer last_try now i =
    judge_feeler last_try now i

-- What a verdict makes of a try: the peer is taken, or the next try follows.
abbrev pub try_of_verdict : Verdict → Peer → Try
try_of_verdict verdict.Take peer = Take peer
try_of_verdict verdict.SameGroup peer = Next
try_of_verdict verdict.Recent peer = Next

-- what try i comes to if it picked this peer
abbrev pub try_of_peer : OpenRules → Machine → List Outbound → Aim → ℕ → Peer → ℕ → Try
try_of_peer rules m open_peers goal i peer last_try =
    if is_passed rules goal m.tables peer i then Next
    else try_of_verdict
    (verdict_by rules goal m.tables.places open_peers peer last_try m.clock i) peer

-- what a try comes to if this was its pick
abbrev pub try_of_pick : (Peer → ℕ → Try) → Picked → Try
try_of_pick try_of (picked.One peer last_try) = try_of peer last_try
try_of_pick try_of picked.Nothing = NoneLeft
try_of_pick try_of picked.Exhausted = Next

-- what try i comes to
abbrev pub try_by : OpenRules → Machine → List Outbound → Aim → ℕ → ℕ → Try
try_by rules m open_peers goal seed i =
    try_of_pick (try_of_peer rules m open_peers goal i) (pick_by m goal seed i)

-- the tries before this one do not decide
abbrev pub NoneBefore : (ℕ → Try) → ℕ → Type 0
NoneBefore tries i = (j : ℕ) → 1 ≤ j → j < i → tries j ≡ Next

-- try i is the first that decides, with this result
pub record IsFirst (tries : ℕ → Try) (i : ℕ) (result : Try) : Type 0 where
  pub least : 1 ≤ i
  pub most : i ≤ MAX_TRIES
  pub before : NoneBefore tries i
  pub comes : tries i ≡ result

-- What the tries come to: the first that decides takes a peer or finds none to take, or none of
-- `MAX_TRIES` decides.
abbrev pub HasOutcome : (ℕ → Try) → Outcome → Type 0
HasOutcome tries (Taken peer i) = IsFirst tries i (Take peer)
HasOutcome tries outcome.Nothing = (i : ℕ) × IsFirst tries i NoneLeft
HasOutcome tries GaveUp = NoneBefore tries (suc MAX_TRIES)
