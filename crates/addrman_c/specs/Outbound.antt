-- What the calls on the outbound peers return, write and leave.
use Rattle.std.specs.Prelude.{◌≡◌, ◌⊎◌, ◌<◌, ℕ, List, length, Contains, Option, Some, None}
use Rattle.net_addr.specs.declared.peer.Peer.{Peer}
use Rattle.placing.specs.Places.{group}
use Rattle.peer_open.specs.Groups.{Outbound, groups, peers, with_peer, without_peer, is_open}
use Rattle.peer_open.specs.Verdicts.{judge}
use Rattle.peer_open.specs.declared.outbound.Verdict.{Verdict}
use Rattle.peer_open.specs.declared.outbound.Verdict.TheVariants.{Take, SameGroup, Recent}
use Rattle.peer_open.specs.declared.opener.TheConstants.{MAX_OUTBOUND}
use Rattle.c_values.specs.declared.code.TheConstants.{OK, MEMORY, ARGUMENT, FULL}
use Rattle.c_values.specs.declared.values.AddrmanPeer.{AddrmanPeer}
use Rattle.c_values.specs.Records.{PeersPut}
use Rattle.c_handles.specs.declared.handle.Kept.{Kept}
use Rattle.c_values.specs.Values.{bit}

-- the number of a verdict in the header
abbrev pub verdict_number : Verdict → ℕ
verdict_number Take = 0
verdict_number SameGroup = 1
verdict_number Recent = 2

-- the verdict on a peer; None is no peer
abbrev pub JudgeCall : Option Peer → ℕ → ℕ → ℕ → Kept → ℕ → ℕ → Type 0
JudgeCall None last_try now tries kept code verdict = code ≡ ARGUMENT
JudgeCall (Some peer) last_try now tries kept code verdict =
    (code ≡ OK) × (verdict ≡ verdict_number
    (judge kept.opener (group kept.tables.places peer.addr) last_try now tries))

-- A peer was opened. There may be ten already, or one in its group, and then it is not added.
abbrev pub AddCall : Option Peer → Kept → ℕ → Kept → Type 0
AddCall None old code new = (code ≡ ARGUMENT) × (new ≡ old)
AddCall (Some peer) old code new =
    let its_group = group old.tables.places peer.addr in
    ((length old.opener ≡ MAX_OUTBOUND) × (code ≡ FULL) × (new ≡ old))
    ⊎ (((length old.opener < MAX_OUTBOUND) × Contains (groups old.opener) its_group
    × (code ≡ ARGUMENT) × (new ≡ old))
    ⊎ ((length old.opener < MAX_OUTBOUND) × (¬ Contains (groups old.opener) its_group)
    × (code ≡ OK) × (new ≡ record old { opener = with_peer peer its_group old.opener })))

-- a peer was closed
abbrev pub RemoveCall : Option Peer → Kept → ℕ → ℕ → Kept → Type 0
RemoveCall None old code was_open new = (code ≡ ARGUMENT) × (new ≡ old)
RemoveCall (Some peer) old code was_open new =
    (code ≡ OK) × (was_open ≡ bit (is_open peer old.opener))
    × (new ≡ record old { opener = without_peer peer old.opener })

-- the open peers in their order, or no memory for them
abbrev pub OpenPeersCall : List Outbound → ℕ → List AddrmanPeer → List AddrmanPeer → ℕ → Type 0
OpenPeersCall open_peers code old new count =
    ((code ≡ MEMORY) × (new ≡ old)) ⊎ PeersPut (peers open_peers) code old new count
