-- When a peer is taken for an outbound connection.
use Rattle.std.specs.Prelude.{◌≡◌, ◌⊎◌, ℕ, List, length, false}
use Rattle.net_addr.specs.NetSet.{all}
use Rattle.net_addr.specs.declared.peer.Peer.{Peer}
use Rattle.placing.specs.Places.{Places, group}
use Rattle.peer_rec.specs.declared.answers.Picked.TheVariants.{One}
use Rattle.table_machine.specs.State.{State}
use Rattle.table_machine.specs.Picks.{select}
use Rattle.peer_open.specs.Groups.{Outbound}
use Rattle.peer_open.specs.Verdicts.{judge}
use Rattle.peer_open.specs.declared.opener.TheConstants.{MAX_OUTBOUND}
use Rattle.peer_open.specs.declared.outbound.Verdict.TheVariants.{Take}

-- the random words pick the peer, and the rules take it in the try of this number
pub record IsTaken (st : State) (places : Places) (open_peers : List Outbound) (words : List ℕ)
    (now tries : ℕ) (peer : Peer) : Type 0 where
  pub last_try : ℕ
  pub picked : select st false all words now ≡ One peer last_try
  pub judged : judge open_peers (group places peer.addr) last_try now tries ≡ Take

-- as many are open as may be, or no peer is taken
abbrev pub IsNoneTaken : State → Places → List Outbound → List ℕ → ℕ → ℕ → Type 0
IsNoneTaken st places open_peers words now tries =
    (length open_peers ≡ MAX_OUTBOUND)
    ⊎ ((peer : Peer) → IsTaken st places open_peers words now tries peer → ⊥)
