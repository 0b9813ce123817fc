use Rattle.std.proofs.Common.{◌≡◌, Some, drop, length}
use Rattle.c_values.specs.Values.{peer_in}
use Rattle.c_values.proofs.Lists.{Tell}
use Rattle.c_values.proofs.peers.put_start.Given as goal

-- the peers before index i are told, and nothing is written after the last one
abbrev pub invariant-loop-i : goal.invariant-loop-i
invariant-loop-i l =
    Tell (λ told peer. peer_in told ≡ Some peer) l.i l.out l.peers × (drop (length l.peers) l.out ≡ drop (length l.peers) l.initial.out)
