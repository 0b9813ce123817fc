use Rattle.std.proofs.Common.{◌≡◌, ◌++◌, take, codes}
use Rattle.std.specs.List.{flat_map}
use Rattle.net_addr.specs.Text.{peer_text}
use Rattle.log_lines.proofs.print.put_peers.Given as goal

-- the first peers are written
abbrev pub invariant-loop-peer : goal.invariant-loop-peer
invariant-loop-peer l = l.out.items ≡ l.initial.out.items ++ flat_map (λ p. codes " " ++ peer_text p) (take l.peer-index l.peers)
