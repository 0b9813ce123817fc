use Rattle.std.proofs.Common.{◌≡◌, take}
use Rattle.peer_open.specs.Groups.{peers}
use Rattle.peer_open.proofs.opener.Opener.peers.Given as goal

-- those of the first open peers
abbrev pub invariant-loop-outbound : goal.invariant-loop-outbound
invariant-loop-outbound l = l.found.items ≡ peers (take l.outbound-index l.open_peers)
