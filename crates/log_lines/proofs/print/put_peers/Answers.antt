use Rattle.std.proofs.Common.{◌++◌, ◌∙◌, codes, append_assoc, ap}
use Rattle.net_addr.specs.Text.{peer_text}
use Rattle.log_lines.proofs.Items.{one_more}
use Rattle.log_lines.proofs.print.put_peers.Goals as goal

pub loop-peer-preserved : goal.loop-peer-preserved
loop-peer-preserved c =
    let out = c.loop-peer.out.items in
    let peer = c.peer-item.result in
    one_more (λ p. codes " " ++ peer_text p) c.args.out.now.items c.args.peers.now c.loop-peer.peer-index peer out c.put_peer.new.out.items
    c.loop-peer-test.true c.peer-item.is c.loop-peer.invariant
    (c.in_ok-put_peer.ensures.ok ∙ ap (λ t. t ++ peer_text peer) c.in_ok-put_text.ensures.ok ∙ append_assoc out (codes " ") (peer_text peer))
