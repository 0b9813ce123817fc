use Rattle.peer_index.proofs.Members.{has-more, is-new}
use Rattle.peer_index.proofs.peer_set.PeerSet.add.Goals as goal

pub returns-clause-new : goal.returns-clause-new
returns-clause-new g c =
    is-new c.self.inside.order.entries c.args.self.now c.args.peer.now c.in-Ok.old c.is_none.result c.self.view_is c.in-Ok.ensures.old c.is_none.ensures

pub returns-clause-peers : goal.returns-clause-peers
returns-clause-peers g c =
    has-more c.self.inside.order.entries c.insert.new.self.entries c.args.self.now c.args.peer.now 0 c.self.view_is c.in-Ok.ensures.updates.0
