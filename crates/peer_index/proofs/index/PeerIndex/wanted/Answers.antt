use Rattle.std.proofs.Common.{◌∙◌, ap, not}
use Rattle.peer_rec.specs.Rec.{is_tried}
use Rattle.peer_index.specs.Counts.{count_new, count_tried}
use Rattle.peer_index.specs.Order.{records}
use Rattle.peer_index.specs.Inside.{order_of}
use Rattle.peer_index.proofs.Counted.{sum-wanted}
use Rattle.peer_index.proofs.index.PeerIndex.wanted.Goals as goal

pub returns-clause-new : goal.returns-clause-new
returns-clause-new g c =
    c.sum.ensures
    ∙ sum-wanted (λ r. not (is_tried r)) c.args.nets (records (order_of c.self.inside.recs c.self.inside.order.entries)) c.self.inside.counts.in_new c.self.invariant.counted.new
    ∙ ap (λ o. count_new c.args.nets (records o)) c.self.view_is

pub returns-clause-tried : goal.returns-clause-tried
returns-clause-tried g c =
    c.sum-2.ensures
    ∙ sum-wanted is_tried c.args.nets (records (order_of c.self.inside.recs c.self.inside.order.entries)) c.self.inside.counts.in_tried c.self.invariant.counted.tried
    ∙ ap (λ o. count_tried c.args.nets (records o)) c.self.view_is
