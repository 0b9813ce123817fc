use Rattle.std.proofs.Common.{◌∙◌, ap, drop, arith}
use Rattle.std.proofs.lemmas.List.{length-drop}
use Rattle.save_requests.specs.Requests.{next_of}
use Rattle.save_requests.proofs.Left.{asks}
use Rattle.save_requests.proofs.requests.SaveRequests.next.Goals as goal

pub returns : goal.returns
returns c =
    let s = c.self.inside in
    c.asked_at.ensures
    ∙ asks s.stage s.max (drop s.done s.bytes) c.self.invariant.0
    (λ is. let there = c.self.invariant.2 is in let cut = length-drop s.done s.bytes in omega (arith, there, cut))
    ∙ ap next_of c.self.view_is
