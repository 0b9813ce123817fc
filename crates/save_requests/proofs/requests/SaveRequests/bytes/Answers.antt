use Rattle.std.proofs.Common.{◌∙◌, ap, drop, arith}
use Rattle.std.proofs.lemmas.List.{length-drop, take_rest}
use Rattle.save_requests.specs.Inside.{piece_at}
use Rattle.save_requests.specs.Requests.{piece_of}
use Rattle.save_requests.proofs.Left.{appends}
use Rattle.save_requests.proofs.requests.SaveRequests.bytes.Goals as goal

pub returns : goal.returns
returns c =
    let s = c.self.inside in
    let rest = take_rest c.items.result.now s.done ∙ ap (drop s.done) c.items.ensures in
    c.piece_at.ensures.bytes ∙ ap (piece_at s.stage s.max) rest
    ∙ appends s.stage s.max (drop s.done s.bytes) c.self.invariant.0
    (λ is. let there = c.self.invariant.2 is in let cut = length-drop s.done s.bytes in omega (arith, there, cut))
    ∙ ap piece_of c.self.view_is
