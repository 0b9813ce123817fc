use Rattle.std.proofs.Common.{◌≤◌, ◌+◌, ◌-◌, ◌∙◌, List, ℕ, ap, drop, length, arith}
use Rattle.std.proofs.lemmas.List.{length-drop, take_rest}
use Rattle.save_requests.specs.Inside.{left_at, piece_at, stage_after}
use Rattle.save_requests.proofs.Left.{goes_on}
use Rattle.save_requests.proofs.requests.SaveRequests.done.Goals as goal

pub returns : goal.returns
returns c =
    let s = c.self.inside in
    let rest = take_rest c.items-bytes.result.now s.done ∙ ap (drop s.done) c.items-bytes.ensures in
    let next = s.done + length c.piece_at.result.now in
    let few = ap length rest in
    let cut = length-drop s.done s.bytes in
    let within : next ≤ length s.bytes = omega (arith, c.piece_at.ensures.within, few, cut, c.self.invariant.1) in
    ap (λ stage. left_at stage s.max (drop next s.bytes))
    (c.stage_after-self-inside.ensures ∙ ap (λ (xs : List ℕ). stage_after s.stage (length xs - next)) c.items-bytes.ensures)
    ∙ goes_on s.stage s.max s.bytes s.done next c.self.invariant.0
    (λ is. let there = c.self.invariant.2 is in omega (arith, there, cut))
    (ap (λ xs. s.done + length xs) (c.piece_at.ensures.bytes ∙ ap (piece_at s.stage s.max) rest)) within
    ∙ ap (drop 1) c.self.view_is
