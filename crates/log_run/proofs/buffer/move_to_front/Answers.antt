use Rattle.std.proofs.Common.{◌≡◌, ◌+◌, ◌-◌, ◌≤◌, length, ◌∙◌, ap, take, drop, arith}
use Rattle.std.proofs.lemmas.List.{length-drop}
use Rattle.std.proofs.lemmas.List.Edits.{take-paste}
use Rattle.log_run.proofs.Parts.{moved}
use Rattle.log_run.proofs.buffer.move_to_front.Goals as goal

pub returns-clause-moved : goal.returns-clause-moved
returns-clause-moved c = λ count is.
    let n = c.args.end - c.args.start in
    let rest = drop c.args.start c.args.bytes.now in
    let enough : n ≤ length rest = omega (arith, c.requires.within, length-drop c.args.start c.args.bytes.now) in
    let same : count ≡ 0 + n = omega (arith, is) in
    let back : n ≡ count = omega (arith, is) in
    moved c.copy_within.new.self c.args.bytes.now c.args.start c.args.end count is
    (ap (λ k. take k c.copy_within.new.self) same ∙ ap (take (0 + n)) c.copy_within.ensures.after
    ∙ take-paste c.args.bytes.now 0 rest n (omega arith) enough ∙ ap (λ k. take k rest) back)
