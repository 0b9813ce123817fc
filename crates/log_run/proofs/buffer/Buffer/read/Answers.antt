use Rattle.std.proofs.Common.{◌∙◌, ◌≡◌, ◌≤◌, ◌++◌, length, ap, subst, arith, take, drop, Some}
use Rattle.std.specs.Prelude.{IfSome}
use Rattle.log_run.proofs.Parts.{grown, moves, next_length, within}
use Rattle.log_run.proofs.buffer.Buffer.read.Goals as goal

pub returns-clause-grown : goal.returns-clause-grown
returns-clause-grown g c =
    let n = c.in_ok-count.count in
    let next = take n (drop c.in_ok-start.end c.read_after.new.bytes.items) in (
      c.in_ok-count.ensures.within,
      (
        next,
        grown c.read_after.new.bytes.items c.make_room.new.bytes.items c.in_ok-start.start c.in_ok-start.end n
            (within c.make_room.new.bytes.items c.in_ok-start.start c.in_ok-start.end c.in_ok-start.ensures.order (omega (arith, c.in_ok-start.ensures.room)))
            c.read_after.ensures.before ∙ ap (λ xs. xs ++ next) (c.in_ok-start.ensures.same ∙ c.self.view_is),
        next_length c.read_after.new.bytes.items c.in_ok-start.end n c.args.max (omega (arith, c.in_ok-start.ensures.room, c.read_after.ensures.len)) c.in_ok-count.ensures.within,
      ),
    )

pub returns-clause-moved : goal.returns-clause-moved
returns-clause-moved g c = λ left is.
    let n = c.in_ok-count.count in
    let next = take n (drop c.in_ok-start.end c.read_after.new.bytes.items) in
    let taken = subst (λ o. IfSome o (λ l. (n ≤ length l) × (g.L.Source.left c.read_after.new.source ≡ Some (drop n l)))) is c.in_ok-count.ensures.taken in
    let copied = subst (λ o. IfSome o (λ l. next ≡ take n l)) is c.in_ok-count.ensures.copied in
    let goes_on =
    grown c.read_after.new.bytes.items c.make_room.new.bytes.items c.in_ok-start.start c.in_ok-start.end n
    (within c.make_room.new.bytes.items c.in_ok-start.start c.in_ok-start.end c.in_ok-start.ensures.order (omega (arith, c.in_ok-start.ensures.room)))
    c.read_after.ensures.before ∙ ap (λ xs. xs ++ next) (c.in_ok-start.ensures.same ∙ c.self.view_is) in
    (drop n left, taken.1, moves c.args.self.now _ left next n goes_on copied)
