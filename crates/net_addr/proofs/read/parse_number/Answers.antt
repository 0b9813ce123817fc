use Rattle.std.proofs.Common.{◌≡◌, ◌<◌, length, get_or, Some, sym, ap, subst, arith, inl, inr}
use Rattle.std.proofs.lemmas.Bool.{eqb-true, eqb-false, false≢true, cases_lt}
use Rattle.net_addr.proofs.Numbers.{Reads, Reads-more, decimal-read, decimal-no_zero_first, decimal-next, decimal-all, decimal-some}
use Rattle.net_addr.proofs.read.parse_number.Goals as goal

pub returns-then-is_empty-clause-only : goal.returns-then-is_empty-clause-only
returns-then-is_empty-clause-only c = λ n h e.
    let some = decimal-some c.args.text.now n e (omega arith) in
    absurd (omega (arith, eqb-true _ _ (sym c.if-is_empty.ensures), some))

pub returns-then-is_padded-clause-only : goal.returns-then-is_padded-clause-only
returns-then-is_padded-clause-only c = λ n h e.
    let padded = c.is_padded.ensures.0 c.if-is_padded.true in
    absurd (omega (arith, decimal-no_zero_first c.args.text.now n e (omega arith) padded.1))

pub loop-byte-preserved : goal.loop-byte-preserved
loop-byte-preserved c =
    let found = c.in_ok-value.ensures.found in
    record {
      small = found.2;
      so_far = Reads-more _ _ _ _ (omega arith) c.loop-byte.invariant.so_far found.0 found.1;
    }

pub returns-in_err-value-clause-only : goal.returns-in_err-value-clause-only
returns-in_err-value-clause-only c = λ n h e.
    let next = decimal-next c.args.text.now n c.loop-byte.byte-index c.loop-byte.value e (omega arith) (omega arith) c.loop-byte.invariant.so_far in
    absurd (omega (arith, c.in_err-value.ensures.none next.0, next.1))

pub returns-clause-found : goal.returns-clause-found
returns-clause-found c =
    let text = c.args.text.now in
    let whole : Reads text (length text) c.loop-byte.value = subst (λ i. Reads text i c.loop-byte.value) (omega arith) c.loop-byte.invariant.so_far in
    let more : 0 < length text = omega (arith, eqb-false _ _ (sym c.if-is_empty.ensures)) in
    let plain : get_or text 0 0 ≡ 48 → length text ≡ 1 = λ zero_first. elim (cases_lt 1 (length text)) [
      | inl many ↦ absurd (false≢true (c.if-is_padded.ensures.1 (many, zero_first)))
      | inr one ↦ omega arith
    ] in
    (c.loop-byte.invariant.small, decimal-read text c.loop-byte.value whole more plain (omega arith))

pub returns-clause-only : goal.returns-clause-only
returns-clause-only c = λ n h e.
    let text = c.args.text.now in
    let whole : Reads text (length text) c.loop-byte.value = subst (λ i. Reads text i c.loop-byte.value) (omega arith) c.loop-byte.invariant.so_far in
    ap Some (decimal-all text n c.loop-byte.value e (omega arith) whole)
