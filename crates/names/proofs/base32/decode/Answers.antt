use Rattle.std.proofs.Common.{◌+◌, ◌*◌, ◌++◌, arith, ap, sym, ◌∙◌}
use Rattle.std.proofs.lemmas.Grind.{common_steps}
use Rattle.std.proofs.lemmas.List.{append-nil}
use Rattle.names.specs.Inside.{decoded, five_bytes}
use Rattle.names.proofs.Base32Laws.{decoded_next, decoded_none, one_group}
use Rattle.names.proofs.base32.decode.Goals as goal

pub loop-rest-preserved : goal.loop-rest-preserved
loop-rest-preserved c = (
  one_group decoded _ c.loop-rest.bytes.items c.five_bytes.result _ c.loop-rest.rest.now _ _ c.append.ensures.items
      (c.five_bytes.ensures ∙ (λ i. five_bytes (c.half.ensures.value i * 1048576 + c.half-in-len8-up.ensures.value i)))
      (decoded_next c.loop-rest.rest.now c.in-len8-up.len_at_least) c.loop-rest.invariant.0,
  grind (arith, common_steps),
)

pub returns-clause-items : goal.returns-clause-items
returns-clause-items c =
    let none = decoded_none c.loop-rest.rest.now (omega (arith, c.loop-rest.invariant.1, c.in_default.len_below)) in
    sym (append-nil c.loop-rest.bytes.items) ∙ ap (λ xs. c.loop-rest.bytes.items ++ xs) (sym none) ∙ c.loop-rest.invariant.0
