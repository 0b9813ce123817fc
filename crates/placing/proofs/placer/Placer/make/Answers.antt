use Rattle.std.proofs.Common.{◌<◌, All, rules, sym, subst}
use Rattle.placing.proofs.placer.Placer.make.Goals as goal

pub invariant_of-result : goal.invariant_of-result
invariant_of-result c = record {
  key_length = search rules;
  key_bytes = subst (All (λ b. b < 256)) (sym c.copied.ensures.value) c.copied.ensures.all;
  map = search rules;
}
