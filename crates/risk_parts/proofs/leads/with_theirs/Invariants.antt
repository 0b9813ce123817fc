use Rattle.std.proofs.Common.{◌≡◌, map, take}
use Rattle.arrayvec.specs.ArrayVec.{array_vec_len}
use Rattle.risk_parts.specs.Leads.{with_theirs}
use Rattle.risk_parts.proofs.leads.with_theirs.Given as goal

abbrev pub invariant-loop-kind : goal.invariant-loop-kind
invariant-loop-kind l = record {
  kinds : l.found.items ≡ map (with_theirs l.some l.in_new) (take l.kind-index l.kinds);
  few : array_vec_len l.found ≡ l.kind-index;
}
