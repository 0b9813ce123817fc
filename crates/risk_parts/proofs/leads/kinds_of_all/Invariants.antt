use Rattle.std.proofs.Common.{◌≡◌, map, take}
use Rattle.arrayvec.specs.ArrayVec.{array_vec_len}
use Rattle.risk_laws.specs.Classes.{chances}
use Rattle.risk_parts.specs.Leads.{kind_of_all}
use Rattle.risk_parts.proofs.leads.kinds_of_all.Given as goal

abbrev pub invariant-loop-chance : goal.invariant-loop-chance
invariant-loop-chance l = record {
  kinds : l.kinds.items ≡ map (kind_of_all l.leads l.in_new) (take l.chance-index chances);
  few : array_vec_len l.kinds ≡ l.chance-index;
}
