use Rattle.std.proofs.Common.{◌≡◌, map, take}
use Rattle.arrayvec.specs.ArrayVec.{array_vec_len}
use Rattle.table_risk.specs.Inside.{class_value, kind_in}
use Rattle.table_risk.proofs.classes.kinds_in.Given as goal

abbrev pub invariant-loop-class : goal.invariant-loop-class
invariant-loop-class g l = record {
  kinds : l.kinds.items ≡ map (kind_in l.group.items) (map class_value (take l.class-index l.classes));
  few : array_vec_len l.kinds ≡ l.class-index;
}
