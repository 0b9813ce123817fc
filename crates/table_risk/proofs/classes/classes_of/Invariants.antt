use Rattle.std.proofs.Common.{◌≡◌, map, take}
use Rattle.risk_laws.specs.Classes.{chances}
use Rattle.table_risk.specs.Inside.{class_by, class_value}
use Rattle.table_risk.proofs.classes.classes_of.Given as goal

abbrev pub invariant-loop-chance : goal.invariant-loop-chance
invariant-loop-chance g l = map class_value l.classes.items ≡ map (class_by l.placer l.what l.occupants) (take l.chance-index chances)
