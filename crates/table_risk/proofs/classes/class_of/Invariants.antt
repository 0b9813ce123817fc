use Rattle.std.proofs.Common.{◌≡◌, take}
use Rattle.std.specs.List.{flat_map}
use Rattle.table_groups.specs.Tally.{by_bytes, tally_of}
use Rattle.table_risk.specs.Inside.{all_starts, plus, visits_for}
use Rattle.table_risk.proofs.classes.class_of.Given as goal

-- the starts that lead to the records before this one
abbrev pub invariant-loop-occupant : goal.invariant-loop-occupant
invariant-loop-occupant g l = record {
  all : l.all ≡ all_starts (flat_map (visits_for l.placer l.what l.chance) (take l.occupant-index l.occupants));
  groups : by_bytes l.groups.entries ≡ tally_of 0 plus (flat_map (visits_for l.placer l.what l.chance) (take l.occupant-index l.occupants));
}
