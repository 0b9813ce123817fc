use Rattle.std.proofs.Common.{◌≡◌, length, map, take}
use Rattle.std.specs.Prelude.{All}
use Rattle.risk_parts.specs.Sets.{set_text}
use Rattle.table_picture.specs.Sets.{HasAddress}
use Rattle.table_picture.proofs.sets_picture.set_names.Given as goal

-- the texts of the sets before this one
abbrev pub invariant-loop-set : goal.invariant-loop-set
invariant-loop-set l = record {
  names : map (λ v. v.items) l.names.items ≡ map set_text (take l.set-index l.sets);
  long : length l.names.items ≡ l.set-index;
  addresses : All HasAddress (take l.set-index l.sets);
}
