use Rattle.std.proofs.Common.{◌≡◌, ◌≤◌, take}
use Rattle.std.specs.Prelude.{count_by}
use Rattle.picture_text.specs.Spread.{is_spread}
use Rattle.picture_text.proofs.spread.spread_of.Given as goal

-- those of the groups before this one
abbrev pub invariant-loop-source : goal.invariant-loop-source
invariant-loop-source l = record {
  value : l.count ≡ count_by (is_spread l.by) (take l.source-index l.unlisted);
  few : l.count ≤ l.source-index;
}
