use Rattle.std.proofs.Common.{◌≡◌, ◌≤◌, fold, take}
use Rattle.risk_tries.specs.Inside.{after_one}
use Rattle.risk_tries.specs.declared.ten.TheConstants.{TRY_LISTS}
use Rattle.risk_tries.proofs.ten.product.Given as goal

abbrev pub invariant-loop-low : goal.invariant-loop-low
invariant-loop-low l = record {
  is : l.left ≡ fold (after_one l.total l.whole) TRY_LISTS (take l.low-index l.opened);
  few : l.left ≤ TRY_LISTS;
}
