use Rattle.std.proofs.Common.{◌≡◌, map}
use Rattle.table_risk.specs.Inside.{both_shares, side_value}
use Rattle.table_risk.proofs.ten.shares_of.Given as goal

-- the shares so far
abbrev pub invariant-loop-group : goal.invariant-loop-group
invariant-loop-group g l =
    l.shares.items ≡ map (λ k. both_shares (side_value l.new) (side_value l.tried) k.items) (map (λ k. k.now) l.yielded)
