use Rattle.std.proofs.Common.{◌∙◌}
use Rattle.indexmap.specs.IndexMap.{keys}
use Rattle.table_risk.specs.Inside.{side_value}
use Rattle.table_risk.proofs.TensOf.{part_is, shares_few}
use Rattle.table_risk.proofs.ten.part_of.Goals as goal

pub ten_bound-bound-requires-clause-each : goal.ten_bound-bound-requires-clause-each
ten_bound-bound-requires-clause-each g c =
    shares_few (side_value c.args.new.now) (side_value c.args.tried.now) (keys c.args.groups.now) c.as_slice.result.now (c.as_slice.ensures.value ∙ c.in_ok-shares.ensures)

pub returns : goal.returns
returns g c =
    part_is (side_value c.args.new.now) (side_value c.args.tried.now) (keys c.args.groups.now) c.as_slice.result.now _ c.ten_bound-bound.result c.millionths.result
    (c.as_slice.ensures.value ∙ c.in_ok-shares.ensures) c.whole_in.ensures.is c.ten_bound-bound.ensures.is c.millionths.ensures
