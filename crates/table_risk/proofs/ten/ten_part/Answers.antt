use Rattle.std.proofs.Common.{◌≡◌, rules}
use Rattle.table_groups.specs.View.{view_of}
use Rattle.table_risk.proofs.RowsOf.{all_fit}
use Rattle.table_risk.proofs.TensOf.{groups_are, part_same}
use Rattle.table_risk.proofs.ten.ten_part.Goals as goal

pub part_of-requires-clause-new : goal.part_of-requires-clause-new
part_of-requires-clause-new g c = all_fit (view_of c.args.tables.now) _ _ c.in_ok-new.ensures

pub part_of-requires-clause-tried : goal.part_of-requires-clause-tried
part_of-requires-clause-tried g c = all_fit (view_of c.args.tables.now) _ _ c.in_ok-tried.ensures

pub returns : goal.returns
returns g c =
    let st = c.args.tables.now in
    let same : c.items.result.now ≡ c.args.tables.now.records = search rules in
    part_same st c.args.now c.args.sets.now c.requires _ _ c.in_ok-groups.groups.entries _ c.in_ok-new.ensures c.in_ok-tried.ensures
    (groups_are st c.args.sets.now c.placer.result.now c.items.result.now _ c.placer.ensures same c.in_ok-groups.ensures) c.in_ok-part_of.ensures
