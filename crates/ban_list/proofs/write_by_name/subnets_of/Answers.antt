use Rattle.std.proofs.Common.{◌+◌, map, take, sym, ap, ◌∙◌, subst}
use Rattle.serde_json.specs.View.{view}
use Rattle.ban_list.specs.OldFile.{AreSubnets}
use Rattle.ban_list.proofs.NamedLaws.{subnets_more, subnets_none}
use Rattle.ban_list.proofs.write_by_name.subnets_of.Goals as goal

pub loop-element-init : goal.loop-element-init
loop-element-init c = subnets_none _ c.new-subnets.ensures.items

pub loop-element-preserved : goal.loop-element-preserved
loop-element-preserved c =
    let es = c.args.elements.now in
    let i = c.loop-element.element-index in
    subst (AreSubnets (map view (take (i + 1) es))) (sym c.in_ok-push.ensures.items)
    (subnets_more view es i c.element-item.result c.loop-element.subnets.items c.subnet_of.result c.loop-element-test.true c.element-item.is c.loop-element.invariant c.subnet_of.ensures)
