use Rattle.std.proofs.Common.{◌≤◌, length, map, sym, ap, ◌∙◌, subst, arith}
use Rattle.std.specs.Prelude.{flat_map}
use Rattle.std.proofs.lemmas.List.{take_all}
use Rattle.json.specs.Value.{value_view}
use Rattle.ban_list.specs.OldFile.{IsAppended, elements_with, other_tokens}
use Rattle.ban_list.proofs.NamedLaws.{others_more, with_length}
use Rattle.ban_list.proofs.named_text.put_others.Goals as goal

pub loop-i-preserved : goal.loop-i-preserved
loop-i-preserved c =
    others_more c.args.items.now c.args.subnets.now c.loop-i.i c.index-items-i.result c.index-subnets-i.result c.args.writer.now c.loop-i.writer c.put_other.new.writer
    c.loop-i-test.true c.requires.subnets c.index-items-i.is c.index-subnets-i.is c.loop-i.invariant c.in_ok-put_other.ensures

pub returns : goal.returns
returns c =
    let elements = elements_with (map value_view c.args.items.now) c.args.subnets.now in
    let all : length elements ≤ c.loop-i.i = omega (arith, with_length c.args.items.now c.args.subnets.now c.requires.subnets) in
    subst (λ es. IsAppended c.args.writer.now c.loop-i.writer (flat_map other_tokens es)) (take_all c.loop-i.i elements all) c.loop-i.invariant
