use Rattle.std.proofs.Common.{◌<◌, length, sym, subst, arith}
use Rattle.std.specs.Prelude.{OnOk}
use Rattle.json.specs.Tree.{HasNumbers}
use Rattle.json.specs.Value.{value_view}
use Rattle.ban_list.specs.OldFile.{IsAppended}
use Rattle.ban_list.proofs.NamedLaws.{item_same, members_numbers}
use Rattle.ban_list.proofs.named_text.put_at.Goals as goal

pub put_besides-requires : goal.put_besides-requires
put_besides-requires c =
    let v = c.index-items-place.result in
    let lt : c.args.place < length c.args.items.now = omega arith in
    members_numbers (value_view v) c.in-Some.members.now (subst (λ w. HasNumbers (value_view w)) (sym c.index-items-place.is) (c.requires c.args.place v lt)) c.in-Some.ensures.found

pub returns-in-Some : goal.returns-in-Some
returns-in-Some c =
    let v = c.index-items-place.result in
    let lt : c.args.place < length c.args.items.now = omega arith in
    subst (λ ts. OnOk c.put_besides.result (IsAppended c.args.writer.now c.put_besides.new.writer ts))
    (item_same c.args.items.now c.args.place v c.in-Some.members.now lt c.index-items-place.is c.in-Some.ensures.found) c.put_besides.ensures
