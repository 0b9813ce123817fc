use Rattle.std.proofs.Common.{sym, subst}
use Rattle.json.specs.Tree.{HasNumbers}
use Rattle.json.specs.Value.{value_view}
use Rattle.ban_list.proofs.named_text.put_besides.Goals as goal

pub put_beside-requires : goal.put_beside-requires
put_beside-requires c =
    subst (λ m. HasNumbers (value_view m.1)) (sym c.member-item.is) (c.requires c.loop-member.member-index c.member-item.result c.loop-member-test.true)
