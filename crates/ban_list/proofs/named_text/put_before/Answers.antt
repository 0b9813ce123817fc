use Rattle.std.proofs.Common.{sym, subst}
use Rattle.json.specs.Tree.{HasNumbers}
use Rattle.json.specs.Value.{value_view}
use Rattle.ban_list.proofs.named_text.put_before.Goals as goal

pub put_member-requires : goal.put_member-requires
put_member-requires c = subst (λ m. HasNumbers (value_view m.1)) (sym c.index-members-i.is) (c.requires c.loop-i.i c.index-members-i.result c.loop-i-test.true)
