use Rattle.std.proofs.Common.{[], None, refl, sym, subst}
use Rattle.std.specs.List.Sorted.{IsPermutation, IsSortedBy}
use Rattle.std.specs.Prelude.{IfOk, IsUtf8}
use Rattle.ban_list.specs.NewFile.{IsNamedFile, comes_before}
use Rattle.ban_list.proofs.OldLaws.{items_numbers, named_over, ok_both}
use Rattle.ban_list.proofs.write_by_name.write_by_name.Goals as goal

pub returns : goal.returns
returns c =
    let bans = c.args.bans.now in
    let list = c.as_slice-in-None.result.now in
    let same = subst (λ xs. IsPermutation bans xs) (sym c.as_slice-in-None.ensures.value) (subst (λ xs. IsPermutation xs c.in_ok-list.list.items) c.bans.ensures.value c.in_ok-list.ensures.same) in
    let order = subst (IsSortedBy comes_before) (sym c.as_slice-in-None.ensures.value) c.in_ok-list.ensures.order in
    subst (λ old. IfOk c.write_named.result (IsNamedFile old bans)) (sym c.in-None.is)
    (ok_both _ IsUtf8 (IsNamedFile None bans) (λ text is utf8. record { members = []; elements = []; is_old = (refl, refl); sorted = list; same = same; order = order; exact = is; utf8 = utf8 })
    c.write_named.result c.write_named.ensures.text c.write_named.ensures.utf8)
