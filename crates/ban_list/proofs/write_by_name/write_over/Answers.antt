use Rattle.std.proofs.Common.{length, map, sym, ap, ◌∙◌, subst}
use Rattle.std.specs.Prelude.{IsUtf8}
use Rattle.json.specs.Value.{value_view}
use Rattle.serde_json.specs.View.{view}
use Rattle.ban_list.specs.OldFile.{AreSubnets, IsNamedOver, elements_with, member_view}
use Rattle.ban_list.proofs.NamedLaws.{members_numbers, viewed_length}
use Rattle.ban_list.proofs.OldLaws.{items_numbers, named_over, ok_both}
use Rattle.ban_list.proofs.write_by_name.write_over.Goals as goal

pub write_named-requires-clause-members : goal.write_named-requires-clause-members
write_named-requires-clause-members c =
    members_numbers (value_view c.in-Ok-from_slice.tree) c.in-Some-members_of.members.now c.in-Ok-from_slice.ensures.writable c.in-Some-members_of.ensures.found

pub write_named-requires-clause-items : goal.write_named-requires-clause-items
write_named-requires-clause-items c =
    items_numbers (value_view c.in-Ok-from_slice.tree) c.in-Some-items_of.items.now c.in-Ok-from_slice.ensures.writable (sym c.in-Some-items_of.ensures)

pub write_named-requires-clause-subnets : goal.write_named-requires-clause-subnets
write_named-requires-clause-subnets c =
    let items = c.in-Some-items_of.items.now in
    let elements = map view c.in-Some.elements.now in
    let are = subst (AreSubnets elements) (sym c.as_slice.ensures.value) c.in_ok-subnets.ensures in
    let over = named_over c.args.bytes.now (view c.in-Ok.value) elements c.as_slice.result.now (value_view c.in-Ok-from_slice.tree) (map member_view c.in-Some-members_of.members.now) (map value_view items)
    c.in-Ok.ensures.ok.1 (sym c.in-Some.ensures) are c.in-Ok-from_slice.ensures.ok.1 c.in-Some-members_of.ensures.object (sym c.in-Some-items_of.ensures) in
    sym (viewed_length items) ∙ over.0

pub returns : goal.returns
returns c =
    let items = c.in-Some-items_of.items.now in
    let elements = map view c.in-Some.elements.now in
    let members = map member_view c.in-Some-members_of.members.now in
    let are = subst (AreSubnets elements) (sym c.as_slice.ensures.value) c.in_ok-subnets.ensures in
    let over = named_over c.args.bytes.now (view c.in-Ok.value) elements c.as_slice.result.now (value_view c.in-Ok-from_slice.tree) members (map value_view items)
    c.in-Ok.ensures.ok.1 (sym c.in-Some.ensures) are c.in-Ok-from_slice.ensures.ok.1 c.in-Some-members_of.ensures.object (sym c.in-Some-items_of.ensures) in
    ok_both _ IsUtf8 (IsNamedOver c.args.bytes.now c.args.bans.now)
    (λ text is utf8. record { members = members; elements = elements_with (map value_view items) c.as_slice.result.now; is_old = over.1; exact = is; utf8 = utf8 })
    c.write_named.result c.write_named.ensures.text c.write_named.ensures.utf8
