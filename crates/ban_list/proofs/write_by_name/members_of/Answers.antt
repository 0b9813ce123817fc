use Rattle.std.proofs.Common.{map, sym, ap, ◌∙◌}
use Rattle.json.specs.Json.{object}
use Rattle.json.specs.Value.{value_view}
use Rattle.json.proofs.Trees.{view-Object}
use Rattle.ban_list.specs.NewFile.{members_in, members_of}
use Rattle.ban_list.specs.OldFile.{member_view}
use Rattle.ban_list.proofs.NamedLaws.{members_listed, members_same}
use Rattle.ban_list.proofs.write_by_name.members_of.Goals as goal

pub returns-in-Object : goal.returns-in-Object
returns-in-Object c =
    let value = ap value_view c.in-Object.is ∙ view-Object c.in-Object.members in
    record {
      found = ap (map member_view) c.as_slice.ensures.value ∙ members_listed c.in-Object.members.items ∙ sym (ap members_in value);
      none = tt;
      object = value ∙ ap object (members_same c.in-Object.members.items ∙ sym (ap (λ ms. members_of (map member_view ms)) c.as_slice.ensures.value));
    }
