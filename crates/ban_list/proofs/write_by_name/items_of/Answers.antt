use Rattle.std.proofs.Common.{Some, map, sym, ap, ◌∙◌}
use Rattle.std.specs.Prelude.{option_and_then}
use Rattle.json.specs.Value.{value_view}
use Rattle.json.proofs.Trees.{view-Array}
use Rattle.ban_list.specs.OldFile.{array_list}
use Rattle.ban_list.proofs.NamedLaws.{items_listed}
use Rattle.ban_list.proofs.write_by_name.items_of.Goals as goal

pub returns-in-Array : goal.returns-in-Array
returns-in-Array c =
    ap (λ xs. Some (map value_view xs)) c.as_slice.ensures.value ∙ ap Some (items_listed c.in-Array.items.items)
    ∙ sym (ap array_list (ap value_view c.in-Array.is ∙ view-Array c.in-Array.items)) ∙ ap (option_and_then array_list) c.in_ok-items.ensures
