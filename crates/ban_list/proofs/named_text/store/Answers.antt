use Rattle.std.proofs.Common.{[], ◌∷◌, ◌++◌, sym, ap, ◌∙◌, subst}
use Rattle.ban_list.specs.OldFile.{IsStoredAt, list_of}
use Rattle.ban_list.proofs.NamedLaws.{stored_at}
use Rattle.ban_list.proofs.named_text.store.Goals as goal

pub returns : goal.returns
returns c =
    let old = c.args.places.now.entries in
    let new = c.insert.new.self.entries in
    let place = c.args.place in
    let made = c.in_ok-push.ensures.items ∙ ap (λ xs. xs ++ place ∷ []) (c.list_of-list.ensures ∙ ap list_of c.swap_remove-before.ensures.value) in
    subst (λ own. IsStoredAt own place old new) (sym c.in-Some.is)
    (stored_at c.in-Some.subnet place old c.swap_remove-before.new.self.entries new _ c.swap_remove-before.ensures.updates.0 c.in_ok-insert.ensures.updates.0 made)
