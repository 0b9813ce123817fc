use Rattle.std.proofs.Common.{◌≡◌, ℕ, List, [], ◌∷◌, drop, Option, Some, None, Bor, sym, ap, ◌∙◌, append_assoc}
use Rattle.std.specs.Prelude.{IfSome, IfNone}
use Rattle.std.specs.Option.{option_map}
use Rattle.std.proofs.lemmas.List.{append_cancel_left}
use Rattle.arguments.proofs.options.value_after_equals.Goals as goal

only_by : (text value : List ℕ) (r : Option (Bor (List ℕ))) → text ≡ 61 ∷ value → IfSome r (λ x. text ≡ 61 ∷ x.now) → IfNone r ((rest : List ℕ) → text ≡ 61 ∷ rest → ⊥) → option_map (λ x. x.now) r ≡ Some value
only_by text value None is found none = absurd (none value is)
only_by text value (Some x) is found none = ap (λ t. Some (drop 1 t)) (sym found ∙ is)

pub returns-clause-only : goal.returns-clause-only
returns-clause-only c = λ value is.
    only_by c.in_ok-after_prefix.field-0.now value c.after_prefix-2.result
    (append_cancel_left c.args.name.now _ (61 ∷ value) (sym c.in_ok-after_prefix.ensures.found ∙ is ∙ append_assoc c.args.name.now (61 ∷ []) value))
    c.after_prefix-2.ensures.found c.after_prefix-2.ensures.none
