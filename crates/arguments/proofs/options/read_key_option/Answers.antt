use Rattle.std.proofs.Common.{◌≡◌, ◌≢◌, ℕ, List, [], length, string_bytes, ap, codes, Option, Some, None, Bor, sym, ◌∙◌, arith}
use Rattle.std.specs.Option.{option_map}
use Rattle.std.proofs.lemmas.Bool.{eqb-false}
use Rattle.std.proofs.lemmas.List.{length-map}
use Rattle.std.proofs.lemmas.Option.{none-some}
use Rattle.arguments.specs.Options.{IsOption, IsKeyOption}
use Rattle.arguments.proofs.options.read_key_option.Goals as goal

-- words that are neither none nor an option with a value choose no key
none_chosen : (words : List (List ℕ)) → words ≢ [] → ((value : List ℕ) → IsOption (codes "--key") value words → ⊥) → (key : Option (List ℕ)) → IsKeyOption words key → ⊥
none_chosen words some h None none = some none
none_chosen words some h (Some key) (digits, read, option) = h digits option

none_told : (r : Option (Bor (List ℕ))) (value : List ℕ) → r ≡ None → option_map (λ x. x.now) r ≡ Some value → ⊥
none_told r value is told = none-some value (sym (ap (option_map (λ x. x.now)) is) ∙ told)

pub returns-in_err-option_value-clause-only : goal.returns-in_err-option_value-clause-only
returns-in_err-option_value-clause-only c = λ key is.
    absurd (none_chosen _ (λ none. omega (arith, eqb-false (length c.args.words.now) 0 (sym c.is_empty.ensures ∙ c.if-is_empty.false), ap length none, length-map c.args.words.now string_bytes)) (λ value is. none_told c.option_value.result value (cc) (c.option_value.ensures.only value is)) key is)
