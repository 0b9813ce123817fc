-- Bytes are the file of one list or have one fault.
use Rattle.std.proofs.Common.{◌≡◌, ℕ, List, [], ◌∷◌, length, refl, sym, ap, ◌∙◌, inl, inr, Option, Some, None}
use Rattle.std.specs.Prelude.{option_and_then, codes}
use Rattle.std.proofs.lemmas.Bool.{cases_lt}
use Rattle.serde_json.specs.Data.{Data, Items, no_items, item}
use Rattle.serde_json.specs.Find.{get, as_array}
use Rattle.serde_json.specs.Read.{read}
use Rattle.serde_json.specs.View.{items_of}
use Rattle.ban_list.specs.BanFile.{IsElement, AreElements, merged, IsJson, HasElements, IsListFile, HasListFault, HasOneMeaning}
use Rattle.ban_list.specs.declared.ban.Ban.{Ban}
use Rattle.ban_list.specs.declared.bans.TheConstants.{MAX_BANS}
use Rattle.ban_list.specs.declared.fault.BanFault.{BanFault}
use Rattle.ban_list.specs.declared.fault.BanFault.TheVariants.{Json, Form, TooMany}
use Rattle.ban_list.specs.declared.ban.BanRule.{BanRule}
use Rattle.ban_list.proofs.FileLaws.{list_of, one_file, one_fault, no_fault, file_of, many_of}

passes : (rule : BanRule) (d : Data) (ds : List Data) (bans : List Ban) → ((ban : Ban) → IsElement rule d ban → ⊥) → AreElements rule ds bans → AreElements rule (d ∷ ds) bans
unfolding AreElements
passes rule d ds [] none rest = (none, rest)
passes rule d ds (ban ∷ bans) none rest = inl (none, rest)

counts : (rule : BanRule) (d : Data) (ds : List Data) (ban : Ban) (bans : List Ban) → IsElement rule d ban → AreElements rule ds bans → AreElements rule (d ∷ ds) (ban ∷ bans)
unfolding AreElements
counts rule d ds ban bans is rest = inr (is, rest)

-- some of the elements count
some_count : (rule : BanRule) (ds : List Data) → ((bans : List Ban) → AreElements rule ds bans → ⊥) → ⊥
unfolding AreElements
some_count rule [] none = none [] refl
some_count rule (d ∷ ds) none =
    some_count rule ds (λ bans rest. none bans (passes rule d ds bans (λ ban is. none (ban ∷ bans) (counts rule d ds ban bans is rest)) rest))

items_of_list : (items : Items) → items_of (list_of items) ≡ items
items_of_list no_items = refl
items_of_list (item d ds) = ap (item d) (items_of_list ds)

-- bytes that are the file of no list and have no fault
module _ (rule : BanRule) (bytes : List ℕ) (no_list : (bans : List Ban) → IsListFile rule bytes bans → ⊥) (no_cause : (f : BanFault) → HasListFault rule bytes f → ⊥) where
  by_count : (d : Data) (ds : List Data) (counted : List Ban) → IsJson bytes d → HasElements d ds → AreElements rule ds counted → ⊥
  by_count d ds counted json form are = elim (cases_lt MAX_BANS (length counted)) [
    | inl many ↦ no_cause TooMany (many_of rule bytes d ds counted json form are many)
    | inr few ↦ no_list (merged counted) (file_of rule bytes d ds counted (merged counted) json form are few refl)
  ]

  by_form : (o : Option Items) (d : Data) → option_and_then as_array (get (codes "banned_nets") d) ≡ o → IsJson bytes d → ⊥
  by_form None d is json = no_cause Form (record { value = d; json = json; none = is })
  by_form (Some items) d is json =
      some_count rule (list_of items) (λ counted are. by_count d (list_of items) counted json (is ∙ ap Some (sym (items_of_list items))) are)

  no_value : (d : Data) → read bytes ≡ None → read bytes ≡ Some d → ⊥
  no_value d none some = cc

  by_text : (o : Option Data) → read bytes ≡ o → ⊥
  by_text None is = no_cause Json (λ d json. no_value d is json.1)
  by_text (Some d) is = no_cause Json (λ e json. by_form (option_and_then as_array (get (codes "banned_nets") d)) d refl (json.0, is))

pub one_meaning : (rule : BanRule) (bytes : List ℕ) → HasOneMeaning rule bytes
one_meaning rule bytes = record {
  some = λ no_list no_cause. by_text rule bytes no_list no_cause (read bytes) refl;
  one_list = one_file rule bytes;
  one_fault = one_fault rule bytes;
  never_both = no_fault rule bytes;
}
