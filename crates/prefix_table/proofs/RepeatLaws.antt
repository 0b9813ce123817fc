-- The first repeated prefix among rows in order.
use Rattle.std.proofs.Common.{◌≡◌, ◌⊎◌, ℕ, ◌+◌, ◌-◌, ◌<◌, ◌≤◌, List, length, get_or, Option, Some, None, ◌∙◌, ap, sym, subst, arith, inl, inr}
use Rattle.std.specs.Prelude.{MatchOption, min}
use Rattle.std.proofs.lemmas.Bool.{cases_lt}
use Rattle.std.proofs.lemmas.List.{get_or_default}
use Rattle.prefix_table.specs.Rows.{SamePrefix}
use Rattle.prefix_table.specs.Numbered.{row_in, IsRepeatAt}
use Rattle.prefix_table.specs.declared.numbered.NumberedRow.{NumberedRow}

-- the least line that repeats among the first i rows
abbrev pub IsFirstBelow : List NumberedRow → ℕ → Option ℕ → Type 0
IsFirstBelow rows i o = MatchOption o
    ((k m : ℕ) → k + 1 < i → IsRepeatAt rows k m → ⊥)
    (λ n. ((k : ℕ) × IsRepeatAt rows k n) × ((k m : ℕ) → k + 1 < i → IsRepeatAt rows k m → n ≤ m))

-- the row before i repeats
repeat_at : (rows : List NumberedRow) (i : ℕ) (e : NumberedRow) → 1 ≤ i → i < length rows → SamePrefix (row_in (get_or rows (i - 1) e)) (row_in (get_or rows i e)) → IsRepeatAt rows (i - 1) (get_or rows i e).line
repeat_at rows i e some within same =
    let next : i - 1 + 1 ≡ i = omega arith in
    record {
      within = omega arith;
      same = λ d.
          let a = get_or_default rows (i - 1) e d (omega arith) in
          let b = get_or_default rows i e d within in
          let there : SamePrefix (row_in (get_or rows (i - 1) d)) (row_in (get_or rows i d)) =
          subst (λ (x : NumberedRow). SamePrefix (row_in x) (row_in (get_or rows i d))) a (subst (λ (x : NumberedRow). SamePrefix (row_in (get_or rows (i - 1) e)) (row_in x)) b same) in
          subst (λ k. SamePrefix (row_in (get_or rows (i - 1) d)) (row_in (get_or rows k d))) (sym next) there;
      line = λ d. ap (λ k. (get_or rows k d).line) next ∙ ap (λ (x : NumberedRow). x.line) (get_or_default rows i d e within);
    }

-- the pair before i is the only new one
at_i : (rows : List NumberedRow) (i k m : ℕ) (e : NumberedRow) → 1 ≤ i → k + 1 < i + 1 → IsRepeatAt rows k m → (k + 1 < i) ⊎ (SamePrefix (row_in (get_or rows (i - 1) e)) (row_in (get_or rows i e)) × (m ≡ (get_or rows i e).line))
at_i rows i k m e some below is = elim (cases_lt (k + 1) i) [
  | inl l ↦ inl l
  | inr g ↦
      let here : k ≡ i - 1 = omega arith in
      let next : k + 1 ≡ i = omega arith in
      inr (
        subst (λ j. SamePrefix (row_in (get_or rows j e)) (row_in (get_or rows i e))) here (subst (λ j. SamePrefix (row_in (get_or rows k e)) (row_in (get_or rows j e))) next (is.same e)),
        sym (is.line e) ∙ ap (λ j. (get_or rows j e).line) next,
      )
]

pub no_repeat_here : (rows : List NumberedRow) (i : ℕ) (o : Option ℕ) (e : NumberedRow) → 1 ≤ i → (SamePrefix (row_in (get_or rows (i - 1) e)) (row_in (get_or rows i e)) → ⊥) → IsFirstBelow rows i o → IsFirstBelow rows (i + 1) o
no_repeat_here rows i None e some differ first = λ k m below is.
    elim (at_i rows i k m e some below is) [ inl l ↦ first k m l is | inr h ↦ differ h.0 ]
no_repeat_here rows i (Some n) e some differ first = (
  first.0,
  λ k m below is.
      elim (at_i rows i k m e some below is) [ inl l ↦ first.1 k m l is | inr h ↦ absurd (differ h.0) ],
)

pub repeat_here : (rows : List NumberedRow) (i : ℕ) (o : Option ℕ) (e : NumberedRow) (n : ℕ) → 1 ≤ i → i < length rows → SamePrefix (row_in (get_or rows (i - 1) e)) (row_in (get_or rows i e)) → MatchOption o (n ≡ (get_or rows i e).line) (λ known. n ≡ min known (get_or rows i e).line) → IsFirstBelow rows i o → IsFirstBelow rows (i + 1) (Some n)
repeat_here rows i None e n some within same is first = (
  (i - 1, subst (IsRepeatAt rows (i - 1)) (sym is) (repeat_at rows i e some within same)),
  λ k m below at. elim (at_i rows i k m e some below at) [ inl l ↦ absurd (first k m l at) | inr h ↦ omega (arith, is, h.1) ],
)
repeat_here rows i (Some known) e n some within same is first = (
  elim (cases_lt known (get_or rows i e).line) [
    | inl l ↦ let own : known ≡ n = omega (arith, is) in (first.0.0, subst (IsRepeatAt rows first.0.0) own first.0.1)
    | inr g ↦ let own : (get_or rows i e).line ≡ n = omega (arith, is) in (i - 1, subst (IsRepeatAt rows (i - 1)) own (repeat_at rows i e some within same))
  ],
  λ k m below at. elim (at_i rows i k m e some below at) [ inl l ↦ omega (arith, is, first.1 k m l at) | inr h ↦ omega (arith, is, h.1) ],
)
