-- The groups that are in many buckets are counted, each once.
use Rattle.std.proofs.Common.{◌≡◌, ℕ, ◌+◌, ◌≤◌, ◌||◌, Bool, true, false, cond, List, [], ◌∷◌, filter, length, map, refl, sym, ap, ◌∙◌, arith}
use Rattle.std.specs.Prelude.{bytes_eq, nat_lt, Option}
use Rattle.std.specs.List.{count_by, list_any, range_with_len, sum_by}
use Rattle.std.proofs.lemmas.Bool.{both_ways, ltb-true}
use Rattle.std.proofs.lemmas.List.Sums.{sum_by-cons}
use Rattle.std.proofs.lemmas.Slice.Eq.{bytes_eq-Decides}
use Rattle.peer_rec.specs.declared.rec.Rec.{Rec}
use Rattle.picture_text.specs.Elements.{wide_text}
use Rattle.picture_text.specs.Picture.{wide_of}
use Rattle.table_groups.specs.Slots.{is_of, new_buckets, new_slots}
use Rattle.table_groups.specs.Sources.{slot_groups, source_of, sources_of}
use Rattle.table_groups.specs.declared.ranked_groups.Counted.{Counted}
use Rattle.table_groups.specs.declared.sources.Source.{Source}
use Rattle.table_groups.proofs.Buckets.{groups-count}
use Rattle.table_groups.proofs.Visits.{count-cons, count-map, one_if}
use Rattle.picture_laws.specs.Counts.{CountsWide}
use Rattle.picture_laws.proofs.Listed.{ordered, ordered-once, some-any}
use Rattle.table_groups.specs.View.{View}

any-counts : (p : ℕ → Bool) (xs : List ℕ) → one_if (list_any p xs) ≤ count_by p xs
any-counts p [] = omega arith
any-counts p (x ∷ xs) = by (p x) (any-counts p xs) (count-cons p x xs)
  where
    by : (b : Bool) → one_if (list_any p xs) ≤ count_by p xs → count_by p (x ∷ xs) ≡ one_if b + count_by p xs → one_if (b || list_any p xs) ≤ count_by p (x ∷ xs)
    by true h e = omega (arith, e)
    by false h e = omega (arith, e, h)

-- no more buckets than slots pass
fewer-buckets : (test : ℕ → ℕ → Bool) (slots buckets : List ℕ) → count_by (λ b. list_any (test b) slots) buckets ≤ sum_by (λ b. count_by (test b) slots) buckets
fewer-buckets test slots [] = omega arith
fewer-buckets test slots (b ∷ bs) =
    omega (
      arith,
      count-cons (λ b. list_any (test b) slots) b bs,
      sum_by-cons (λ b. count_by (test b) slots) b bs,
      any-counts (test b) slots,
      fewer-buckets test slots bs,
    )

fewer : (view : View) (test : Option Rec → Bool) → new_buckets test view ≤ new_slots test view
unfolding new_buckets new_slots
fewer view test = fewer-buckets (λ b s. test (view.new b s)) (range_with_len 0 64) (range_with_len 0 1024)

filter-length : (p : List ℕ → Bool) (gs : List (List ℕ)) → length (filter p gs) ≡ count_by p gs
filter-length p [] = refl
filter-length p (g ∷ gs) = by (p g) (count-cons p g gs) (filter-length p gs)
  where
    by : (b : Bool) → count_by p (g ∷ gs) ≡ one_if b + count_by p gs → length (filter p gs) ≡ count_by p gs → length (cond b (g ∷ filter p gs) (filter p gs)) ≡ count_by p (g ∷ gs)
    by true e h = omega (arith, e, h)
    by false e h = omega (arith, e, h)

-- a group that passes is kept as often as it is there, and one that does not is not
filter-times : (p : List ℕ → Bool) (g : List ℕ) (gs : List (List ℕ)) → count_by (λ h. bytes_eq h g) (filter p gs) ≡ cond (p g) (count_by (λ h. bytes_eq h g) gs) 0
filter-times p g [] = by (p g) 0
  where
    by : (b : Bool) (n : ℕ) → n ≡ cond b n n
    by true n = refl
    by false n = refl
filter-times p g (h ∷ gs) =
    by (p h) refl (bytes_eq h g) refl (p g) refl (count-cons (λ k. bytes_eq k g) h gs) (count-cons (λ k. bytes_eq k g) h (filter p gs)) (filter-times p g gs)
  where
    by : (a : Bool) → p h ≡ a → (b : Bool) → bytes_eq h g ≡ b → (c : Bool) → p g ≡ c → count_by (λ k. bytes_eq k g) (h ∷ gs) ≡ one_if (bytes_eq h g) + count_by (λ k. bytes_eq k g) gs
        → count_by (λ k. bytes_eq k g) (h ∷ filter p gs) ≡ one_if (bytes_eq h g) + count_by (λ k. bytes_eq k g) (filter p gs)
        → count_by (λ k. bytes_eq k g) (filter p gs) ≡ cond (p g) (count_by (λ k. bytes_eq k g) gs) 0
        → count_by (λ k. bytes_eq k g) (cond a (h ∷ filter p gs) (filter p gs)) ≡ cond c (count_by (λ k. bytes_eq k g) (h ∷ gs)) 0
    by true e b f true i whole kept more = omega (arith, whole, kept, more, ap (λ (t : Bool). cond t (count_by (λ k. bytes_eq k g) gs) 0) i)
    by false e false f true i whole kept more = omega (arith, whole, more, ap (λ (t : Bool). cond t (count_by (λ k. bytes_eq k g) gs) 0) i, ap one_if f)
    by false e true f true i whole kept more = absurd (both_ways (p h) e (ap p ((bytes_eq-Decides h g).0 f) ∙ i))
    by true e false f false i whole kept more = omega (arith, kept, more, ap (λ (t : Bool). cond t (count_by (λ k. bytes_eq k g) gs) 0) i, ap one_if f)
    by true e true f false i whole kept more = absurd (both_ways (p g) i (ap p (sym ((bytes_eq-Decides h g).0 f)) ∙ e))
    by false e b f false i whole kept more = more ∙ ap (λ (t : Bool). cond t (count_by (λ k. bytes_eq k g) gs) 0) i

module _ (view : View) where
  abbrev is_wide : List ℕ → Bool
  is_wide g = nat_lt 32 (new_buckets (is_of view.places g) view)

  abbrev all : List (List ℕ)
  all = map (λ c. c.group.items) (ordered view)

  times : (g : List ℕ) → count_by (λ h. bytes_eq h g) all ≡ one_if (list_any (bytes_eq g) (slot_groups view))
  times g = count-map (λ h. bytes_eq h g) (λ (c : Counted). c.group.items) (ordered view) ∙ ordered-once view g

  each : (g : List ℕ) → count_by (λ h. bytes_eq h g) (filter is_wide all) ≡ cond (is_wide g) 1 0
  each g = filter-times is_wide g all ∙ by (is_wide g) refl
    where
      by : (b : Bool) → is_wide g ≡ b → cond b (count_by (λ h. bytes_eq h g) all) 0 ≡ cond b 1 0
      by false e = refl
      by true e =
          let many = ltb-true 32 (new_buckets (is_of view.places g) view) e in
          times g ∙ ap one_if (some-any (bytes_eq g) (slot_groups view) (omega (arith, many, fewer view (is_of view.places g), groups-count view g)))

  line : wide_of (sources_of view) ≡ length (filter is_wide all)
  unfolding sources_of
  line =
      count-map (λ (s : Source). nat_lt 32 s.buckets) (source_of view) (ordered view)
      ∙ sym (count-map is_wide (λ (c : Counted). c.group.items) (ordered view))
      ∙ sym (filter-length is_wide all)

  pub counts-wide : CountsWide view
  counts-wide = record { groups = filter is_wide all; each = each; line = ap wide_text line }
