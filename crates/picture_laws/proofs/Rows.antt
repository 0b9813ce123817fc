-- The numbers of the picture are those of the slots.
use Rattle.std.proofs.Common.{◌≡◌, ℕ, zero, suc, ◌+◌, ◌-◌, ◌<◌, ◌≤◌, ◌==◌, not, Bool, true, false, List, [], ◌∷◌, ◌++◌, length, map, take, get_or, refl, sym, ap, ◌∙◌, arith}
use Rattle.std.specs.Prelude.{bytes_eq, codes, is_some, slice_index_or}
use Rattle.std.specs.List.{count_by, flat_map, range_with_len}
use Rattle.std.proofs.lemmas.List.{get_or-map, length-map}
use Rattle.picture_text.specs.Elements.{colour, ground, new_title, row_text, tried_title}
use Rattle.picture_text.specs.Maps.{name_at}
use Rattle.picture_text.specs.Picture.{free_row, group_row, group_rows, in_new, in_tried, mark_row, occupied, others_name, others_text, source_at, titles_text, top_of}
use Rattle.table_groups.specs.Slots.{all_slots, new_slots, tried_slots}
use Rattle.table_groups.specs.Sources.{source_of}
use Rattle.table_groups.specs.declared.ranked_groups.Counted.{Counted}
use Rattle.table_groups.specs.declared.sources.Source.{Source}
use Rattle.table_groups.proofs.Once.{same-back}
use Rattle.table_groups.proofs.Visits.{count-cons, one_if}
use Rattle.table_picture.specs.Picture.{listed_of, marks_of}
use Rattle.picture_laws.specs.Counts.{CountsSlots, counted_row, row_at}
use Rattle.picture_laws.specs.Slots.{is_free, is_unlisted, listed_groups}
use Rattle.picture_laws.proofs.Listed.{groups-are, groups-few, groups-once, listed-are, ordered}
use Rattle.picture_laws.proofs.Marks.{count-all, count-in-new, count-in-tried, mark-free, mark-other}
use Rattle.picture_laws.proofs.Parts.{new-parts, tried-parts}
use Rattle.table_groups.specs.View.{View}

-- texts of the indices of a range
flat-same : (f g : ℕ → List ℕ) (a n : ℕ) → ((i : ℕ) → i < a + n → f i ≡ g i) → flat_map f (range_with_len a n) ≡ flat_map g (range_with_len a n)
flat-same f g a zero same = refl
flat-same f g a (suc n) same = λ i. same a (omega arith) i ++ flat-same f g (a + 1) n (λ j low. same j (omega (arith, low))) i

not-not : (b : Bool) → not (not b) ≡ b
not-not true = refl
not-not false = refl

-- what passes and what doesn't is all
count-both : (p : ℕ → Bool) (ks : List ℕ) → count_by p ks + count_by (λ k. not (p k)) ks ≡ length ks
count-both p [] = refl
count-both p (k ∷ ks) = by (p k) (count-both p ks) (count-cons p k ks) (count-cons (λ k. not (p k)) k ks)
  where
    by : (b : Bool) → count_by p ks + count_by (λ k. not (p k)) ks ≡ length ks → count_by p (k ∷ ks) ≡ one_if b + count_by p ks
        → count_by (λ k. not (p k)) (k ∷ ks) ≡ one_if (not b) + count_by (λ k. not (p k)) ks → count_by p (k ∷ ks) + count_by (λ k. not (p k)) (k ∷ ks) ≡ length (k ∷ ks)
    by true rest one other = omega (arith, rest, one, other)
    by false rest one other = omega (arith, rest, one, other)

abbrev no_source : Source
no_source = record { group = record { items = [] }; new = 0; tried = 0; buckets = 0 }

-- a row of numbers that are those of its group
own-row : (view : View) (names : List (List ℕ)) (cs : List Counted) (index : ℕ) → index < length cs
    → group_row (get_or (map (source_of view) cs) index no_source) (name_at names index) index
    ≡ counted_row view names (get_or (map (λ c. c.group.items) cs) index []) index
unfolding group_row
own-row view names [] index within = absurd (omega (arith, within))
own-row view names (c ∷ cs) zero within = refl
own-row view names (c ∷ cs) (suc index) within = other (get_or-map (source_of view) cs index c no_source (omega (arith, within))) (get_or-map (λ (d : Counted). d.group.items) cs index c [] (omega (arith, within)))
  where
    other : get_or (map (source_of view) cs) index no_source ≡ source_of view (get_or cs index c) → get_or (map (λ (d : Counted). d.group.items) cs) index [] ≡ (get_or cs index c).group.items
        → group_row (get_or (map (source_of view) cs) index no_source) (name_at names (suc index)) (suc index)
        ≡ counted_row view names (get_or (map (λ c. c.group.items) cs) index []) (suc index)
    other p q = ap (λ (s : Source). group_row s (name_at names (suc index)) (suc index)) p ∙ ap (λ (g : List ℕ). counted_row view names g (suc index)) (sym q)

module _ (view : View) where
  rows-are : (names : List (List ℕ)) → group_rows (listed_of view) names ≡ flat_map (row_at view names) (range_with_len 0 (length (listed_groups view)))
  unfolding group_rows
  rows-are names =
      let cs : List Counted = take 6 (ordered view) in
      (λ i. flat_map (λ index. group_row (source_at (listed-are view i) index) (name_at names index) index) (range_with_len 0 (length (listed-are view i))))
      ∙ flat-same (λ index. group_row (source_at (map (source_of view) cs) index) (name_at names index) index) (λ index. counted_row view names (slice_index_or (map (λ c. c.group.items) cs) index []) index) 0
      (length (map (source_of view) cs)) (λ index low. own-row view names cs index (omega (arith, low, length-map cs (source_of view))))
      ∙ ap (λ (n : ℕ). flat_map (λ index. counted_row view names (slice_index_or (map (λ c. c.group.items) cs) index []) index) (range_with_len 0 n))
      (length-map cs (source_of view) ∙ sym (length-map cs (λ (c : Counted). c.group.items)))
      ∙ (λ i. flat_map (λ index. counted_row view names (slice_index_or (sym (groups-are view) i) index []) index) (range_with_len 0 (length (sym (groups-are view) i))))

  few : length (listed_of view) ≤ 6
  few = omega (arith, length-map (listed_of view) (λ (s : Source). s.group.items), groups-few view)

  others-are : (count : ℕ) → others_text (marks_of view) count ≡ row_text (top_of 6) (colour 6) (others_name count) (all_slots (is_unlisted view) view) (tried_slots (is_unlisted view) view)
  unfolding mark_row
  others-are count = λ i. row_text (top_of 6) (colour 6) (others_name count)
      (count-all view (listed_of view) (λ m. m == 7) (is_unlisted view) (λ o. mark-other view.places (listed_of view) o few) i)
      (count-in-tried view (listed_of view) (λ m. m == 7) (is_unlisted view) (λ o. mark-other view.places (listed_of view) o few) i)

  free-are : (index : ℕ) → free_row (marks_of view) index ≡ row_text (top_of index) ground (codes "free") (all_slots is_free view) (tried_slots is_free view)
  unfolding free_row
  free-are index = λ i. row_text (top_of index) ground (codes "free")
      (count-all view (listed_of view) (λ m. m == 0) is_free (mark-free view.places (listed_of view)) i)
      (count-in-tried view (listed_of view) (λ m. m == 0) is_free (mark-free view.places (listed_of view)) i)

  new-some : occupied (in_new (marks_of view)) ≡ new_slots is_some view
  new-some =
      omega (
        arith,
        count-both (λ m. m == 0) (in_new (marks_of view)),
        count-in-new view (listed_of view) (λ m. not (m == 0)) is_some (λ o. ap not (mark-free view.places (listed_of view) o) ∙ not-not (is_some o)),
      )

  tried-some : occupied (in_tried (marks_of view)) ≡ tried_slots is_some view
  tried-some =
      omega (
        arith,
        count-both (λ m. m == 0) (in_tried (marks_of view)),
        count-in-tried view (listed_of view) (λ m. not (m == 0)) is_some (λ o. ap not (mark-free view.places (listed_of view) o) ∙ not-not (is_some o)),
      )

  titles-are : titles_text (marks_of view) ≡ new_title (new_slots is_some view) ++ tried_title (tried_slots is_some view)
  unfolding titles_text
  titles-are = λ i. new_title (new-some i) ++ tried_title (tried-some i)

  once-back : (g : List ℕ) → count_by (bytes_eq g) (listed_groups view) ≤ 1
  once-back g =
      let same : count_by (bytes_eq g) (listed_groups view) ≡ count_by (λ h. bytes_eq h g) (listed_groups view) = λ i. count_by (λ h. same-back g h i) (listed_groups view) in
      omega (arith, groups-once view g, same)

  pub counts-slots : CountsSlots view
  counts-slots = record {
    titles = titles-are;
    groups = rows-are;
    others = others-are;
    free = free-are;
    few = groups-few view;
    once = groups-once view;
    new_sum = new-parts view.places (listed_groups view) once-back view;
    tried_sum = tried-parts view.places (listed_groups view) once-back view;
  }
