-- The groups and rows of a view, from the tallies of its records and slots.
use Rattle.std.proofs.Common.{◌≡◌, ℕ, ◌+◌, List, [], ◌∷◌, Result, Ok, Err, map, refl, ap, ◌∙◌}
use Rattle.std.specs.Prelude.{IfOk}
use Rattle.arrayvec.specs.ArrayVec.{ArrayVec}
use Rattle.table_groups.proofs.Buckets.{all-buckets-of, all-groups, all-slots-of, all-tried-of, buckets-of, slots-of}
use Rattle.table_groups.proofs.OfRecords.{first-of, groups-are-once, new-of, tried-of}
use Rattle.table_groups.specs.Groups.{counted_group, counted_of, groups_in, row_of, rows_of}
use Rattle.table_groups.specs.Inside.{all_by, counted_in, counted_source_in, records_by, row_in, slots_by, source_in}
use Rattle.table_groups.specs.Order.{in_order}
use Rattle.table_groups.specs.Sources.{counted_source, slot_groups, source_of, sources_of}
use Rattle.table_groups.specs.Tally.{by_bytes, groups_of, once}
use Rattle.table_groups.specs.declared.ranked_groups.Counted.{Counted}
use Rattle.table_groups.specs.declared.group_records.RecordNumbers.{RecordNumbers}
use Rattle.table_groups.specs.declared.ranked_groups.Row.{Row}
use Rattle.table_groups.specs.declared.group_slots.SlotNumbers.{SlotNumbers}
use Rattle.table_groups.specs.declared.sources.Source.{Source}
use Rattle.table_groups.specs.View.{View}

pub if_ok : {A E : Type 0} (P Q : A → Type 0) (r : Result A E) → ((x : A) → P x → Q x) → IfOk r P → IfOk r Q
if_ok P Q (Ok x) so h = so x h
if_ok P Q (Err e) so h = h

keys-bytes : {V : Type 0} (f : List ℕ → Counted) (es : List (ArrayVec ℕ × V)) → map (λ k. f k.items) (map (λ e. e.0) es) ≡ map f (groups_of (by_bytes es))
keys-bytes f [] = refl
keys-bytes f (e ∷ es) = ap (λ (cs : List Counted). f e.0.items ∷ cs) (keys-bytes f es)

module _ (view : View) where
  counted-is : (g : List ℕ) → counted_in (records_by view.places view.records) (slots_by view) g ≡ counted_of view g
  counted-is g = λ i. record { group = record { items = g }; slots = slots-of view g i + tried-of view.places view.records g i }

  row-is : (c : Counted) → row_in (records_by view.places view.records) (slots_by view) c.group.items ≡ row_of view c
  row-is c = λ i. record {
    first = first-of view.places view.records c.group.items i;
    numbers = record {
      slots = slots-of view c.group.items i;
      buckets = buckets-of view c.group.items i;
      records = new-of view.places view.records c.group.items i;
      tried = tried-of view.places view.records c.group.items i;
    };
  }

  pub groups-are-in : (rs : List (ArrayVec ℕ × RecordNumbers)) (ss : List (ArrayVec ℕ × SlotNumbers)) (cs : List Counted) → by_bytes rs ≡ records_by view.places view.records → by_bytes ss ≡ slots_by view
      → cs ≡ map (λ k. counted_in (by_bytes rs) (by_bytes ss) k.items) (map (λ e. e.0) rs) → cs ≡ map (counted_of view) (once (map (counted_group view.places) view.records))
  groups-are-in rs ss cs records slots is =
      is ∙ keys-bytes (counted_in (by_bytes rs) (by_bytes ss)) rs
      ∙ (λ i. map (counted_in (records i) (slots i)) (groups_of (records i)))
      ∙ ap (map (counted_in (records_by view.places view.records) (slots_by view))) (groups-are-once view.places view.records)
      ∙ (λ i. map (λ g. counted-is g i) (once (map (counted_group view.places) view.records)))

  pub rows-are-of : (rs : List (ArrayVec ℕ × RecordNumbers)) (ss : List (ArrayVec ℕ × SlotNumbers)) (cs : List Counted) (rows : List Row) → by_bytes rs ≡ records_by view.places view.records
      → by_bytes ss ≡ slots_by view → cs ≡ groups_in view → rows ≡ map (λ c. row_in (by_bytes rs) (by_bytes ss) c.group.items) cs → rows ≡ rows_of view
  unfolding rows_of
  rows-are-of rs ss cs rows records slots groups is =
      is ∙ (λ i. map (λ c. row_in (records i) (slots i) c.group.items) (groups i)) ∙ (λ i. map (λ c. row-is c i) (groups_in view))

  -- ---- the sources

  counted-source-is : (g : List ℕ) → counted_source_in (all_by view) g ≡ counted_source view g
  counted-source-is g = λ i. record { group = record { items = g }; slots = all-slots-of view g i + all-tried-of view g i }

  source-is : (c : Counted) → source_in (all_by view) c.group.items ≡ source_of view c
  source-is c = λ i. record {
    group = record { items = c.group.items };
    new = all-slots-of view c.group.items i;
    tried = all-tried-of view c.group.items i;
    buckets = all-buckets-of view c.group.items i;
  }

  pub sources-are-in : (ss : List (ArrayVec ℕ × SlotNumbers)) (cs : List Counted) → by_bytes ss ≡ all_by view → cs ≡ map (λ k. counted_source_in (by_bytes ss) k.items) (map (λ e. e.0) ss)
      → cs ≡ map (counted_source view) (once (slot_groups view))
  sources-are-in ss cs slots is =
      is ∙ keys-bytes (counted_source_in (by_bytes ss)) ss
      ∙ (λ i. map (counted_source_in (slots i)) (groups_of (slots i)))
      ∙ ap (map (counted_source_in (all_by view))) (all-groups view)
      ∙ (λ i. map (λ g. counted-source-is g i) (once (slot_groups view)))

  pub sources-are-of : (ss : List (ArrayVec ℕ × SlotNumbers)) (cs : List Counted) (sources : List Source) → by_bytes ss ≡ all_by view
      → cs ≡ in_order (map (counted_source view) (once (slot_groups view))) → sources ≡ map (λ c. source_in (by_bytes ss) c.group.items) cs → sources ≡ sources_of view
  unfolding sources_of
  sources-are-of ss cs sources slots groups is =
      is ∙ (λ i. map (λ c. source_in (slots i) c.group.items) (groups i)) ∙ (λ i. map (λ c. source-is c i) (in_order (map (counted_source view) (once (slot_groups view)))))
