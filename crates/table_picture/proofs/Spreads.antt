-- The marks of the groups that spread, one group more; and of all slots.
use Rattle.std.proofs.Common.{◌≡◌, ℕ, ◌+◌, ◌<◌, ◌||◌, Bool, true, false, cond, get_or, length, take, List, [], ◌∷◌, ◌++◌, map, refl, sym, ap, ◌∙◌, Option, Some, None}
use Rattle.std.specs.Prelude.{bytes_eq, filter}
use Rattle.std.specs.List.{list_any, range_with_len}
use Rattle.std.proofs.lemmas.List.{append-nil, take_more}
use Rattle.std.proofs.lemmas.List.Elements.{filter-append}
use Rattle.std.proofs.lemmas.List.Folds.{list_any-append}
use Rattle.indexmap.specs.IndexMap.{insert_entry}
use Rattle.peer_rec.specs.declared.rec.Rec.{Rec}
use Rattle.picture_text.specs.Spread.{is_spread}
use Rattle.picture_text.specs.declared.by.By.{By}
use Rattle.placing.specs.Places.{group}
use Rattle.table_groups.proofs.Values.{visited}
use Rattle.table_groups.specs.Tally.{value_in}
use Rattle.table_groups.specs.View.{View}
use Rattle.table_groups.specs.declared.sources.Source.{Source}
use Rattle.table_picture.specs.By.{rec_in}
use Rattle.table_picture.specs.Inside.{spread_by, with_spread}
use Rattle.table_picture.specs.Slots.{rec_spread, slot_marks, spread_mark}

abbrev eight : ℕ
eight = 8

-- a group more has the mark
spread-put : (es : List (List ℕ × ℕ)) (spread : List Source) (s : Source) (h : List ℕ) → value_in 0 es h ≡ spread_mark spread h
    → cond (bytes_eq h s.group.items) eight (value_in 0 es h) ≡ spread_mark (spread ++ s ∷ []) h
spread-put es spread s h so_far =
    ap (λ (n : ℕ). cond (bytes_eq h s.group.items) eight n) so_far
    ∙ by (list_any (λ t. bytes_eq h t.group.items) spread) (bytes_eq h s.group.items)
    ∙ ap (λ (b : Bool). cond b eight 0) (sym (list_any-append (λ t. bytes_eq h t.group.items) spread (s ∷ [])))
  where
    by : (a b : Bool) → cond b eight (cond a eight 0) ≡ cond (a || (b || false)) eight 0
    by true true = refl
    by true false = refl
    by false true = refl
    by false false = refl

pub spread-more : (what : By) (sources : List Source) (i : ℕ) (s : Source) (es next : List (List ℕ × ℕ)) → i < length sources → s ≡ get_or sources i s
    → ((h : List ℕ) → value_in 0 es h ≡ spread_mark (filter (is_spread what) (take i sources)) h) → next ≡ with_spread what es s
    → (h : List ℕ) → value_in 0 next h ≡ spread_mark (filter (is_spread what) (take (i + 1) sources)) h
spread-more what sources i s es next within is so_far more h =
    ap (λ (ds : List (List ℕ × ℕ)). value_in 0 ds h) more
    ∙ by (is_spread what s)
    ∙ ap (λ (t : List Source). spread_mark t h) (sym (filter-append (is_spread what) (take i sources) (s ∷ [])))
    ∙ ap (λ (t : List Source). spread_mark (filter (is_spread what) t) h) (sym taken)
  where
    taken : take (i + 1) sources ≡ take i sources ++ s ∷ []
    taken = take_more sources i s within ∙ ap (λ (r : Source). take i sources ++ r ∷ []) (sym is)

    by : (b : Bool) → value_in 0 (cond b (insert_entry bytes_eq es s.group.items 8) es) h ≡ spread_mark (filter (is_spread what) (take i sources) ++ cond b (s ∷ []) []) h
    by true = visited 0 (λ n mark. mark) es (s.group.items, eight) h ∙ spread-put es (filter (is_spread what) (take i sources)) s h (so_far h)
    by false = so_far h ∙ ap (λ (t : List Source). spread_mark t h) (sym (append-nil (filter (is_spread what) (take i sources))))

module _ (view : View) (spread : List Source) (es : List (List ℕ × ℕ)) (each : (h : List ℕ) → value_in 0 es h ≡ spread_mark spread h) where
  of-rec : (o : Option Rec) → spread_by view.places es o ≡ rec_spread view.places spread o
  of-rec None = refl
  of-rec (Some r) = each (group view.places r.source)

  pub of-slots : slot_marks (spread_by view.places es) view ≡ slot_marks (rec_spread view.places spread) view
  unfolding slot_marks
  of-slots = (λ i. map (λ slot. of-rec (rec_in view slot) i) (range_with_len 0 81920))
