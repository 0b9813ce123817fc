-- What is counted among the marks of the slots is counted among their records.
use Rattle.std.proofs.Common.{◌≡◌, ℕ, zero, suc, ◌+◌, ◌*◌, ◌<◌, ◌≤◌, ◌==◌, ◌||◌, not, Bool, true, false, cond, List, [], ◌∷◌, ◌++◌, length, map, take, drop, get_or, refl, ap, ◌∙◌, arith}
use Rattle.std.specs.Prelude.{Option, Some, None, bytes_eq, is_some}
use Rattle.std.specs.List.{count_by, flat_map, list_any, range_with_len, sum_by}
use Rattle.std.proofs.Math.Seq.{take-append_seam}
use Rattle.std.proofs.lemmas.Bool.{ne_eqb}
use Rattle.std.proofs.lemmas.List.{get_or_append_left, get_or-append-add}
use Rattle.std.proofs.lemmas.List.FromFn.{get_or-map-range_with_len}
use Rattle.std.proofs.lemmas.List.Sums.{sum_by-append}
use Rattle.peer_rec.specs.declared.rec.Rec.{Rec}
use Rattle.picture_text.specs.Marks.{group_mark}
use Rattle.picture_text.specs.Picture.{in_new, in_tried}
use Rattle.placing.specs.Places.{Places, group}
use Rattle.table_groups.specs.Slots.{all_slots, new_slots, tried_slots}
use Rattle.table_groups.specs.declared.sources.Source.{Source}
use Rattle.table_groups.proofs.Once.{same-back}
use Rattle.table_groups.proofs.Visits.{count-flat, count-map, one_if}
use Rattle.table_machine.specs.Picks.{bucket_count}
use Rattle.table_picture.specs.Marks.{marks_by, rec_mark, table_marks}
use Rattle.table_picture.proofs.Slots.{bucket-length, table-length}
use Rattle.picture_laws.specs.Slots.{is_other}
use Rattle.table_groups.specs.View.{View, occupant_at}

-- ---- the mark of a record

-- no group has the mark of a free slot
mark-some : (g : List ℕ) (listed : List Source) (n : ℕ) → 0 < n → (group_mark n g listed == 0) ≡ false
mark-some g [] n some = refl
mark-some g (s ∷ listed) n some = by (bytes_eq s.group.items g) (mark-some g listed (n + 1) (omega arith))
  where
    by : (b : Bool) → (group_mark (n + 1) g listed == 0) ≡ false → (cond b n (group_mark (n + 1) g listed) == 0) ≡ false
    by true more = ne_eqb n 0 (λ is. omega (arith, is, some))
    by false more = more

pub mark-free : (places : Places) (listed : List Source) (o : Option Rec) → (rec_mark places listed o == 0) ≡ not (is_some o)
mark-free places listed None = refl
mark-free places listed (Some r) = mark-some (group places r.source) listed 1 (omega arith)

-- the others have 7
mark-last : (g : List ℕ) (listed : List Source) (n : ℕ) → n + length listed ≤ 7 → (group_mark n g listed == 7) ≡ not (list_any (bytes_eq g) (map (λ s. s.group.items) listed))
mark-last g [] n few = refl
mark-last g (s ∷ listed) n few = by (bytes_eq s.group.items g) (bytes_eq g s.group.items) (same-back s.group.items g) (mark-last g listed (n + 1) (omega (arith, few)))
  where
    by : (a b : Bool) → a ≡ b → (group_mark (n + 1) g listed == 7) ≡ not (list_any (bytes_eq g) (map (λ s. s.group.items) listed))
        → (cond a n (group_mark (n + 1) g listed) == 7) ≡ not (b || list_any (bytes_eq g) (map (λ s. s.group.items) listed))
    by a true e more = (λ i. cond (e i) n (group_mark (n + 1) g listed) == 7) ∙ ne_eqb n 7 (λ is. omega (arith, is, few))
    by a false e more = (λ i. cond (e i) n (group_mark (n + 1) g listed) == 7) ∙ more

pub mark-other : (places : Places) (listed : List Source) (o : Option Rec) → length listed ≤ 6 → (rec_mark places listed o == 7) ≡ is_other places (map (λ s. s.group.items) listed) o
mark-other places listed None few = refl
mark-other places listed (Some r) few = mark-last (group places r.source) listed 1 (omega (arith, few))

-- ---- the marks of all slots

drop-front : (a b : List ℕ) → drop (length a) (a ++ b) ≡ b
drop-front [] b = refl
drop-front (x ∷ a) b = drop-front a b

-- marks of buckets are counted a bucket at a time, by the test that their records pass
count-buckets : (p : ℕ → Bool) (mark : ℕ → ℕ → ℕ) (test : ℕ → ℕ → Bool) (slots buckets : List ℕ) → ((b s : ℕ) → p (mark b s) ≡ test b s)
    → count_by p (flat_map (λ b. map (mark b) slots) buckets) ≡ sum_by (λ b. count_by (test b) slots) buckets
count-buckets p mark test slots buckets same =
    count-flat p (λ b. map (mark b) slots) buckets
    ∙ (λ i. sum_by (λ b. count-map p (mark b) slots i) buckets)
    ∙ (λ i. sum_by (λ b. count_by (λ s. same b s i) slots) buckets)

next : (m b s : ℕ) → m ≡ 64 → 64 * suc b + s ≡ m + (64 * b + s)
next m b s e = omega arith

at_slot : (f : ℕ → List ℕ) (a n b s : ℕ) → ((k : ℕ) → length (f k) ≡ 64) → b < n → s < 64 → get_or (flat_map f (range_with_len a n)) (64 * b + s) 0 ≡ get_or (f (a + b)) s 0
at_slot f a zero b s each lt slot = absurd (omega arith)
at_slot f a (suc n) zero s each lt slot =
    ap (λ (i : ℕ). get_or (f a ++ flat_map f (range_with_len (a + 1) n)) i 0) (omega arith)
    ∙ get_or_append_left (f a) (flat_map f (range_with_len (a + 1) n)) 0 s (omega (arith, each a))
    ∙ ap (λ (k : ℕ). get_or (f k) s 0) (omega arith)
at_slot f a (suc n) (suc b) s each lt slot =
    ap (λ (i : ℕ). get_or (f a ++ flat_map f (range_with_len (a + 1) n)) i 0) (next (length (f a)) b s (each a))
    ∙ get_or-append-add (f a) (flat_map f (range_with_len (a + 1) n)) (64 * b + s) 0
    ∙ at_slot f (a + 1) n b s each (omega arith) slot
    ∙ ap (λ (k : ℕ). get_or (f k) s 0) (omega arith)

module _ (view : View) (listed : List Source) where
  abbrev mark : Option Rec → ℕ
  mark o = rec_mark view.places listed o

  -- the mark of one slot
  pub mark-at : (in_new : Bool) (b s : ℕ) → b < bucket_count in_new → s < 64 → get_or (table_marks view listed in_new) (64 * b + s) 0 ≡ mark (occupant_at view in_new b s)
  unfolding table_marks
  mark-at in_new b s bucket slot =
      at_slot (λ k. map (λ i. mark (occupant_at view in_new k i)) (range_with_len 0 64)) 0 (bucket_count in_new) b s (bucket-length view listed in_new) bucket slot
      ∙ ap (λ (k : ℕ). get_or (map (λ i. mark (occupant_at view in_new k i)) (range_with_len 0 64)) s 0) (omega arith)
      ∙ get_or-map-range_with_len (λ i. mark (occupant_at view in_new b i)) 0 64 s s 0 slot (omega arith)

  new-length : 65536 ≡ length (table_marks view listed true)
  new-length = omega (arith, table-length view listed true)

  pub in-new : in_new (marks_by view listed) ≡ table_marks view listed true
  unfolding in_new marks_by
  in-new =
      ap (λ (n : ℕ). take n (table_marks view listed true ++ table_marks view listed false)) new-length
      ∙ take-append_seam (table_marks view listed true) (table_marks view listed false)

  pub in-tried : in_tried (marks_by view listed) ≡ table_marks view listed false
  unfolding in_tried marks_by
  in-tried =
      ap (λ (n : ℕ). drop n (table_marks view listed true ++ table_marks view listed false)) new-length
      ∙ drop-front (table_marks view listed true) (table_marks view listed false)

  module _ (p : ℕ → Bool) (test : Option Rec → Bool) (same : (o : Option Rec) → p (mark o) ≡ test o) where
    count-new : count_by p (table_marks view listed true) ≡ new_slots test view
    unfolding table_marks new_slots
    count-new = count-buckets p (λ b s. mark (view.new b s)) (λ b s. test (view.new b s)) (range_with_len 0 64) (range_with_len 0 1024) (λ b s. same (view.new b s))

    count-tried : count_by p (table_marks view listed false) ≡ tried_slots test view
    unfolding table_marks tried_slots
    count-tried = count-buckets p (λ b s. mark (view.tried b s)) (λ b s. test (view.tried b s)) (range_with_len 0 64) (range_with_len 0 256) (λ b s. same (view.tried b s))

    pub count-all : count_by p (marks_by view listed) ≡ all_slots test view
    unfolding marks_by
    count-all = sum_by-append (λ m. one_if (p m)) (table_marks view listed true) (table_marks view listed false) ∙ (λ i. count-new i + count-tried i)

    pub count-in-new : count_by p (in_new (marks_by view listed)) ≡ new_slots test view
    count-in-new = ap (count_by p) in-new ∙ count-new

    pub count-in-tried : count_by p (in_tried (marks_by view listed)) ≡ tried_slots test view
    count-in-tried = ap (count_by p) in-tried ∙ count-tried
