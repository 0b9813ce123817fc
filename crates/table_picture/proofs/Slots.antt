-- The marks of the slots, of which there are 64 a bucket.
use Rattle.std.proofs.Common.{◌≡◌, ℕ, zero, suc, ◌+◌, ◌*◌, Bool, true, false, List, length, ap, ◌∙◌, arith, length-append}
use Rattle.std.specs.List.{flat_map, range_with_len}
use Rattle.std.proofs.lemmas.List.FromFn.{length-map-range_with_len}
use Rattle.table_groups.specs.declared.sources.Source.{Source}
use Rattle.table_machine.specs.Picks.{bucket_count}
use Rattle.table_picture.specs.Marks.{bucket_marks, marks_by, rec_mark, table_marks}
use Rattle.table_groups.specs.View.{View, occupant_at}

pub long : (f : ℕ → List ℕ) (a n : ℕ) → ((k : ℕ) → length (f k) ≡ 64) → length (flat_map f (range_with_len a n)) ≡ 64 * n
long f a zero each = omega arith
long f a (suc n) each = length-append (f a) (flat_map f (range_with_len (a + 1) n)) ∙ omega (arith, each a, long f (a + 1) n each)

module _ (view : View) (listed : List Source) where
  pub bucket-length : (in_new : Bool) (k : ℕ) → length (bucket_marks view listed in_new k) ≡ 64
  bucket-length in_new k = length-map-range_with_len (λ slot. rec_mark view.places listed (occupant_at view in_new k slot)) 0 64

  pub table-length : (in_new : Bool) → length (table_marks view listed in_new) ≡ 64 * bucket_count in_new
  unfolding table_marks
  table-length in_new = long (bucket_marks view listed in_new) 0 (bucket_count in_new) (bucket-length in_new)

  pub marks-length : (marks : List ℕ) → marks ≡ marks_by view listed → length marks ≡ 81920
  unfolding marks_by
  marks-length marks is = omega (arith, ap length is, length-append (table_marks view listed true) (table_marks view listed false), table-length true, table-length false)
