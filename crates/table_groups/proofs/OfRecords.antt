-- The numbers of a group are those of its records.
use Rattle.std.proofs.Common.{◌≡◌, ℕ, ◌+◌, ◌<◌, ◌≤◌, ◌++◌, get_or, length, take, ◌&&◌, not, Bool, true, false, cond, List, [], ◌∷◌, map, refl, sym, ap, ◌∙◌, Option, Some, None, arith, subst}
use Rattle.std.specs.Prelude.{bytes_eq, count_by, find, option_map}
use Rattle.std.specs.List.{fold}
use Rattle.std.proofs.lemmas.List.{map-append, take_more}
use Rattle.std.proofs.lemmas.List.Sums.{fold-append}
use Rattle.net_addr.specs.Address.{Address}
use Rattle.peer_rec.specs.Rec.{is_tried}
use Rattle.peer_rec.specs.declared.rec.Rec.{Rec}
use Rattle.placing.specs.Places.{Places}
use Rattle.table_groups.specs.Groups.{counted_address, counted_group, counts_for}
use Rattle.table_groups.specs.Inside.{AreFewRecords, first_or, no_records, record_visits, records_by, with_record}
use Rattle.table_groups.specs.Tally.{groups_of, noted, once, value_in}
use Rattle.table_groups.specs.declared.group_records.RecordNumbers.{RecordNumbers}
use Rattle.table_groups.proofs.Values.{after_visit, groups-are, values-are, visited}
use Rattle.table_groups.proofs.Visits.{count-cons, one_if}

-- the first of two addresses
abbrev either : Option Address → Option Address → Option Address
either None b = b
either (Some a) b = Some a

either-none : (a : Option Address) → a ≡ either a None
either-none None = refl
either-none (Some a) = refl

either-first : (a : Option Address) (b : Address) (c : Option Address) → either (first_or a b) c ≡ either a (Some b)
either-first None b c = refl
either-first (Some a) b c = refl

module _ (places : Places) (g : List ℕ) where
  abbrev after : RecordNumbers → List Rec → RecordNumbers
  after n recs = fold (after_visit with_record g) n (record_visits places recs)

  first-is : (recs : List Rec) (n : RecordNumbers) → (after n recs).first ≡ either n.first (option_map counted_address (find (counts_for places g) recs))
  first-is [] n = either-none n.first
  first-is (r ∷ recs) n = by (counts_for places g r) (first-is recs (with_record n r)) (first-is recs n)
    where
      by : (b : Bool) → (after (with_record n r) recs).first ≡ either (first_or n.first (counted_address r)) (option_map counted_address (find (counts_for places g) recs))
          → (after n recs).first ≡ either n.first (option_map counted_address (find (counts_for places g) recs))
          → (after (cond b (with_record n r) n) recs).first ≡ either n.first (option_map counted_address (cond b (Some r) (find (counts_for places g) recs)))
      by true own other = own ∙ either-first n.first (counted_address r) (option_map counted_address (find (counts_for places g) recs))
      by false own other = other

  new-are : (recs : List Rec) (n : RecordNumbers) → (after n recs).new ≡ n.new + count_by (λ r. not (is_tried r) && counts_for places g r) recs
  new-are [] n = omega arith
  new-are (r ∷ recs) n =
      by (counts_for places g r) (is_tried r) (count-cons (λ r. not (is_tried r) && counts_for places g r) r recs) (new-are recs (with_record n r)) (new-are recs n)
    where
      by : (b t : Bool) → count_by (λ r. not (is_tried r) && counts_for places g r) (r ∷ recs) ≡ one_if (not t && b) + count_by (λ r. not (is_tried r) && counts_for places g r) recs
          → (after (with_record n r) recs).new ≡ cond t n.new (n.new + 1) + count_by (λ r. not (is_tried r) && counts_for places g r) recs
          → (after n recs).new ≡ n.new + count_by (λ r. not (is_tried r) && counts_for places g r) recs
          → (after (cond b (with_record n r) n) recs).new ≡ n.new + count_by (λ r. not (is_tried r) && counts_for places g r) (r ∷ recs)
      by true true sum own other = omega (arith, sum, own)
      by true false sum own other = omega (arith, sum, own)
      by false true sum own other = omega (arith, sum, other)
      by false false sum own other = omega (arith, sum, other)

  tried-are : (recs : List Rec) (n : RecordNumbers) → (after n recs).tried ≡ n.tried + count_by (λ r. is_tried r && counts_for places g r) recs
  tried-are [] n = omega arith
  tried-are (r ∷ recs) n =
      by (counts_for places g r) (is_tried r) (count-cons (λ r. is_tried r && counts_for places g r) r recs) (tried-are recs (with_record n r)) (tried-are recs n)
    where
      by : (b t : Bool) → count_by (λ r. is_tried r && counts_for places g r) (r ∷ recs) ≡ one_if (t && b) + count_by (λ r. is_tried r && counts_for places g r) recs
          → (after (with_record n r) recs).tried ≡ cond t (n.tried + 1) n.tried + count_by (λ r. is_tried r && counts_for places g r) recs
          → (after n recs).tried ≡ n.tried + count_by (λ r. is_tried r && counts_for places g r) recs
          → (after (cond b (with_record n r) n) recs).tried ≡ n.tried + count_by (λ r. is_tried r && counts_for places g r) (r ∷ recs)
      by true true sum own other = omega (arith, sum, own)
      by true false sum own other = omega (arith, sum, own)
      by false true sum own other = omega (arith, sum, other)
      by false false sum own other = omega (arith, sum, other)

pub first-of : (places : Places) (recs : List Rec) (g : List ℕ) → (value_in no_records (records_by places recs) g).first ≡ option_map counted_address (find (counts_for places g) recs)
first-of places recs g = ap (λ (n : RecordNumbers). n.first) (values-are no_records with_record (record_visits places recs) g) ∙ first-is places g recs no_records

pub new-of : (places : Places) (recs : List Rec) (g : List ℕ) → (value_in no_records (records_by places recs) g).new ≡ count_by (λ r. not (is_tried r) && counts_for places g r) recs
new-of places recs g = ap (λ (n : RecordNumbers). n.new) (values-are no_records with_record (record_visits places recs) g) ∙ new-are places g recs no_records ∙ omega arith

pub tried-of : (places : Places) (recs : List Rec) (g : List ℕ) → (value_in no_records (records_by places recs) g).tried ≡ count_by (λ r. is_tried r && counts_for places g r) recs
tried-of places recs g = ap (λ (n : RecordNumbers). n.tried) (values-are no_records with_record (record_visits places recs) g) ∙ tried-are places g recs no_records ∙ omega arith

visit-groups : (places : Places) (recs : List Rec) → map (λ v. v.0) (record_visits places recs) ≡ map (counted_group places) recs
visit-groups places [] = refl
visit-groups places (r ∷ recs) = ap (λ (gs : List (List ℕ)). counted_group places r ∷ gs) (visit-groups places recs)

pub groups-are-once : (places : Places) (recs : List Rec) → groups_of (records_by places recs) ≡ once (map (counted_group places) recs)
groups-are-once places recs = groups-are no_records with_record (record_visits places recs) ∙ ap once (visit-groups places recs)

-- ---- how many there can be

pub few-records : (n : ℕ) (es : List (List ℕ × RecordNumbers)) (v : List ℕ × Rec) → AreFewRecords n es → AreFewRecords (n + 1) (noted no_records with_record es v)
few-records n es v few k =
    subst (λ (m : RecordNumbers). (m.new ≤ n + 1) × (m.tried ≤ n + 1)) (sym (visited no_records with_record es v k)) (by (bytes_eq k v.0) (is_tried v.1))
  where
    old : RecordNumbers
    old = value_in no_records es k

    by : (t u : Bool) → ((cond t (record { first = first_or old.first (counted_address v.1); new = cond u old.new (old.new + 1); tried = cond u (old.tried + 1) old.tried }) old).new ≤ n + 1)
        × ((cond t (record { first = first_or old.first (counted_address v.1); new = cond u old.new (old.new + 1); tried = cond u (old.tried + 1) old.tried }) old).tried ≤ n + 1)
    by true true = (omega (arith, (few k).0), omega (arith, (few k).1))
    by true false = (omega (arith, (few k).0), omega (arith, (few k).1))
    by false u = (omega (arith, (few k).0), omega (arith, (few k).1))

-- one record more
pub record-more : (places : Places) (recs : List Rec) (i : ℕ) (rec : Rec) (now next : List (List ℕ × RecordNumbers)) → i < length recs → rec ≡ get_or recs i rec
    → now ≡ records_by places (take i recs) → next ≡ noted no_records with_record now (counted_group places rec, rec) → next ≡ records_by places (take (i + 1) recs)
record-more places recs i rec now next within is so_far more =
    let visit : List ℕ × Rec = (counted_group places rec, rec) in
    let taken : take (i + 1) recs ≡ take i recs ++ rec ∷ [] = take_more recs i rec within ∙ ap (λ (r : Rec). take i recs ++ r ∷ []) (sym is) in
    more ∙ ap (λ (es : List (List ℕ × RecordNumbers)). noted no_records with_record es visit) so_far
    ∙ sym (fold-append (noted no_records with_record) [] (record_visits places (take i recs)) (visit ∷ []))
    ∙ ap (fold (noted no_records with_record) [])
    (sym (ap (record_visits places) taken ∙ map-append {B = List ℕ × Rec} (λ r. (counted_group places r, r)) (take i recs) (rec ∷ [])))
