-- The sides of both tables give the rows.
use Rattle.std.proofs.Common.{◌≡◌, ℕ, suc, ◌+◌, ◌*◌, ◌^◌, ◌≤◌, ◌<◌, min, Bool, true, false, cond, not, ◌||◌, ◌==◌, List, [], ◌∷◌, ◌++◌, fold, get_or, length, map, take, refl, sym, ap, subst, ◌∙◌, arith, true≢false, if◌then◌else◌}
use Rattle.std.specs.Prelude.{bytes_eq}
use Rattle.std.specs.List.{position_or_len}
use Rattle.std.proofs.lemmas.List.{length-take, take_more}
use Rattle.std.proofs.lemmas.List.Sums.{fold-append}
use Rattle.arrayvec.specs.ArrayVec.{ArrayVec}
use Rattle.net_addr.specs.NetSet.{all}
use Rattle.peer_rec.specs.declared.rec.Rec.{Rec}
use Rattle.placing.specs.Places.{Places}
use Rattle.risk_laws.specs.Classes.{chances}
use Rattle.risk_parts.specs.Parts.{millionths}
use Rattle.risk_sum.specs.Kinds.{AreKinds, most_by, starts_of}
use Rattle.table_groups.proofs.Values.{after_visit, groups-are, values-are}
use Rattle.table_groups.specs.Tally.{by_bytes, groups_of, noted, once, tally_of, value_in}
use Rattle.table_groups.specs.View.{View, wanted_new, wanted_tried}
use Rattle.table_machine.specs.Picks.{first_factor}
use Rattle.table_risk.specs.Grouping.{group_by}
use Rattle.table_risk.specs.Inside.{Counts, FitsSide, Sides, class_by, classes_share, firsts_by, index_visits, is_none, kind_in, lower, row_in, side_by, side_share}
use Rattle.table_risk.specs.Occupants.{occupants_of}
use Rattle.table_risk.specs.Rows.{first_in, has_none, row_by, rows_of, search, share_in, wanted_in}
use Rattle.table_risk.specs.Shares.{share_of}
use Rattle.table_risk.specs.declared.by.By.{By}
use Rattle.table_risk.specs.declared.classes.Search.{Search}
use Rattle.table_risk.specs.declared.rows.Row.{Row}
use Rattle.table_risk.proofs.KindsOf.{are_kinds, kinds_are}

or_false : (a b : Bool) → (a || b) ≡ false → b ≡ false
or_false true b is = absurd (true≢false is)
or_false false b is = is

fits : (view : View) (what : Search) (g : List ℕ) → FitsSide (side_by view what) g
fits view what g = record {
  few = let is : length (map (class_by view.places what (occupants_of view what.in_new)) chances) ≡ 18 = refl in omega (arith, is);
  kinds = λ some. subst AreKinds (sym (kinds_are view what g))
      (are_kinds view what g (or_false (wanted_in view what.in_new == 0) (length (occupants_of view what.in_new) == 0) some));
}

pub all_fit : (view : View) (what : Search) (side : Sides) → side ≡ side_by view what → (g : List ℕ) → FitsSide side g
all_fit view what side is g = subst (λ s. FitsSide s g) (sym is) (fits view what g)

pub share_same : (view : View) (what : Search) (g : List ℕ) → side_share (side_by view what) g ≡ share_in view what g
unfolding share_of classes_share
share_same view what g =
    λ i. if has_none view what.in_new then 0
    else min (most_by (kinds_are view what g i) (starts_of (kinds_are view what g i) * 2 ^ 30) (2 ^ 64) 48 first_factor) (2 ^ 64)

row_same : (view : View) (by : By) (now : ℕ) (g : List ℕ) (first : ℕ) → row_in (side_by view (search true by now)) (side_by view (search false by now)) g first ≡ row_by view by now g first
row_same view by now g first =
    let new = share_same view (search true by now) g in
    let tried = share_same view (search false by now) g in
    λ i. record {
      group = record { items = g };
      first = first;
      picks = millionths (new i + tried i) (if wanted_new view all == 0 || wanted_tried view all == 0 then 2 ^ 64 else 2 ^ 65);
      new = millionths (new i) (2 ^ 64);
      tried = millionths (tried i) (2 ^ 64);
    }

-- ---- the first record of each group

module _ (f : Rec → List ℕ) where
  position_low : (g : List ℕ) (recs : List Rec) → position_or_len (λ r. bytes_eq g (f r)) recs ≤ length recs
  position_low g [] = omega arith
  position_low g (r ∷ recs) = by (bytes_eq g (f r)) (position_low g recs)
    where
      by : (b : Bool) → position_or_len (λ r. bytes_eq g (f r)) recs ≤ length recs → cond (not b) (1 + position_or_len (λ r. bytes_eq g (f r)) recs) 0 ≤ length (r ∷ recs)
      by true low = omega arith
      by false low = omega (arith, low)

  lowest : (g : List ℕ) (recs : List Rec) (i n : ℕ) → n ≤ i + length recs → fold (after_visit lower g) n (index_visits f i recs) ≡ min n (i + position_or_len (λ r. bytes_eq g (f r)) recs)
  lowest g [] i n low = omega (arith, low)
  lowest g (r ∷ recs) i n low = by (bytes_eq g (f r)) (lowest g recs (i + 1) (min n i) (omega arith)) (lowest g recs (i + 1) n (omega (arith, low)))
    where
      by : (b : Bool) → fold (after_visit lower g) (min n i) (index_visits f (i + 1) recs) ≡ min (min n i) (i + 1 + position_or_len (λ r. bytes_eq g (f r)) recs)
          → fold (after_visit lower g) n (index_visits f (i + 1) recs) ≡ min n (i + 1 + position_or_len (λ r. bytes_eq g (f r)) recs)
          → fold (after_visit lower g) (cond b (min n i) n) (index_visits f (i + 1) recs) ≡ min n (i + cond (not b) (1 + position_or_len (λ r. bytes_eq g (f r)) recs) 0)
      by true own other = own ∙ omega arith
      by false own other = other ∙ omega arith

  first_is : (recs : List Rec) (g : List ℕ) → value_in (length recs) (tally_of (length recs) lower (index_visits f 0 recs)) g ≡ position_or_len (λ r. bytes_eq g (f r)) recs
  first_is recs g =
      values-are (length recs) lower (index_visits f 0 recs) g ∙ lowest g recs 0 (length recs) (omega arith)
      ∙ omega (arith, position_low g recs)

  visit_groups : (recs : List Rec) (i : ℕ) → map (λ (v : List ℕ × ℕ). v.0) (index_visits f i recs) ≡ map f recs
  visit_groups [] i = refl
  visit_groups (r ∷ recs) i = ap (λ (gs : List (List ℕ)). f r ∷ gs) (visit_groups recs (i + 1))

  -- one record more
  visits_append : (recs : List Rec) (r : Rec) (i : ℕ) → index_visits f i (recs ++ r ∷ []) ≡ index_visits f i recs ++ (f r, i + length recs) ∷ []
  visits_append [] r i = λ j. (f r, plus-none i j) ∷ []
    where
      plus-none : (n : ℕ) → n ≡ n + 0
      plus-none n = omega arith
  visits_append (q ∷ recs) r i =
      ap (λ (t : List (List ℕ × ℕ)). (f q, i) ∷ t) (visits_append recs r (i + 1) ∙ ap (λ (n : ℕ). index_visits f (i + 1) recs ++ (f r, n) ∷ []) up)
    where
      up : i + 1 + length recs ≡ i + suc (length recs)
      up = omega arith

pub index_more : (places : Places) (by : By) (recs : List Rec) (i count : ℕ) (rec : Rec) (now next : List (List ℕ × ℕ)) → i < length recs → rec ≡ get_or recs i rec
    → now ≡ firsts_by places by count (take i recs) → next ≡ noted count lower now (group_by by places rec, i) → next ≡ firsts_by places by count (take (i + 1) recs)
index_more places by recs i count rec now next within is so_far more =
    let f : Rec → List ℕ = group_by by places in
    let taken : take (i + 1) recs ≡ take i recs ++ rec ∷ [] = take_more recs i rec within ∙ ap (λ (r : Rec). take i recs ++ r ∷ []) (sym is) in
    let long : 0 + length (take i recs) ≡ i = omega (arith, within, length-take i recs) in
    more ∙ ap (λ (es : List (List ℕ × ℕ)). noted count lower es (f rec, i)) so_far
    ∙ sym (ap (λ (rs : List Rec). tally_of count lower (index_visits f 0 rs)) taken
    ∙ ap (tally_of count lower) (visits_append f (take i recs) rec 0 ∙ ap (λ (n : ℕ). index_visits f 0 (take i recs) ++ (f rec, n) ∷ []) long)
    ∙ fold-append (noted count lower) [] (index_visits f 0 (take i recs)) ((f rec, i) ∷ []))

-- ---- all rows

keys_bytes : (h : List ℕ → Row) (es : List (ArrayVec ℕ × ℕ)) → map (λ k. h k.items) (map (λ e. e.0) es) ≡ map h (groups_of (by_bytes es))
keys_bytes h [] = refl
keys_bytes h (e ∷ es) = ap (λ (rows : List Row). h e.0.items ∷ rows) (keys_bytes h es)

pub rows_are : (view : View) (by : By) (now count : ℕ) (new tried : Sides) → new ≡ side_by view (search true by now) → tried ≡ side_by view (search false by now) → count ≡ length view.records
    → (es : List (ArrayVec ℕ × ℕ)) → by_bytes es ≡ firsts_by view.places by count view.records → (rows : List Row)
    → rows ≡ map (λ k. row_in new tried k.items (value_in count (by_bytes es) k.items)) (map (λ e. e.0) es) → rows ≡ rows_of view by now
unfolding rows_of
rows_are view by now count new tried one two all es are rows is =
    let f : Rec → List ℕ = group_by by view.places in
    let vs : List (List ℕ × ℕ) = index_visits f 0 view.records in
    is ∙ keys_bytes (λ g. row_in new tried g (value_in count (by_bytes es) g)) es
    ∙ (λ i. map (λ g. row_in (one i) (two i) g (value_in count (are i) g)) (groups_of (are i)))
    ∙ (λ i. map (λ g. row_same view by now g (value_in (all i) (tally_of (all i) lower vs) g) i) (groups_of (tally_of (all i) lower vs)))
    ∙ (λ i. map (λ g. row_by view by now g (first_is f view.records g i)) (groups-are (length view.records) lower vs i))
    ∙ (λ i. map (λ g. row_by view by now g (first_in view by g)) (once (visit_groups f view.records 0 i)))

-- ---- one side

pub below_whole : (side : Sides) (g : List ℕ) (share : ℕ) → is_none side ≡ false → share ≡ classes_share side.classes g → share < 2 ^ 64 → share ≡ side_share side g
below_whole side g share there is low =
    let least : share ≡ min share (2 ^ 64) = omega (arith, low) in
    least ∙ ap (λ n. min n (2 ^ 64)) is ∙ (λ i. if sym there i then 0 else min (classes_share side.classes g) (2 ^ 64))

pub whole : (side : Sides) (g : List ℕ) (share : ℕ) → is_none side ≡ false → share ≡ classes_share side.classes g → 2 ^ 64 ≤ share → 2 ^ 64 ≡ side_share side g
whole side g share there is high =
    let least : 2 ^ 64 ≡ min share (2 ^ 64) = omega (arith, high) in
    least ∙ ap (λ n. min n (2 ^ 64)) is ∙ (λ i. if sym there i then 0 else min (classes_share side.classes g) (2 ^ 64))

pub is_share : (classes : List Counts) (g : List ℕ) (share : ℕ)
    → share ≡ most_by (map (kind_in g) classes) (starts_of (map (kind_in g) classes) * 2 ^ 30) (2 ^ 64) 48 (2 ^ 30) → share ≡ classes_share classes g
unfolding classes_share
is_share classes g share is = is
