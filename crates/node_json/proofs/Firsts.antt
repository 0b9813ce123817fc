-- Each group that a record counts for has one row, and each row has a record.
use Rattle.std.proofs.Common.{◌≡◌, ℕ, ◌+◌, Bool, true, false, cond, List, [], ◌∷◌, ◌++◌, length, map, refl, sym, ap, ◌∙◌, arith, length-append}
use Rattle.std.specs.Prelude.{Contains, IsSome, Option, Some, None, bytes_eq, find, is_some, option_map, ◌||◌}
use Rattle.std.specs.List.{AllByRecursion, count_by, flat_map, list_any}
use Rattle.std.proofs.lemmas.Bool.{both_ways}
use Rattle.std.proofs.lemmas.List.{map-append}
use Rattle.std.proofs.lemmas.List.Elements.{All-from_recursion}
use Rattle.std.proofs.lemmas.List.Sums.{sum_by-append}
use Rattle.std.proofs.lemmas.Slice.Eq.{bytes_eq-Decides}
use Rattle.peer_rec.specs.declared.rec.Rec.{Rec}
use Rattle.table_groups.proofs.Once.{once-all, once-count, same-back}
use Rattle.table_groups.proofs.Sorted.{order-all, order-sum, weaker}
use Rattle.table_groups.proofs.Visits.{count-cons, count-map, one_if}
use Rattle.table_groups.specs.Groups.{counted_address, counted_group, counted_of, counts_for, groups_in, numbers_of, row_of, rows_of}
use Rattle.table_groups.specs.Tally.{once}
use Rattle.table_groups.specs.declared.ranked_groups.Counted.{Counted}
use Rattle.table_machine.proofs.Lists.{Contains-head, Contains-tail, find-IsSome, find-None, find-Some}
use Rattle.node_json.specs.Groups.{ListsGroups, group_members, group_object, groups_array, items_by, row_items}
use Rattle.node_json.specs.Value.{array_of, object_of}
use Rattle.table_groups.specs.View.{View}

-- a record, if there is one
abbrev listed : Option Rec → List Rec
listed None = []
listed (Some r) = r ∷ []

-- each record is one of them
pub each-known : (recs : List Rec) → AllByRecursion (Contains recs) recs
each-known [] = tt
each-known (r ∷ recs) = (Contains-head r recs, weaker (Contains recs) (Contains (r ∷ recs)) recs (Contains-tail r recs) (each-known recs))

map-all : (P : List ℕ → Type 0) (Q : Rec → Type 0) (f : Rec → List ℕ) (recs : List Rec) → ((r : Rec) → Q r → P (f r)) → AllByRecursion Q recs → AllByRecursion P (map f recs)
map-all P Q f [] so each = tt
map-all P Q f (r ∷ recs) so each = (so r each.0, map-all P Q f recs so each.1)

counted-all : (P : Counted → Type 0) (f : List ℕ → Counted) (gs : List (List ℕ)) → AllByRecursion (λ g. P (f g)) gs → AllByRecursion P (map f gs)
counted-all P f [] each = tt
counted-all P f (g ∷ gs) each = (each.0, counted-all P f gs each.1)

any-map : (k : List ℕ) (f : Rec → List ℕ) (recs : List Rec) → list_any (bytes_eq k) (map f recs) ≡ is_some (find (λ r. bytes_eq k (f r)) recs)
any-map k f [] = refl
any-map k f (r ∷ recs) = by (bytes_eq k (f r)) (any-map k f recs)
  where
    by : (b : Bool) → list_any (bytes_eq k) (map f recs) ≡ is_some (find (λ r. bytes_eq k (f r)) recs)
        → (b || list_any (bytes_eq k) (map f recs)) ≡ is_some (cond b (Some r) (find (λ r. bytes_eq k (f r)) recs))
    by true more = refl
    by false more = more

module _ (view : View) where
  abbrev pub groups : List (List ℕ)
  groups = once (map (counted_group view.places) view.records)

  -- the first record of a group
  abbrev first_in : List ℕ → Option Rec
  first_in g = find (counts_for view.places g) view.records

  -- those of some groups
  abbrev firsts : List Counted → List Rec
  firsts cs = flat_map (λ c. listed (find (counts_for view.places c.group.items) view.records)) cs

  pub own : (r : Rec) → Contains view.records r → IsSome (find (counts_for view.places (counted_group view.places r)) view.records)
  own r known =
      find-IsSome (counts_for view.places (counted_group view.places r)) view.records r known ((bytes_eq-Decides (counted_group view.places r) (counted_group view.places r)).1 refl)

  -- a group that a record counts for is once among them
  pub once-group : (r : Rec) → Contains view.records r → count_by (bytes_eq (counted_group view.places r)) groups ≡ 1
  once-group r known =
      once-count (counted_group view.places r) (map (counted_group view.places) view.records)
      ∙ ap one_if (any-map (counted_group view.places r) (counted_group view.places) view.records ∙ own r known)

  -- ---- the text

  row-is : (c : Counted) → row_items view.places (row_of view c) ≡ map (group_object view) (listed (find (counts_for view.places c.group.items) view.records))
  row-is c = by (find (counts_for view.places c.group.items) view.records) refl
    where
      by : (o : Option Rec) → find (counts_for view.places c.group.items) view.records ≡ o
          → items_by view.places (numbers_of view c.group.items) (option_map counted_address o) ≡ map (group_object view) (listed o)
      by None e = refl
      by (Some r) e =
          ap (λ (g : List ℕ). object_of (group_members view.places (numbers_of view g) (counted_address r)) ∷ [])
          ((bytes_eq-Decides c.group.items (counted_group view.places r)).0 (find-Some (counts_for view.places c.group.items) view.records r e).1)

  rows-are : (cs : List Counted) → flat_map (row_items view.places) (map (row_of view) cs) ≡ map (group_object view) (firsts cs)
  rows-are [] = refl
  rows-are (c ∷ cs) =
      (λ i. row-is c i ++ rows-are cs i) ∙ sym (map-append (group_object view) (listed (find (counts_for view.places c.group.items) view.records)) (firsts cs))

  array-is : groups_array view ≡ array_of (map (group_object view) (firsts (groups_in view)))
  unfolding groups_array rows_of
  array-is = ap array_of (rows-are (groups_in view))

  -- ---- the records

  known-firsts : (cs : List Counted) → AllByRecursion (Contains view.records) (firsts cs)
  known-firsts [] = tt
  known-firsts (c ∷ cs) = by (find (counts_for view.places c.group.items) view.records) refl (known-firsts cs)
    where
      by : (o : Option Rec) → find (counts_for view.places c.group.items) view.records ≡ o → AllByRecursion (Contains view.records) (firsts cs)
          → AllByRecursion (Contains view.records) (listed o ++ firsts cs)
      by None e more = more
      by (Some r) e more = ((find-Some (counts_for view.places c.group.items) view.records r e).0, more)

  -- a group that a record counts for is that of as many first records as there are such groups
  firsts-count : (r : Rec) → Contains view.records r → (cs : List Counted)
      → count_by (λ q. bytes_eq (counted_group view.places q) (counted_group view.places r)) (firsts cs) ≡ count_by (λ c. bytes_eq c.group.items (counted_group view.places r)) cs
  firsts-count r known [] = refl
  firsts-count r known (c ∷ cs) =
      sum_by-append (λ q. one_if (bytes_eq (counted_group view.places q) (counted_group view.places r))) (listed (find (counts_for view.places c.group.items) view.records)) (firsts cs)
      ∙ (λ i. by (find (counts_for view.places c.group.items) view.records) refl (bytes_eq c.group.items (counted_group view.places r)) refl i + firsts-count r known cs i)
      ∙ sym (count-cons (λ (d : Counted). bytes_eq d.group.items (counted_group view.places r)) c cs)
    where
      by : (o : Option Rec) → find (counts_for view.places c.group.items) view.records ≡ o → (b : Bool) → bytes_eq c.group.items (counted_group view.places r) ≡ b
          → count_by (λ q. bytes_eq (counted_group view.places q) (counted_group view.places r)) (listed o) ≡ one_if (bytes_eq c.group.items (counted_group view.places r))
      by None e false f = sym (ap one_if f)
      by None e true f = absurd (both_ways (counts_for view.places c.group.items r) (find-None (counts_for view.places c.group.items) view.records r e known) f)
      by (Some q) e b f =
          let same : c.group.items ≡ counted_group view.places q = (bytes_eq-Decides c.group.items (counted_group view.places q)).0 (find-Some (counts_for view.places c.group.items) view.records q e).1 in
          count-cons (λ q. bytes_eq (counted_group view.places q) (counted_group view.places r)) q []
          ∙ ap (λ (g : List ℕ). one_if (bytes_eq g (counted_group view.places r)) + 0) (sym same) ∙ omega arith

  once-first : (r : Rec) → Contains view.records r → count_by (λ q. bytes_eq (counted_group view.places q) (counted_group view.places r)) (firsts (groups_in view)) ≡ 1
  unfolding groups_in
  once-first r known =
      let k : List ℕ = counted_group view.places r in
      firsts-count r known (groups_in view)
      ∙ order-sum (λ (c : Counted). one_if (bytes_eq c.group.items k)) (map (counted_of view) groups) [] ∙ omega arith
      ∙ count-map (λ (c : Counted). bytes_eq c.group.items k) (counted_of view) groups
      ∙ (λ i. count_by (λ g. same-back g k i) groups)
      ∙ once-group r known

  -- ---- as many as there are groups

  abbrev IsFound : Counted → Type 0
  IsFound c = IsSome (find (counts_for view.places c.group.items) view.records)

  all-found : AllByRecursion IsFound (groups_in view)
  unfolding groups_in
  all-found =
      order-all IsFound (map (counted_of view) groups) []
      (counted-all IsFound (counted_of view) groups
      (once-all (λ g. IsSome (find (counts_for view.places g) view.records)) (map (counted_group view.places) view.records)
      (map-all (λ g. IsSome (find (counts_for view.places g) view.records)) (Contains view.records) (counted_group view.places) view.records own (each-known view.records))))
      tt

  firsts-length : (cs : List Counted) → AllByRecursion IsFound cs → length (firsts cs) ≡ length cs
  firsts-length [] each = refl
  firsts-length (c ∷ cs) each =
      length-append (listed (find (counts_for view.places c.group.items) view.records)) (firsts cs)
      ∙ omega (arith, by (find (counts_for view.places c.group.items) view.records) each.0, firsts-length cs each.1)
    where
      by : (o : Option Rec) → IsSome o → length (listed o) ≡ 1
      by None is = absurd (both_ways false refl is)
      by (Some r) is = refl

  pub lists-groups : ListsGroups view
  lists-groups = record {
    recs = firsts (groups_in view);
    known = All-from_recursion (Contains view.records) (firsts (groups_in view)) (known-firsts (groups_in view));
    once = once-first;
    array = array-is;
    count = firsts-length (groups_in view) all-found;
  }
