-- A group that is not listed has no more slots than those that are.
use Rattle.std.proofs.Common.{◌≡◌, ℕ, ◌<◌, ◌≤◌, not, Bool, true, false, List, length, map, take, drop, refl, sym, ap, subst, ◌∙◌, arith}
use Rattle.std.specs.Prelude.{Some, bytes_eq}
use Rattle.std.specs.List.{AllByRecursion, count_by, list_any}
use Rattle.std.proofs.lemmas.Bool.{both_ways}
use Rattle.std.proofs.lemmas.List.{length-map}
use Rattle.std.proofs.lemmas.List.Elements.{All-from_recursion}
use Rattle.std.proofs.lemmas.Slice.Eq.{bytes_eq-Decides}
use Rattle.peer_rec.specs.declared.rec.Rec.{Rec}
use Rattle.placing.specs.Places.{group}
use Rattle.table_groups.specs.Slots.{all_slots, is_of}
use Rattle.table_groups.specs.Sources.{slot_groups}
use Rattle.table_groups.specs.declared.ranked_groups.Counted.{Counted}
use Rattle.table_groups.proofs.Buckets.{groups-count}
use Rattle.table_groups.proofs.Once.{same-back}
use Rattle.table_groups.proofs.Visits.{one_if}
use Rattle.picture_laws.specs.Counts.{IsBehind}
use Rattle.picture_laws.specs.Slots.{is_unlisted, listed_groups}
use Rattle.picture_laws.proofs.Listed.{all-both, all-map, all-take, count-cut, first-have, groups-are, groups-times, long-take, none-count, ordered, ordered-once, ordered-own, ordered-up, some-any}
use Rattle.table_groups.specs.View.{View}

not-true : (b : Bool) → not b ≡ true → b ≡ false
not-true true e = absurd (both_ways false refl e)
not-true false e = refl

pub is-behind : (view : View) (r : Rec) → 0 < all_slots (is_of view.places (group view.places r.source)) view → is_unlisted view (Some r) ≡ true → IsBehind view (group view.places r.source)
is-behind view r some unlisted =
    let g : List ℕ = group view.places r.source in
    let cs : List Counted = ordered view in
    let gs : List (List ℕ) = listed_groups view in
    let p : Counted → Bool = λ c. bytes_eq c.group.items g in
    let there : list_any (bytes_eq g) (slot_groups view) ≡ true = some-any (bytes_eq g) (slot_groups view) (omega (arith, some, groups-count view g)) in
    let whole : count_by p cs ≡ 1 = ordered-once view g ∙ ap one_if there in
    let none : count_by (bytes_eq g) gs ≡ 0 = none-count (bytes_eq g) gs (not-true (list_any (λ h. is_of view.places h (Some r)) gs) unlisted) in
    let first : count_by p (take 6 cs) ≡ 0 = sym (groups-times view g) ∙ (λ i. count_by (λ h. same-back h g i) gs) ∙ none in
    let behind : 0 < count_by p (drop 6 cs) = omega (arith, whole, first, count-cut p 6 cs) in
    let own : AllByRecursion (λ c. p c ≡ true → c.slots ≡ all_slots (is_of view.places g) view) cs =
    all-both (λ c. c.slots ≡ all_slots (is_of view.places c.group.items) view) (λ c. c.slots ≡ all_slots (is_of view.places c.group.items) view) (λ c. p c ≡ true → c.slots ≡ all_slots (is_of view.places g) view) cs
    (ordered-own view) (ordered-own view) (λ c is also same. is ∙ ap (λ (h : List ℕ). all_slots (is_of view.places h) view) ((bytes_eq-Decides c.group.items g).0 same)) in
    let least : AllByRecursion (λ c. all_slots (is_of view.places g) view ≤ c.slots) (take 6 cs) = first-have p (all_slots (is_of view.places g) view) 6 cs (ordered-up view) behind own in
    let most : AllByRecursion (λ l. all_slots (is_of view.places g) view ≤ all_slots (is_of view.places l) view) (map (λ c. c.group.items) (take 6 cs)) =
    all-map (λ l. all_slots (is_of view.places g) view ≤ all_slots (is_of view.places l) view) (λ (c : Counted). c.group.items) (take 6 cs)
    (all-both (λ c. all_slots (is_of view.places g) view ≤ c.slots) (λ c. c.slots ≡ all_slots (is_of view.places c.group.items) view)
    (λ c. all_slots (is_of view.places g) view ≤ all_slots (is_of view.places c.group.items) view) (take 6 cs) least
    (all-take (λ c. c.slots ≡ all_slots (is_of view.places c.group.items) view) 6 cs (ordered-own view)) (λ c low is. omega (arith, low, is))) in
    record {
      six = ap length (groups-are view) ∙ length-map (take 6 cs) (λ (c : Counted). c.group.items) ∙ long-take p 6 cs behind;
      most = All-from_recursion (λ l. all_slots (is_of view.places g) view ≤ all_slots (is_of view.places l) view) gs
          (subst (AllByRecursion (λ l. all_slots (is_of view.places g) view ≤ all_slots (is_of view.places l) view)) (sym (groups-are view)) most);
    }
