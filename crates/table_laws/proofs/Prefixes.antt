-- A pick that ends keeps its answer if more random words follow.
use Rattle.std.proofs.Common.{◌≡◌, ◌≢◌, ℕ, ◌%◌, List, [], ◌∷◌, ◌++◌, Bool, true, false, ◌&&◌, ◌||◌, ◌==◌, Option, None, Some, if◌then◌else◌, refl}
use Rattle.peer_rec.specs.declared.answers.Picked.TheVariants.{One, Nothing, Exhausted}
use Rattle.peer_rec.specs.declared.rec.Rec.{Rec}
use Rattle.table_machine.specs.State.{State}
use Rattle.peer_rec.specs.Rec.{next_factor}
use Rattle.table_machine.specs.Picks.{candidate, candidates, candidates_of, candidates_of_either, first_accepted, first_factor, is_accepted, select, wanted_new, wanted_tried, with_candidate}

-- what a longer list of candidates gives, if the shorter one gives a record
abbrev IsSame : ℕ → ℕ → List (Rec × ℕ) → List (Rec × ℕ) → Type 0
IsSame now factor few more = first_accepted now factor few ≢ Exhausted → first_accepted now factor more ≡ first_accepted now factor few

one_more : (now factor : ℕ) (m : Rec × ℕ) (few more : List (Rec × ℕ)) → IsSame now (next_factor factor) few more → IsSame now factor (m ∷ few) (m ∷ more)
one_more now factor m few more same = by (is_accepted m.0 now factor m.1)
  where
    by : (b : Bool) → (if b then One m.0.peer m.0.last_try else first_accepted now (next_factor factor) few) ≢ Exhausted →
        (if b then One m.0.peer m.0.last_try else first_accepted now (next_factor factor) more)
        ≡ (if b then One m.0.peer m.0.last_try else first_accepted now (next_factor factor) few)
    by true h = refl
    by false h = same h

-- a round with its word, and one without a candidate
round : (now : ℕ) (found : Option Rec) (word : ℕ) (few more few_after more_after : List (Rec × ℕ)) → ((factor : ℕ) → IsSame now factor few more)
    → ((factor : ℕ) → IsSame now factor few_after more_after) → (factor : ℕ)
    → IsSame now factor (with_candidate found word few few_after) (with_candidate found word more more_after)
round now None word few more few_after more_after same after factor = same factor
round now (Some r) word few more few_after more_after same after factor = one_more now factor (r, word) few_after more_after (after (next_factor factor))

one_table : (st : State) (in_new : Bool) (nets xs ys : List ℕ) (now factor : ℕ) → IsSame now factor (candidates st in_new nets xs) (candidates st in_new nets (xs ++ ys))
one_table st in_new nets [] ys now factor h = absurd (h refl)
one_table st in_new nets (bucket ∷ []) ys now factor h = absurd (h refl)
one_table st in_new nets (bucket ∷ start ∷ []) ys now factor h = absurd (h refl)
one_table st in_new nets (bucket ∷ start ∷ word ∷ xs) ys now factor h =
    round now (candidate st in_new nets bucket start) word (candidates st in_new nets (word ∷ xs)) (candidates st in_new nets (word ∷ xs ++ ys))
    (candidates st in_new nets xs) (candidates st in_new nets (xs ++ ys))
    (λ f. one_table st in_new nets (word ∷ xs) ys now f) (λ f. one_table st in_new nets xs ys now f) factor h

either_table : (st : State) (nets xs ys : List ℕ) (now : ℕ) → IsSame now first_factor (candidates_of_either st nets xs) (candidates_of_either st nets (xs ++ ys))
either_table st nets [] ys now h = absurd (h refl)
either_table st nets (word ∷ xs) ys now h = one_table st (word % 2 == 0) nets xs ys now first_factor h

searched : (st : State) (nets xs ys : List ℕ) (now : ℕ) (only_new only_tried : Bool) →
    IsSame now first_factor
    (if only_new then candidates st true nets xs else if only_tried then candidates st false nets xs else candidates_of_either st nets xs)
    (if only_new then candidates st true nets (xs ++ ys) else if only_tried then candidates st false nets (xs ++ ys) else candidates_of_either st nets (xs ++ ys))
searched st nets xs ys now true only_tried = one_table st true nets xs ys now first_factor
searched st nets xs ys now false true = one_table st false nets xs ys now first_factor
searched st nets xs ys now false false = either_table st nets xs ys now

pub prefix_decides : (st : State) (new_only : Bool) (nets xs ys : List ℕ) (now : ℕ) → select st new_only nets xs now ≢ Exhausted →
    select st new_only nets (xs ++ ys) now ≡ select st new_only nets xs now
prefix_decides st new_only nets xs ys now = by (wanted_new st nets == 0 && (new_only || wanted_tried st nets == 0))
  where
    by : (none : Bool) → (if none then Nothing else first_accepted now first_factor (candidates_of st new_only nets xs)) ≢ Exhausted →
        (if none then Nothing else first_accepted now first_factor (candidates_of st new_only nets (xs ++ ys)))
        ≡ (if none then Nothing else first_accepted now first_factor (candidates_of st new_only nets xs))
    by true h = refl
    by false h = searched st nets xs ys now (new_only || wanted_tried st nets == 0) (wanted_new st nets == 0) h
