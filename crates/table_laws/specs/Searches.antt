-- How many lists of random words end a search of one table at a record, over several rounds.
use Rattle.std.specs.Prelude.{ℕ, zero, suc, ◌^◌, List, [], ◌∷◌, Bool, false, not, cond, sum_by, filter, is_some, Option, Some, None}
use Rattle.std.specs.List.{list_any, range_with_len}
use Rattle.net_addr.specs.Same.{same_peer}
use Rattle.net_addr.specs.declared.peer.Peer.{Peer}
use Rattle.peer_rec.specs.declared.answers.Picked.{Picked}
use Rattle.peer_rec.specs.declared.answers.Picked.TheVariants.{One}
use Rattle.peer_rec.specs.declared.rec.Rec.{Rec}
use Rattle.slot_grid.specs.declared.sizes.TheConstants.{SLOTS}
use Rattle.table_machine.specs.Picks.{bucket_count, candidates, first_accepted, first_candidate, is_accepted, is_wanted, occupant_at}
use Rattle.table_machine.specs.State.{State}
use Rattle.table_laws.specs.Rounds.{holds}

-- the residues of a round's three words
pub record Round : Type 0 where
  pub bucket : ℕ
  pub start : ℕ
  pub word : ℕ

-- The round with these residues.
abbrev pub round : ℕ → ℕ → ℕ → Round
round bucket start word = record { bucket = bucket; start = start; word = word }

-- the candidate of a round
abbrev pub candidate_in : State → Bool → List ℕ → Round → Option Rec
candidate_in st in_new nets r = first_candidate st in_new nets r.bucket r.start

-- the words that a round uses up: without a candidate only two
abbrev pub used : Option Rec → Round → List ℕ → List ℕ
used None r words = r.bucket ∷ r.start ∷ words
used (Some q) r words = r.bucket ∷ r.start ∷ r.word ∷ words

-- the words that some rounds use up
abbrev pub words_of : State → Bool → List ℕ → List Round → List ℕ
words_of st in_new nets [] = []
words_of st in_new nets (r ∷ rounds) =
    used (candidate_in st in_new nets r) r (words_of st in_new nets rounds)

-- a search ended with the peer
abbrev pub is_pick_of : Peer → Picked → Bool
is_pick_of peer (One other last_try) = same_peer peer other
is_pick_of peer other = false

-- the search by the words of these rounds, from a factor on, ends at the peer
abbrev pub ends_at : State → Bool → List ℕ → ℕ → ℕ → Peer → List Round → Bool
ends_at st in_new nets now factor peer rounds =
    is_pick_of peer
    (first_accepted now factor (candidates st in_new nets (words_of st in_new nets rounds)))

-- 1 if true, and 0 if false.
abbrev pub one_if : Bool → ℕ
one_if b = cond b 1 0

-- the sum over all rounds
abbrev pub sum_rounds : Bool → (Round → ℕ) → ℕ
sum_rounds in_new f =
    sum_by (λ bucket. sum_by (λ start. sum_by (λ word. f (round bucket start word))
    (range_with_len 0 (2 ^ 30))) (range_with_len 0 SLOTS)) (range_with_len 0 (bucket_count in_new))

-- the sum of f over all lists of n rounds
abbrev pub sum_lists : Bool → ℕ → (List Round → ℕ) → ℕ
sum_lists in_new zero f = f []
sum_lists in_new (suc n) f =
    sum_rounds in_new (λ r. sum_lists in_new n (λ rounds. f (r ∷ rounds)))

-- how many lists of n rounds there are
abbrev pub all_lists : Bool → ℕ → ℕ
all_lists in_new n = sum_lists in_new n (λ rounds. 1)

-- how many of these end the search at the peer
abbrev pub ending_lists : State → Bool → List ℕ → ℕ → ℕ → Peer → ℕ → ℕ
ending_lists st in_new nets now factor peer n =
    sum_lists in_new n (λ rounds. one_if (ends_at st in_new nets now factor peer rounds))

-- how many end it at a record that passes a test, added up over the records
abbrev pub ending_at : State → Bool → List ℕ → ℕ → ℕ → (Rec → Bool) → ℕ → ℕ
ending_at st in_new nets now factor test n =
    sum_by (λ r. ending_lists st in_new nets now factor r.peer n) (filter test st.records)

-- how many rounds have no candidate
abbrev pub idle_rounds : State → Bool → List ℕ → ℕ
idle_rounds st in_new nets =
    sum_rounds in_new (λ r. one_if (not (is_some (candidate_in st in_new nets r))))

-- a bucket has a candidate, from each of its slots on
abbrev pub has_candidate : State → Bool → List ℕ → ℕ → Bool
has_candidate st in_new nets bucket =
    list_any (λ slot. holds (is_wanted nets) (occupant_at st in_new bucket slot))
    (range_with_len 0 SLOTS)

-- how many refuse their candidate
abbrev pub refusing_rounds : State → Bool → List ℕ → ℕ → ℕ → ℕ
refusing_rounds st in_new nets now factor =
    sum_rounds in_new (λ r.
    one_if (holds (λ q. not (is_accepted q now factor r.word)) (candidate_in st in_new nets r)))
