-- What is left to do when some of the numbers that wait have had their turns.
use Rattle.std.proofs.Common.{◌≡◌, ℕ, ◌+◌, ◌<◌, suc, List, ◌∷◌, length, get_or, drop, not, ◌==◌, false, Contains, All, Option, Some, None, refl, sym, ap, subst, ◌∙◌, inl, inr, arith, add-one, drop-cons}
use Rattle.std.specs.List.Sorted.{IsStrictlyIncreasing}
use Rattle.std.proofs.lemmas.List.Elements.{All-contains_itself, All-head, All-tail}
use Rattle.std.proofs.lemmas.Bool.{true≢false}
use Rattle.std.proofs.lemmas.Bool.Decides.{nat_tests}
use Rattle.std.proofs.lemmas.List.Kept.{AllPairs-from_increasing}
use Rattle.peer_rec.specs.declared.rec.Rec.{Rec}
use Rattle.peer_rec.specs.declared.answers.Resolved.{Resolved}
use Rattle.table_machine.specs.State.{State, by_number, After}
use Rattle.net_addr.specs.declared.peer.Peer.{Peer}
use Rattle.table_machine.specs.Sound.{IsSound}
use Rattle.table_machine.specs.Tried.{good}
use Rattle.table_machine.specs.Clashes.{after_fate, fate_of, move_in, one_more, resolve, resolve_all, with_fate}
use Rattle.peer_rec.specs.declared.answers.Fate.{Fate}
use Rattle.peer_rec.specs.declared.answers.Fate.TheVariants.{Erased, Kept, Moved}
use Rattle.table_machine.proofs.Lists.{Contains-filter, increasing_from_pairs}
use Rattle.table_machine.proofs.Unchanged.{good-rest}

-- the counts of the turns before, with those of the rest
abbrev pub after_turns : Resolved → After Resolved → After Resolved
after_turns r rest = record {
  answer = record { erased = r.erased + rest.answer.erased; moved = r.moved + rest.answer.moved; kept = r.kept + rest.answer.kept };
  state = rest.state;
}

abbrev pub no_turns : Resolved
no_turns = record { erased = 0; moved = 0; kept = 0 }

same_resolution : (a b : After Resolved) → a.answer.erased ≡ b.answer.erased → a.answer.moved ≡ b.answer.moved → a.answer.kept ≡ b.answer.kept → a.state ≡ b.state → a ≡ b
same_resolution a b e m k s = λ i. record { answer = record { erased = e i; moved = m i; kept = k i }; state = s i }

one_turn : (fate : Fate) (r : Resolved) (rest : After Resolved) → after_turns r (with_fate fate rest) ≡ after_turns (one_more fate r) rest
one_turn Erased r rest = same_resolution _ _ (omega arith) refl refl refl
one_turn Kept r rest = same_resolution _ _ refl refl (omega arith) refl
one_turn Moved r rest = same_resolution _ _ refl (omega arith) refl refl

no_turn : (rest : After Resolved) → after_turns no_turns rest ≡ rest
no_turn rest = same_resolution _ _ (omega arith) (omega arith) (omega arith) refl

-- a success without testing changes none of the numbers that wait
pub good-waiting : (st : State) (now : ℕ) (peer : Peer) → (good st now peer false).state.collisions ≡ st.collisions
good-waiting st now peer = elim (good-rest st now peer false).collisions [ inl same ↦ same | inr h ↦ absurd (true≢false (sym h.2)) ]

pub move_in-waiting : (st : State) (o : Option Rec) (now : ℕ) → (move_in st o now).collisions ≡ st.collisions
move_in-waiting st None now = refl
move_in-waiting st (Some r) now = good-waiting st now r.peer

-- one turn takes no other number out
others_wait : (fate : Fate) (st : State) (o : Option Rec) (number now other : ℕ) → number < other → Contains st.collisions other
    → Contains (after_fate fate st o number now).collisions other
others_wait Erased st o number now other above waits = Contains-filter (λ n. not (n == number)) st.collisions other waits (grind (arith, nat_tests))
others_wait Kept st o number now other above waits = waits
others_wait Moved st o number now other above waits =
    Contains-filter (λ n. not (n == number)) (move_in st o now).collisions other (subst (λ ns. Contains ns other) (sym (move_in-waiting st o now)) waits)
    (grind (arith, nat_tests))

-- after turns that counted so much, these numbers are left of those that waited at the start
pub record IsLeft (old st : State) (now : ℕ) (r : Resolved) (rest : List ℕ) : Type 0 where
  pub whole : after_turns r (resolve_all st now rest) ≡ resolve old now
  pub waits : All (Contains st.collisions) rest
  pub rising : IsStrictlyIncreasing rest

pub left-start : (st : State) (now : ℕ) → IsSound st → IsLeft st st now no_turns st.collisions
left-start st now sound = record {
  whole = no_turn (resolve st now);
  waits = All-contains_itself st.collisions;
  rising = sound.collisions;
}

rising-tail : (n : ℕ) (ns : List ℕ) → IsStrictlyIncreasing (n ∷ ns) → IsStrictlyIncreasing ns
rising-tail n ns rising = increasing_from_pairs ns (λ i j d below within. AllPairs-from_increasing (n ∷ ns) rising (suc i) (suc j) d (omega arith) (omega arith))

all_above : (n : ℕ) (ns : List ℕ) → IsStrictlyIncreasing (n ∷ ns) → All (λ m. n < m) ns
all_above n ns rising k d within = AllPairs-from_increasing (n ∷ ns) rising 0 (suc k) d (omega arith) (omega arith)

pub left-more : (old st : State) (now number : ℕ) (r : Resolved) (rest : List ℕ) (fate : Fate) → IsLeft old st now r (number ∷ rest)
    → fate ≡ fate_of st (by_number st number) now
    → IsLeft old (after_fate fate st (by_number st number) number now) now (one_more fate r) rest
left-more old st now number r rest fate left is = record {
  whole =
      sym (one_turn fate r (resolve_all (after_fate fate st newcomer number now) now rest))
      ∙ ap (λ f. after_turns r (with_fate f (resolve_all (after_fate f st newcomer number now) now rest))) is
      ∙ left.whole;
  waits = λ k d within. others_wait fate st newcomer number now (get_or rest k d) (all_above number rest left.rising k d within) (All-tail (Contains st.collisions) number rest left.waits k d within);
  rising = rising-tail number rest left.rising;
}
  where
    newcomer : Option Rec
    newcomer = by_number st number

pub one_more-counts : (fate : Fate) (r counts : Resolved) (i : ℕ) → counts ≡ one_more fate r → r.erased + r.moved + r.kept ≡ i
    → counts.erased + counts.moved + counts.kept ≡ i + 1
one_more-counts fate r counts i more count = subst (λ x. x.erased + x.moved + x.kept ≡ i + 1) (sym more) (by fate)
  where
    by : (fate : Fate) → (one_more fate r).erased + (one_more fate r).moved + (one_more fate r).kept ≡ i + 1
    by Erased = omega arith
    by Kept = omega arith
    by Moved = omega arith

-- the number whose turn it is, at a position of the numbers that waited at the start
here : (ns xs : List ℕ) (i : ℕ) → xs ≡ ns → i < length xs → drop i ns ≡ get_or xs i 0 ∷ drop (i + 1) ns
here ns xs i same within = subst (λ ys. drop i ys ≡ get_or xs i 0 ∷ drop (i + 1) ys) same (rw (add-one, drop-cons xs i 0))

pub left-waits : (old st : State) (now i : ℕ) (r : Resolved) (ns xs : List ℕ) → xs ≡ ns → i < length xs → IsLeft old st now r (drop i ns) → Contains st.collisions (get_or xs i 0)
left-waits old st now i r ns xs same within left =
    All-head (Contains st.collisions) (get_or xs i 0) (drop (i + 1) ns) (subst (λ rest. All (Contains st.collisions) rest) (here ns xs i same within) left.waits)

pub left-next : (old st new : State) (now i : ℕ) (r counts : Resolved) (fate : Fate) (ns xs : List ℕ) → xs ≡ ns → i < length xs
    → IsLeft old st now r (drop i ns)
    → (let number = get_or xs i 0 in fate ≡ fate_of st (by_number st number) now)
    → (let number = get_or xs i 0 in new ≡ after_fate fate st (by_number st number) number now)
    → counts ≡ one_more fate r
    → IsLeft old new now counts (drop (i + 1) ns)
left-next old st new now i r counts fate ns xs same within left is after more =
    let number = get_or xs i 0 in
    let next = left-more old st now number r (drop (i + 1) ns) fate (subst (IsLeft old st now r) (here ns xs i same within) left) is in
    subst (λ x. IsLeft old new now x (drop (i + 1) ns)) (sym more) (subst (λ x. IsLeft old x now (one_more fate r) (drop (i + 1) ns)) (sym after) next)
