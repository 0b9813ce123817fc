-- The first entries of a message, and one more.
use Rattle.std.proofs.Common.{◌≡◌, ℕ, zero, suc, ◌+◌, ◌<◌, ◌≤◌, List, [], ◌∷◌, length, get_or, take, Option, None, Bool, cond, refl, sym, ap, ◌∙◌, arith}
use Rattle.net_addr.specs.Address.{Address}
use Rattle.net_addr.specs.declared.peer.Entry.{Entry}
use Rattle.table_machine.specs.State.{State, After}
use Rattle.taking.specs.Messages.{take_entry, take_entries}

-- the tally with one more entry
abbrev pub goes_on : After ℕ → ℕ → Option Entry → Address → ℕ → After ℕ
goes_on tally now entry source word = record {
  answer = tally.answer + cond (take_entry tally.state now entry source word).answer 1 0;
  state = (take_entry tally.state now entry source word).state;
}

-- the same two facts, apart
pub record IsMore (all first : After ℕ) (now : ℕ) (entry : Option Entry) (source : Address) (word : ℕ) : Type 0 where
  pub count : all.answer ≡ first.answer + cond (take_entry first.state now entry source word).answer 1 0
  pub state : all.state ≡ (take_entry first.state now entry source word).state

taken : (entry : Option Entry) (entries : List (Option Entry)) (i : ℕ) → take (suc i + 1) (entry ∷ entries) ≡ entry ∷ take (i + 1) entries
taken entry entries i = ap (λ n. take n (entry ∷ entries)) same
  where
    same : suc i + 1 ≡ suc (i + 1)
    same = omega arith

pub one_more : (st : State) (now : ℕ) (entries : List (Option Entry)) (source : Address) (words : List ℕ) (i : ℕ) → i < length entries → length entries ≤ length words →
    IsMore (take_entries st now (take (i + 1) entries) source words) (take_entries st now (take i entries) source words) now (get_or entries i None) source (get_or words i 0)
one_more st now [] source words i h k = absurd (omega arith)
one_more st now (entry ∷ entries) source [] i h k = absurd (omega arith)
one_more st now (entry ∷ entries) source (word ∷ words) zero h k = record { count = omega arith; state = refl }
one_more st now (entry ∷ entries) source (word ∷ words) (suc i) h k =
    let later = one_more (take_entry st now entry source word).state now entries source words i (omega arith) (omega arith) in
    let whole = ap (λ es. take_entries st now es source (word ∷ words)) (taken entry entries i) in
    record {
      count = ap (λ (t : After ℕ). t.answer) whole ∙ sum _ _ _ _ later.count;
      state = ap (λ (t : After ℕ). t.state) whole ∙ later.state;
    }
  where
    sum : (first all some more : ℕ) → all ≡ some + more → first + all ≡ first + some + more
    sum first all some more e = omega (arith, e)

-- the state after one more entry
pub next_state : (start self next : State) (now : ℕ) (entries : List (Option Entry)) (source : Address) (words : List ℕ) (i : ℕ) (entry : Option Entry) (word : ℕ) →
    self ≡ (take_entries start now (take i entries) source words).state →
    next ≡ (take_entry self now entry source word).state →
    entry ≡ get_or entries i None → word ≡ get_or words i 0 → i < length entries → length entries ≤ length words →
    next ≡ (take_entries start now (take (i + 1) entries) source words).state
next_state start self next now entries source words i entry word is step at_entry at_word h k =
    step
    ∙ (λ j. (take_entry (is j) now (at_entry j) source (at_word j)).state)
    ∙ sym (one_more start now entries source words i h k).state

-- the count after one more entry
pub next_count : (start self : State) (now : ℕ) (entries : List (Option Entry)) (source : Address) (words : List ℕ) (i count next : ℕ) (answer : Bool) (entry : Option Entry) (word : ℕ) →
    self ≡ (take_entries start now (take i entries) source words).state →
    count ≡ (take_entries start now (take i entries) source words).answer →
    answer ≡ (take_entry self now entry source word).answer → next ≡ count + cond answer 1 0 →
    entry ≡ get_or entries i None → word ≡ get_or words i 0 → i < length entries → length entries ≤ length words →
    next ≡ (take_entries start now (take (i + 1) entries) source words).answer
next_count start self now entries source words i count next answer entry word is counted answered sum at_entry at_word h k =
    let same : answer ≡ (take_entry (take_entries start now (take i entries) source words).state now (get_or entries i None) source (get_or words i 0)).answer =
    answered ∙ (λ j. (take_entry (is j) now (at_entry j) source (at_word j)).answer) in
    sum ∙ (λ j. counted j + cond (same j) 1 0) ∙ sym (one_more start now entries source words i h k).count
