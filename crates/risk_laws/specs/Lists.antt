-- How many lists of random words select a peer of a set.
use Rattle.std.specs.Prelude.{ℕ, zero, suc, ◌^◌, List, [], ◌∷◌, Bool, false, sum_by}
use Rattle.std.specs.List.{range_with_len}
use Rattle.net_addr.specs.declared.peer.Peer.{Peer}
use Rattle.peer_rec.specs.declared.answers.Picked.{Picked}
use Rattle.peer_rec.specs.declared.answers.Picked.TheVariants.{One}
use Rattle.table_laws.specs.Searches.{one_if}
use Rattle.table_machine.specs.Picks.{candidates, first_accepted, select}
use Rattle.table_machine.specs.State.{State}

-- the sum of f over all lists of n words below `size`
abbrev pub sum_words : ℕ → ℕ → (List ℕ → ℕ) → ℕ
sum_words size zero f = f []
sum_words size (suc n) f =
    sum_by (λ word. sum_words size n (λ words. f (word ∷ words))) (range_with_len 0 size)

-- how many lists of n random words of 64 bits there are
abbrev pub word_lists : ℕ → ℕ
word_lists n = sum_words (2 ^ 64) n (λ words. 1)

-- a pick is a peer of the set
abbrev pub is_theirs : (Peer → Bool) → Picked → Bool
is_theirs theirs (One peer last_try) = theirs peer
is_theirs theirs other = false

-- how many lists of n words end a search of one table, from a factor on, at a peer of the set
abbrev pub searching_lists : State → Bool → List ℕ → ℕ → (Peer → Bool) → ℕ → ℕ → ℕ
searching_lists st in_new nets now theirs factor n =
    sum_words (2 ^ 64) n (λ words.
    one_if (is_theirs theirs (first_accepted now factor (candidates st in_new nets words))))

-- how many select a peer of the set
abbrev pub selecting_lists : State → Bool → List ℕ → ℕ → (Peer → Bool) → ℕ → ℕ
selecting_lists st new_only nets now theirs n =
    sum_words (2 ^ 64) n (λ words. one_if (is_theirs theirs (select st new_only nets words now)))
