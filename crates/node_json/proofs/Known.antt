-- The AS numbers that are known, each once.
use Rattle.std.proofs.Common.{◌≡◌, ℕ, ◌+◌, ◌<◌, ◌==◌, ◌||◌, Bool, true, false, cond, List, [], ◌∷◌, ◌++◌, length, get_or, take, map, refl, sym, ap, ◌∙◌}
use Rattle.std.specs.List.{list_any}
use Rattle.std.proofs.lemmas.List.{take_more}
use Rattle.std.proofs.lemmas.List.Sums.{fold-append}
use Rattle.indexmap.specs.IndexMap.{insert_entry}
use Rattle.node_json.specs.Groups.{known_numbers, with_number}

written : {V : Type 0} (es : List (ℕ × V)) (n : ℕ) (v : V)
    → map (λ e. e.0) (insert_entry (λ a b. a == b) es n v) ≡ cond (list_any (λ m. n == m) (map (λ e. e.0) es)) (map (λ e. e.0) es) (map (λ e. e.0) es ++ n ∷ [])
written [] n v = refl
written {V} (e ∷ es) n v = by (n == e.0) (list_any (λ m. n == m) (map (λ e. e.0) es)) (written es n v)
  where
    keys : List ℕ
    keys = map (λ (e : ℕ × V). e.0) es

    by : (a b : Bool) → map (λ e. e.0) (insert_entry (λ a b. a == b) es n v) ≡ cond b (map (λ e. e.0) es) (map (λ e. e.0) es ++ n ∷ [])
        → map (λ e. e.0) (cond a ((e.0, v) ∷ es) (e ∷ insert_entry (λ a b. a == b) es n v))
        ≡ cond (a || b) (e.0 ∷ map (λ e. e.0) es) (e.0 ∷ (map (λ e. e.0) es ++ n ∷ []))
    by true b more = refl
    by false true more = ap (λ (ks : List ℕ). e.0 ∷ ks) more
    by false false more = ap (λ (ks : List ℕ). e.0 ∷ ks) more

-- a number that is written, which is not 0
pub number-written : {V : Type 0} (es : List (ℕ × V)) (n : ℕ) (v : V) → (n == 0) ≡ false
    → map (λ e. e.0) (insert_entry (λ a b. a == b) es n v) ≡ with_number (map (λ e. e.0) es) n
number-written {V} es n v other =
    let keys : List ℕ = map (λ (e : ℕ × V). e.0) es in
    written es n v ∙ sym (ap (λ (b : Bool). cond (b || list_any (λ m. n == m) keys) keys (keys ++ n ∷ [])) other)

-- one number more
pub number-more : (numbers : List ℕ) (i : ℕ) (now next : List ℕ) → i < length numbers → now ≡ known_numbers (take i numbers) → next ≡ with_number now (get_or numbers i 0)
    → next ≡ known_numbers (take (i + 1) numbers)
number-more numbers i now next within so_far more =
    more ∙ ap (λ (seen : List ℕ). with_number seen (get_or numbers i 0)) so_far
    ∙ sym (fold-append with_number [] (take i numbers) (get_or numbers i 0 ∷ []))
    ∙ ap known_numbers (sym (take_more numbers i 0 within))
