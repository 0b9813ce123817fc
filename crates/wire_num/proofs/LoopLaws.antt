-- Reading values one after another, as a loop over their indexes does.
use Rattle.std.proofs.Common.{◌≡◌, ℕ, suc, ◌-◌, ◌+◌, ◌≤◌, ◌<◌, List, [], ◌∷◌, ◌++◌, Result, Ok, Err, refl, sym, ap, ◌∙◌, append_assoc, arith}
use Rattle.std.proofs.lemmas.List.{append-nil}
use Rattle.wire_num.specs.Readings.{◌>>=◌, times_at}

-- what was read before, and what is still read
abbrev pub with_front : {F A : Type 0} → List A → Result (List A × List ℕ) F → Result (List A × List ℕ) F
with_front front read = read >>= λ x. Ok (front ++ x.0, x.1)

regroup : {F A : Type 0} (front : List A) (a : A) (read : Result (List A × List ℕ) F) → with_front front (read >>= λ x. Ok (a ∷ x.0, x.1)) ≡ with_front (front ++ a ∷ []) read
regroup {F = F} {A = A} front a (Ok x) = let kept : List A → Result (List A × List ℕ) F = λ others. Ok (others, x.1) in ap kept (simp append_assoc)
regroup front a (Err f) = refl

pub starts : {F A : Type 0} (read : Result (List A × List ℕ) F) → with_front [] read ≡ read
starts (Ok x) = refl
starts (Err f) = refl

pub goes_on : {F A : Type 0} (r : ℕ → List ℕ → Result (A × List ℕ) F) (front : List A) (end i : ℕ) (bytes : List ℕ) (a : A) (after : List ℕ) (total : Result (List A × List ℕ) F) → i < end → r i bytes ≡ Ok (a, after)
    → with_front front (times_at i (end - i) r bytes) ≡ total → with_front (front ++ a ∷ []) (times_at (i + 1) (end - (i + 1)) r after) ≡ total
unfolding times_at
goes_on r front end i bytes a after total lt h so_far =
    let k : end - i ≡ suc (end - (i + 1)) = omega arith in
    let one : with_front front (times_at i (end - i) r bytes) ≡ with_front (front ++ a ∷ []) (times_at (i + 1) (end - (i + 1)) r after) = rw (k, h) (regroup front a (times_at (i + 1) (end - (i + 1)) r after)) in
    sym one ∙ so_far

pub stops : {F A : Type 0} (r : ℕ → List ℕ → Result (A × List ℕ) F) (front : List A) (end i : ℕ) (bytes : List ℕ) (f : F) (total : Result (List A × List ℕ) F) → i < end → r i bytes ≡ Err f
    → with_front front (times_at i (end - i) r bytes) ≡ total → total ≡ Err f
unfolding times_at
stops r front end i bytes f total lt h so_far =
    let k : end - i ≡ suc (end - (i + 1)) = omega arith in
    let one : with_front front (times_at i (end - i) r bytes) ≡ Err f = rw (k, h) refl in
    sym so_far ∙ one

pub is_done : {F A : Type 0} (r : ℕ → List ℕ → Result (A × List ℕ) F) (front : List A) (end i : ℕ) (bytes : List ℕ) (total : Result (List A × List ℕ) F) → end ≤ i
    → with_front front (times_at i (end - i) r bytes) ≡ total → total ≡ Ok (front, bytes)
unfolding times_at
is_done {F = F} {A = A} r front end i bytes total le so_far =
    let k : end - i ≡ 0 = omega arith in
    let kept : List A → Result (List A × List ℕ) F = λ others. Ok (others, bytes) in
    let one : with_front front (times_at i (end - i) r bytes) ≡ Ok (front, bytes) = rw k (ap kept (append-nil front)) in
    sym so_far ∙ one
