-- The longest runs of a row, as they are found from the left.
use Rattle.std.proofs.Common.{◌≡◌, ℕ, ◌+◌, ◌<◌, Bool, true, false, cond, ◌==◌, List, [], ◌∷◌, ◌++◌, length, get_or, drop, refl, sym, ap, ◌∙◌, arith, append_assoc, add-one}
use Rattle.std.specs.List.{flat_map}
use Rattle.std.proofs.lemmas.Bool.{eqb-true, eq-eqb}
use Rattle.dot_runs.specs.Runs.{Run, run, in_front, runs_from, leading, run_text, row_text}

drop-front : (k n : ℕ) (ks : List ℕ) → drop (n + 1) (k ∷ ks) ≡ drop n ks
drop-front k n ks = rw add-one refl

-- the first run and those after it
runs-leading : (x m : ℕ) (ms : List ℕ) → runs_from x (m ∷ ms)
    ≡ run m x (leading m ms + 1) ∷ runs_from (x + (leading m ms + 1)) (drop (leading m ms) ms)
runs-leading x m [] = refl
runs-leading x m (k ∷ ks) = by (k == m) refl (runs-leading (x + 1) k ks)
  where
    by : (b : Bool) → (k == m) ≡ b
        → runs_from (x + 1) (k ∷ ks) ≡ run k (x + 1) (leading k ks + 1) ∷ runs_from (x + 1 + (leading k ks + 1)) (drop (leading k ks) ks)
        → in_front m x (runs_from (x + 1) (k ∷ ks))
        ≡ run m x (cond b (leading m ks + 1) 0 + 1) ∷ runs_from (x + (cond b (leading m ks + 1) 0 + 1)) (drop (cond b (leading m ks + 1) 0) (k ∷ ks))
    by true e rest =
        let same : k ≡ m = eqb-true k m e in
        ap (in_front m x) rest
        ∙ ap (λ (t : Bool). cond t (run m x (leading k ks + 1 + 1) ∷ runs_from (x + 1 + (leading k ks + 1)) (drop (leading k ks) ks)) (run m x 1 ∷ run k (x + 1) (leading k ks + 1) ∷ runs_from (x + 1 + (leading k ks + 1)) (drop (leading k ks) ks))) e
        ∙ ap (λ (j : ℕ). run m x (leading j ks + 1 + 1) ∷ runs_from (x + 1 + (leading j ks + 1)) (drop (leading j ks) ks)) same
        ∙ ap (λ (p : ℕ). run m x (leading m ks + 1 + 1) ∷ runs_from p (drop (leading m ks) ks)) (omega arith)
        ∙ ap (λ (d : List ℕ). run m x (leading m ks + 1 + 1) ∷ runs_from (x + (leading m ks + 1 + 1)) d) (sym (drop-front k (leading m ks) ks))
    by false e rest =
        ap (in_front m x) rest
        ∙ ap (λ (t : Bool). cond t (run m x (leading k ks + 1 + 1) ∷ runs_from (x + 1 + (leading k ks + 1)) (drop (leading k ks) ks)) (run m x 1 ∷ run k (x + 1) (leading k ks + 1) ∷ runs_from (x + 1 + (leading k ks + 1)) (drop (leading k ks) ks))) e
        ∙ ap (λ (rs : List Run). run m x 1 ∷ rs) (sym rest)

leading-self : (m : ℕ) (ms : List ℕ) → leading m (m ∷ ms) ≡ leading m ms + 1
leading-self m ms = ap (λ (b : Bool). cond b (leading m ms + 1) 0) (eq-eqb m m refl)

-- the first mark stands in a run
pub run_some : (row : List ℕ) → 0 < length row → 0 < leading (get_or row 0 0) row
run_some [] some = absurd (omega arith)
run_some (m ∷ ms) some = omega (arith, leading-self m ms)

one_run : (mark x y m : ℕ) (ms : List ℕ) → row_text mark x y (m ∷ ms)
    ≡ run_text mark y (run m x (leading m (m ∷ ms))) ++ row_text mark (x + leading m (m ∷ ms)) y (drop (leading m (m ∷ ms)) (m ∷ ms))
one_run mark x y m ms =
    ap (flat_map (run_text mark y)) (runs-leading x m ms)
    ∙ sym (
    ap (λ (n : ℕ). run_text mark y (run m x n) ++ row_text mark (x + n) y (drop n (m ∷ ms))) (leading-self m ms)
    ∙ ap (λ (d : List ℕ). run_text mark y (run m x (leading m ms + 1)) ++ row_text mark (x + (leading m ms + 1)) y d) (drop-front m (leading m ms) ms))

-- the first run is drawn, and those after it are left
pub first_drawn : (mark x y wide : ℕ) (row old new : List ℕ) → 0 < length row → wide ≡ leading (get_or row 0 0) row
    → new ≡ old ++ run_text mark y (run (get_or row 0 0) x wide)
    → new ++ row_text mark (x + wide) y (drop wide row) ≡ old ++ row_text mark x y row
first_drawn mark x y wide [] old new some is drawn = absurd (omega arith)
first_drawn mark x y wide (m ∷ ms) old new some is drawn =
    ap (λ (t : List ℕ). t ++ row_text mark (x + wide) y (drop wide (m ∷ ms))) drawn
    ∙ append_assoc old (run_text mark y (run m x wide)) (row_text mark (x + wide) y (drop wide (m ∷ ms)))
    ∙ ap (λ (n : ℕ). old ++ (run_text mark y (run m x n) ++ row_text mark (x + n) y (drop n (m ∷ ms)))) is
    ∙ ap (λ (t : List ℕ). old ++ t) (sym (one_run mark x y m ms))
