-- Parts of lists.
use Rattle.std.proofs.Common.{◌≡◌, ℕ, ◌+◌, ◌≤◌, List, ◌++◌, length, take, drop, sym, ap, ◌∙◌, append_assoc, arith}
use Rattle.std.proofs.lemmas.List.{drop-take, drop-append-le, length-drop, length-take, take-append-drop}
use Rattle.std.proofs.Math.Seq.{take-add}
use Rattle.log_run.specs.Parts.{between}

-- what is moved to the front
pub moved : (new old : List ℕ) (start end count : ℕ) → start + count ≡ end → take count new ≡ take count (drop start old)
    → take count new ≡ between start end old
moved new old start end count is same = same ∙ sym (drop-take start count old) ∙ ap (λ n. drop start (take n old)) is

-- a part goes on by the next elements
pub grown : (new old : List ℕ) (start end n : ℕ) → start ≤ length (take end old) → take end new ≡ take end old
    → between start (end + n) new ≡ between start end old ++ take n (drop end new)
grown new old start end n le same =
    ap (drop start) (take-add end n new ∙ ap (λ xs. xs ++ take n (drop end new)) same)
    ∙ drop-append-le start (take end old) (take n (drop end new)) le

pub within : (xs : List ℕ) (start end : ℕ) → start ≤ end → end ≤ length xs → start ≤ length (take end xs)
within xs start end le inside = omega (arith, length-take end xs)

-- the next elements are as many as there were to read
pub next_length : (xs : List ℕ) (end n max : ℕ) → end + max ≤ length xs → n ≤ max → length (take n (drop end xs)) ≡ n
next_length xs end n max room le = omega (arith, length-take n (drop end xs), length-drop end xs)

-- bytes moved from what was left to the end of a part
pub moves : (old new left : List ℕ) (next : List ℕ) (n : ℕ) → new ≡ old ++ next → next ≡ take n left
    → old ++ left ≡ new ++ drop n left
moves old new left next n is same =
    ap (λ xs. old ++ xs) (sym (take-append-drop n left)) ∙ sym (append_assoc old (take n left) (drop n left))
    ∙ ap (λ xs. xs ++ drop n left) (ap (λ xs. old ++ xs) (sym same) ∙ sym is)
