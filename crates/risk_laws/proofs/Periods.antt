-- Sums over words of what depends on a residue.
use Rattle.std.proofs.Common.{◌≡◌, ℕ, zero, suc, ◌+◌, ◌*◌, ◌%◌, ◌≤◌, sum_by, refl, sym, ap, ◌∙◌, arith}
use Rattle.std.specs.List.{range_with_len}
use Rattle.std.proofs.lemmas.List.Sums.{sum_by-append, sum_by-cons}
use Rattle.std.proofs.lemmas.Nat.{mod-mul-add}
use Rattle.table_laws.proofs.Counts.{range_split}

-- from a multiple of k on, the residues rise as from 0
same_as : (F : ℕ → ℕ) (k t : ℕ) (a m : ℕ) → a + m ≤ k
    → sum_by (λ x. F (x % k)) (range_with_len (t * k + a) m) ≡ sum_by F (range_with_len a m)
same_as F k t a zero low = refl
same_as F k t a (suc m) low =
    let next : t * k + a + 1 ≡ t * k + (a + 1) = omega arith in
    sum_by-cons (λ x. F (x % k)) (t * k + a) (range_with_len (t * k + a + 1) m)
    ∙ (λ i. F (mod-mul-add t k a (omega (arith, low)) i) + sum_by (λ x. F (x % k)) (range_with_len (next i) m))
    ∙ ap (λ s. F a + s) (same_as F k t (a + 1) m (omega (arith, low)))
    ∙ sym (sum_by-cons F a (range_with_len (a + 1) m))

pub periodic : (F : ℕ → ℕ) (k t : ℕ) → sum_by (λ x. F (x % k)) (range_with_len 0 (t * k)) ≡ t * sum_by F (range_with_len 0 k)
periodic F k zero =
    let none : 0 * k ≡ 0 = omega arith in
    let zeros : 0 ≡ 0 * sum_by F (range_with_len 0 k) = omega arith in
    ap (λ m. sum_by (λ x. F (x % k)) (range_with_len 0 m)) none ∙ zeros
periodic F k (suc t) =
    let longer : suc t * k ≡ t * k + k = omega arith in
    let from : 0 + t * k ≡ t * k + 0 = omega arith in
    let last : t * sum_by F (range_with_len 0 k) + sum_by F (range_with_len 0 k) ≡ suc t * sum_by F (range_with_len 0 k) = omega arith in
    ap (λ m. sum_by (λ x. F (x % k)) (range_with_len 0 m)) longer
    ∙ ap (sum_by (λ x. F (x % k))) (range_split 0 (t * k) k)
    ∙ sum_by-append (λ x. F (x % k)) (range_with_len 0 (t * k)) (range_with_len (0 + t * k) k)
    ∙ (λ i. periodic F k t i + sum_by (λ x. F (x % k)) (range_with_len (from i) k))
    ∙ ap (λ s. t * sum_by F (range_with_len 0 k) + s) (same_as F k t 0 k (omega arith))
    ∙ last
