-- How many records there are, and how deep the rows are.
use Rattle.std.proofs.Common.{◌≡◌, ℕ, suc, cond, ◌+◌, ◌≤◌, Bool, true, false, List, [], ◌∷◌, length, count_by, not, refl, ◌∙◌, arith}
use Rattle.std.proofs.lemmas.List.Sums.{sum_by-cons}
use Rattle.json.specs.Tree.{depth}
use Rattle.node_json.specs.Info.{info_json}
use Rattle.table_groups.specs.View.{View}

pub info_depth : (view : View) → depth (info_json view) ≤ 128
unfolding info_json
info_depth view = omega arith

one_more : (b : Bool) (n m l : ℕ) → n + m ≡ l → (cond (not b) 1 0 + n) + (cond b 1 0 + m) ≡ suc l
one_more true n m l h = omega (arith, h)
one_more false n m l h = omega (arith, h)

-- those that pass a test and those that don't are all
pub counts_all : {X : Type 0} (p : X → Bool) (xs : List X) → count_by (λ x. not (p x)) xs + count_by p xs ≡ length xs
counts_all p [] = refl
counts_all p (x ∷ xs) =
    (λ i. sum_by-cons (λ y. cond (not (p y)) 1 0) x xs i + sum_by-cons (λ y. cond (p y) 1 0) x xs i)
    ∙ one_more (p x) _ _ _ (counts_all p xs)
