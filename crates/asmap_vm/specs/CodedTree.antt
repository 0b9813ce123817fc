-- A code for trees, so that a tree can be part of the value of a model: a list of tokens, one for
-- each instruction, after those of its parts.
use Rattle.std.specs.Prelude.{◌≡◌, ◌⊎◌, ℕ, Bool, List, [], ◌∷◌, refl}
use Rattle.std.specs.Coded.{Coded, code_by, coded_ℕ, coded_bool, coded_list, coded⊎}
use Rattle.std.proofs.Common.{inl, inr, ap, ◌∙◌}
use base.Stored.{coded_unit}
use Rattle.asmap_vm.specs.Code.{Tree, Return, Jump, Match, Default}

-- a return, a default, a match or a jump
abbrev pub Token : Type 0
Token = (ℕ ⊎ ℕ) ⊎ (List Bool ⊎ Unit {0})

-- the tokens of a tree, and then others
abbrev pub tokens : Tree → List Token → List Token
tokens (Return n) more = inl (inl n) ∷ more
tokens (Default n t) more = tokens t (inl (inr n) ∷ more)
tokens (Match wanted t) more = tokens t (inr (inl wanted) ∷ more)
tokens (Jump l r) more = tokens l (tokens r (inr (inr tt) ∷ more))

-- the trees that tokens make, the last one first, on top of some
abbrev pub trees : List Token → List Tree → List Tree
trees [] made = made
trees (inl (inl n) ∷ more) made = trees more (Return n ∷ made)
trees (inl (inr n) ∷ more) [] = []
trees (inl (inr n) ∷ more) (t ∷ made) = trees more (Default n t ∷ made)
trees (inr (inl wanted) ∷ more) [] = []
trees (inr (inl wanted) ∷ more) (t ∷ made) = trees more (Match wanted t ∷ made)
trees (inr (inr u) ∷ more) [] = []
trees (inr (inr u) ∷ more) (r ∷ []) = []
trees (inr (inr u) ∷ more) (r ∷ l ∷ made) = trees more (Jump l r ∷ made)

-- The first of some trees; a return of 0 if there is none.
abbrev pub first_tree : List Tree → Tree
first_tree [] = Return 0
first_tree (t ∷ made) = t

-- The tokens of a tree make this tree again.
pub trees-tokens : (t : Tree) (more : List Token) (made : List Tree)
    → trees (tokens t more) made ≡ trees more (t ∷ made)
trees-tokens (Return n) more made = refl
trees-tokens (Default n t) more made = trees-tokens t (inl (inr n) ∷ more) made
trees-tokens (Match wanted t) more made = trees-tokens t (inr (inl wanted) ∷ more) made
trees-tokens (Jump l r) more made =
    trees-tokens l (tokens r (inr (inr tt) ∷ more)) made
    ∙ trees-tokens r (inr (inr tt) ∷ more) (l ∷ made)

-- The code of a token.
abbrev pub token_code : Coded Token
token_code = coded⊎ (coded⊎ coded_ℕ coded_ℕ) (coded⊎ (coded_list coded_bool) coded_unit)

-- The code of a tree: that of its tokens.
abbrev pub tree_code : Coded Tree
tree_code =
    code_by (List Token) (coded_list token_code) (λ t. tokens t [])
    (λ made. first_tree (trees made [])) (λ t. ap first_tree (trees-tokens t [] []))
