-- What a list of lists contains.
use Rattle.std.proofs.Common.{◌≡◌, ℕ, List, [], ◌∷◌, flat_map, Contains, sym, subst, ⊎_elim}
use Rattle.std.proofs.lemmas.List.Elements.{Contains-append_left, Contains-append_right}
use Rattle.table_machine.proofs.Lists.{Contains-cases, none_in_nil}

pub Contains-flat_map : {X : Type 0} (f : X → List ℕ) (xs : List X) (x : X) (b : ℕ) → Contains xs x → Contains (f x) b → Contains (flat_map f xs) b
Contains-flat_map f [] x b c h = absurd (none_in_nil x c)
Contains-flat_map {X} f (y ∷ xs) x b c h =
    let later = Contains-flat_map f xs x b in
    ⊎_elim (λ (is : y ≡ x). Contains-append_left (f y) (flat_map f xs) b (subst (λ (z : X). Contains (f z) b) (sym is) h))
    (λ rest. Contains-append_right (f y) (flat_map f xs) b (later rest h)) (Contains-cases y xs x c)
