-- That a file is sane has one proof at most.
use Rattle.std.specs.Prelude.{ℕ, ◌-◌, List, length, Bool}
use Rattle.std.specs.Coded.{Unit-prop, le_prop}
use Rattle.std.proofs.Props.{props}
use Rattle.asmap_vm.specs.Code.{Tree, Return, Jump, Match, Default, IsSaneWithin, IsMatch, IsNoShortMatch, TakesDefault, IsSaneFile}

-- That a tree may follow a default directly has at most one proof.
TakesDefault-prop : (t : Tree) → IsProp (TakesDefault t)
TakesDefault-prop (Return n) = hlevel
TakesDefault-prop (Jump l r) = Unit-prop
TakesDefault-prop (Match wanted t) = Unit-prop
TakesDefault-prop (Default n t) = hlevel

-- That a tree may follow a short match directly has at most one proof.
IsNoShortMatch-prop : (t : Tree) → IsProp (IsNoShortMatch t)
IsNoShortMatch-prop (Return n) = Unit-prop
IsNoShortMatch-prop (Jump l r) = Unit-prop
IsNoShortMatch-prop (Match wanted t) = le_prop
IsNoShortMatch-prop (Default n t) = Unit-prop

-- That a match is sane has at most one proof.
IsMatch-prop : (wanted : List Bool) (t : Tree) → IsProp (IsMatch wanted t)
IsMatch-prop wanted t = hlevel (props, IsNoShortMatch-prop)

-- That a tree is sane for a number of address bits has at most one proof.
IsSaneWithin-prop : (left : ℕ) (t : Tree) → IsProp (IsSaneWithin left t)
unfolding IsSaneWithin
IsSaneWithin-prop left (Return n) = hlevel props
IsSaneWithin-prop left (Jump l r) =
    hlevel (props, IsSaneWithin-prop (left - 1) l, IsSaneWithin-prop (left - 1) r)
IsSaneWithin-prop left (Match wanted t) =
    hlevel (props, IsMatch-prop wanted t, IsSaneWithin-prop (left - length wanted) t)
IsSaneWithin-prop left (Default n t) = hlevel (props, TakesDefault-prop t, IsSaneWithin-prop left t)

-- That a file is sane has at most one proof.
pub IsSaneFile-prop : (t : Tree) (bytes : List ℕ) → IsProp (IsSaneFile t bytes)
IsSaneFile-prop t bytes = hlevel (props, IsSaneWithin-prop 128 t)
