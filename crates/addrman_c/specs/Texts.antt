-- What the calls on addresses and their texts return and write.
use Rattle.std.specs.Prelude.{◌≡◌, ℕ, List, Option, Some, None, MatchOption}
use Rattle.net_addr.specs.Address.{Address, net_number}
use Rattle.net_addr.specs.OldForm.{v1_bytes}
use Rattle.net_addr.specs.Ranges.{is_routable, net_class}
use Rattle.c_values.specs.declared.code.TheConstants.{OK, ARGUMENT, NONE}
use Rattle.c_values.specs.Values.{IsPut, bit}

-- The text of a value; None is no value, and then the output is as it was.
abbrev pub TextCall : {A : Type 0} → (A → List ℕ) → Option A → ℕ → List ℕ → List ℕ → ℕ → Type 0
TextCall text_of None code old new count = (code ≡ ARGUMENT) × (new ≡ old)
TextCall text_of (Some value) code old new count = IsPut (text_of value) old code count new

-- whether an address is routable; None is no address
abbrev pub RoutableCall : Option Address → ℕ → ℕ → Type 0
RoutableCall None code routable = code ≡ ARGUMENT
RoutableCall (Some addr) code routable = (code ≡ OK) × (routable ≡ bit (is_routable addr))

-- the network that it is reached through; None is no address
abbrev pub ClassCall : Option Address → ℕ → ℕ → Type 0
ClassCall None code class = code ≡ ARGUMENT
ClassCall (Some addr) code class = (code ≡ OK) × (class ≡ net_number (net_class addr))

-- the sixteen bytes of its old form, if it has one; None is no address
abbrev pub OldFormCall : Option Address → ℕ → List ℕ → List ℕ → Type 0
OldFormCall None code old new = (code ≡ ARGUMENT) × (new ≡ old)
OldFormCall (Some addr) code old new = MatchOption (v1_bytes addr) ((code ≡ NONE) × (new ≡ old))
    (λ bytes. (code ≡ OK) × (new ≡ bytes))
