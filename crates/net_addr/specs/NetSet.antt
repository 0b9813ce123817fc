-- Sets of networks. A set is the rising list of the numbers of its networks.
use Rattle.std.specs.Prelude.{ℕ, List, [], ◌∷◌, filter, Bool, ◌||◌, ◌==◌}
use Rattle.std.specs.List.{list_any}
use Rattle.net_addr.specs.Address.{net_number}
use Rattle.net_addr.specs.declared.net.Net.{Net}

-- all seven networks
abbrev pub all : List ℕ
all = 0 ∷ 1 ∷ 2 ∷ 3 ∷ 4 ∷ 5 ∷ 6 ∷ []

-- no network
abbrev pub none : List ℕ
none = []

-- whether the network of a number is in the set
abbrev pub has_number : List ℕ → ℕ → Bool
has_number nets number = list_any (λ n. n == number) nets

-- whether a network is in the set
abbrev pub has : List ℕ → Net → Bool
has nets net = has_number nets (net_number net)

-- the set with one more network, which may be in it already
abbrev pub with_net : List ℕ → Net → List ℕ
with_net nets net = filter (λ n. has_number nets n || n == net_number net) all
