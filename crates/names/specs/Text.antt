-- What people write for an address: an address as the lines of a log have it or a name, with or
-- without a port.
use Rattle.std.specs.Prelude.{◌≡◌, ◌≢◌, ◌⊎◌, ℕ, ◌^◌, ◌<◌, List, ◌++◌, All, codes, decimal}
use Rattle.net_addr.specs.Address.{Address}
use Rattle.net_addr.specs.Text.{IsAddrText}
use Rattle.names.specs.Name.{IsName}

-- the address of the first reading, or if that has none, of the second
abbrev pub OrElse : (Address → Type 0) → (Address → Type 0) → Address → Type 0
OrElse First Second a = First a ⊎ (((b : Address) → ¬ First b) × Second a)

-- an address as in a log, or else a name
abbrev pub IsHost : List ℕ → Address → Type 0
IsHost text = OrElse (IsAddrText text) (IsName text)

-- the same before a port, where a name has no colon: an IPv6 address is in brackets there
abbrev pub IsHostOfPort : List ℕ → Address → Type 0
IsHostOfPort text = OrElse (IsAddrText text) (λ a. All (λ c. c ≢ 58) text × IsName text a)

-- an address, a colon and a port of 16 bits
pub record IsWithPort (text : List ℕ) (a : Address) : Type 0 where
  pub host : List ℕ
  pub port : ℕ
  pub host_text : IsHostOfPort host a
  pub small : port < 2 ^ 16
  pub spelled : text ≡ host ++ codes ":" ++ decimal port

-- what people may write for the address: without a port, or else with one
abbrev pub IsTextOf : List ℕ → Address → Type 0
IsTextOf text = OrElse (IsHost text) (IsWithPort text)
