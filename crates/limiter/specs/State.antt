-- The connections by rising number.
use Rattle.std.specs.Prelude.{Bool, false, ℕ, ◌≤◌, map, List, [], ◌∷◌, ◌==◌, nat_lt, not, filter, find, Option, Some, None, if◌then◌else◌}
use Rattle.std.specs.List.{AllByRecursion}
use Rattle.std.specs.List.Sorted.{IsStrictlySortedBy}
use Rattle.std.specs.Ordering.{nat_cmp}
use Rattle.net_addr.specs.Address.{Address}
use Rattle.limiter.specs.declared.limiter.Conn.{Conn}

-- a connection that opens, with one token
abbrev pub new_conn : ℕ → Address → Bool → ℕ → Conn
new_conn number addr unlimited now = record {
  number = number;
  addr = addr;
  tenths = 10;
  moment = now;
  asked = false;
  unlimited = unlimited;
  processed = 0;
  limited = 0;
}

-- the connection of the number, if it has one
abbrev pub find_conn : ℕ → List Conn → Option Conn
find_conn number conns = find (λ c. c.number == number) conns

-- a connection put at its position in the order, where it replaces the one of its number
abbrev pub with_conn : Conn → List Conn → List Conn
with_conn c [] = c ∷ []
with_conn c (d ∷ conns) =
    if nat_lt c.number d.number then c ∷ d ∷ conns
    else if d.number == c.number then c ∷ conns
    else d ∷ with_conn c conns

-- the connections without those of the number
abbrev pub without_conn : ℕ → List Conn → List Conn
without_conn number conns = filter (λ c. not (c.number == number)) conns

-- the number has this connection afterwards, or none
abbrev pub set_conn : ℕ → Option Conn → List Conn → List Conn
set_conn number None conns = without_conn number conns
set_conn number (Some c) conns = with_conn c conns

-- at most 20000 tenths of a token, and at most 10000 before getaddr
abbrev pub IsBounded : Conn → Type 0
IsBounded c = c.tenths ≤ (if c.asked then 20000 else 10000)

-- The tokens of all connections are bounded.
abbrev pub AreBounded : List Conn → Type 0
AreBounded conns = AllByRecursion IsBounded conns

-- the numbers rise
abbrev pub AreRising : List Conn → Type 0
AreRising conns = IsStrictlySortedBy nat_cmp (map (λ c. c.number) conns)
