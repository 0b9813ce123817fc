-- Definitions for private contracts: the connections in a map by number.
use Rattle.std.specs.Prelude.{◌≡◌, ℕ, ◌<◌, ◌^◌, List, [], ◌∷◌}
use Rattle.std.specs.List.{AllByRecursion}
use Rattle.limiter.specs.declared.limiter.Conn.{Conn}
use Rattle.limiter.specs.State.{IsBounded, with_conn}

-- the connections of a map by rising number
abbrev pub conns_of : List (ℕ × Conn) → List Conn
conns_of [] = []
conns_of (e ∷ es) = with_conn e.1 (conns_of es)

-- few enough tenths, and counts of 32 bits
pub record IsConn (c : Conn) : Type 0 where
  pub tenths : IsBounded c
  pub processed : c.processed < 2 ^ 32
  pub limited : c.limited < 2 ^ 32

-- each connection is at its number
abbrev pub AreEntries : List (ℕ × Conn) → Type 0
AreEntries entries = AllByRecursion (λ e. (e.1.number ≡ e.0) × IsConn e.1) entries

-- a connection that was changed keeps its number
pub record IsKept (old new : Conn) : Type 0 where
  pub conn : IsConn new
  pub number : new.number ≡ old.number
