-- The state of the limit's log: a clock, and the connections by rising number.
use Rattle.std.specs.Prelude.{ℕ, List, []}
use Rattle.limiter.specs.declared.limiter.Conn.{Conn}

-- The clock in seconds since 1970, and the open connections.
pub record LimitState : Type 0 where
  pub clock : ℕ
  pub conns : List Conn

-- The state before the first line: a clock at 0, and no connection.
abbrev pub start : LimitState
start = record { clock = 0; conns = [] }
