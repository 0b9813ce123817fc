-- What the calls of `Limiter` answer, and the connections after them.
use Rattle.std.specs.Prelude.{ℕ, List, is_none, Option, Some, None, if◌then◌else◌}
use Rattle.net_addr.specs.declared.peer.Entry.{Entry}
use Rattle.limiter.specs.declared.limiter.Conn.{Conn}
use Rattle.limiter.specs.State.{find_conn, with_conn}
use Rattle.limiter.specs.Tokens.{after_getaddr, refill, after_entries, admit_conn}
use Rattle.limiter.specs.declared.limiter.Asked.{Asked}
use Rattle.limiter.specs.declared.limiter.Asked.TheVariants.{Unknown, Already, Granted}

-- The answer to a `getaddr` that is sent to a connection: it is granted once (`m_getaddr_sent` in
-- net_processing.cpp of Bitcoin Core).
abbrev pub asked_of : Option Conn → Asked
asked_of None = Unknown
asked_of (Some c) = if c.asked then Already else Granted

-- the connections with one more, unless its number has one
abbrev pub after_open : Conn → List Conn → List Conn
after_open c conns = if is_none (find_conn c.number conns) then with_conn c conns else conns

-- the connections after getaddr to the one that was found
abbrev pub after_asking : Option Conn → List Conn → List Conn
after_asking None conns = conns
after_asking (Some c) conns = if c.asked then conns else with_conn (after_getaddr c) conns

-- the connections after this many entries from the one that was found
abbrev pub after_taking : ℕ → ℕ → Option Conn → List Conn → List Conn
after_taking now count None conns = conns
after_taking now count (Some c) conns = with_conn (admit_conn (refill now c) count) conns

-- the same, entry by entry
abbrev pub after_message : ℕ → List (Option Entry) → Option Conn → List Conn → List Conn
after_message now entries None conns = conns
after_message now entries (Some c) conns = with_conn (after_entries (refill now c) entries) conns
