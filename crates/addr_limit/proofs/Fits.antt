-- What holds of each connection in every state that is reached.
use Rattle.std.proofs.Common.{◌≡◌, ℕ, ◌+◌, ◌≤◌, List, [], ◌∷◌, length, Option, Some, None, IfSome, not, nat_lt, if◌then◌else◌, ◌==◌, Bool, true, false, Result, Ok, Err, refl, sym, subst, arith}
use Rattle.std.specs.List.{zip}
use Rattle.std.proofs.lemmas.Bool.Decides.{nat_tests}
use Rattle.net_addr.specs.declared.peer.Entry.{Entry}
use Rattle.addr_codecs.specs.declared.fault.MsgFault.{MsgFault}
use Rattle.limiter.specs.declared.limiter.Conn.{Conn}
use Rattle.limiter.specs.Tokens.{refill, after_entry, after_entries, after_getaddr}
use Rattle.limiter.specs.State.{find_conn, with_conn, without_conn, set_conn, IsBounded, AreBounded}
use Rattle.addr_limit.specs.LogState.{LimitState}
use Rattle.addr_limit.specs.Steps.{Outcome, serve, limit_message, limit_entries, after_event}
use Rattle.addr_limit.specs.declared.command.Event.{Event}
use Rattle.addr_limit.specs.declared.command.Event.TheVariants.{Now, Of, Nothing}
use Rattle.addr_limit.specs.declared.command.LimitCommand.{LimitCommand}
use Rattle.addr_limit.specs.declared.command.LimitCommand.TheVariants.{Open, Close, GetAddr, Message, Stat}
use Rattle.limiter.proofs.Tokens.{refill-most}

refill-bounded : (now : ℕ) (c : Conn) → IsBounded c → IsBounded (refill now c)
refill-bounded now c h = by c.asked h
  where
    by : (b : Bool) → c.tenths ≤ (if b then 20000 else 10000) → (refill now c).tenths ≤ (if b then 20000 else 10000)
    by true low = refill-most now c 20000 (omega arith) low
    by false low = refill-most now c 10000 (omega arith) low

entries-bounded : {E : Type 0} (c : Conn) (es : List E) → IsBounded c → IsBounded (after_entries c es)
entries-bounded c [] h = h
entries-bounded c (e ∷ es) h = entries-bounded (after_entry c) es (grind (arith, nat_tests, h))

getaddr-bounded : (c : Conn) → IsBounded c → IsBounded (after_getaddr c)
getaddr-bounded c h = by c.asked refl h
  where
    by : (b : Bool) → c.asked ≡ b → c.tenths ≤ (if b then 20000 else 10000) → IsBounded (if b then c else record c { tenths = c.tenths + 10000; asked = true })
    by true is low = h
    by false is low = omega (arith, low)

abbrev IsBoundedIn : Option Conn → Type 0
IsBoundedIn o = IfSome o IsBounded

message-bounded : (now : ℕ) (c : Conn) (read : Result (List (Option Entry)) MsgFault) (words : List ℕ) → IsBounded c → IsBoundedIn (limit_message now c read words).conn
message-bounded now c (Err fault) words h = h
message-bounded now c (Ok entries) words h = by (nat_lt (length words) (length entries)) _ refl
  where
    by : (short : Bool) (o : Outcome) → o.conn ≡ Some c → IsBoundedIn (if short then o else limit_entries (refill now c) (zip entries words)).conn
    by true o is = subst IsBoundedIn (sym is) h
    by false o is = entries-bounded (refill now c) (zip entries words) (refill-bounded now c h)

serve-bounded : (now number : ℕ) (o : Option Conn) (request : LimitCommand) → IsBoundedIn o → IsBoundedIn (serve now number o request).conn
serve-bounded now number None (Open addr unlimited) h = omega arith
serve-bounded now number None Close h = tt
serve-bounded now number None GetAddr h = tt
serve-bounded now number None (Message read words) h = tt
serve-bounded now number None Stat h = tt
serve-bounded now number (Some c) (Open addr unlimited) h = h
serve-bounded now number (Some c) Close h = tt
serve-bounded now number (Some c) GetAddr h = getaddr-bounded c h
serve-bounded now number (Some c) (Message read words) h = message-bounded now c read words h
serve-bounded now number (Some c) Stat h = h

find-bounded : (number : ℕ) (conns : List Conn) → AreBounded conns → IsBoundedIn (find_conn number conns)
find-bounded number [] h = tt
find-bounded number (c ∷ conns) h = by (c.number == number) (find-bounded number conns h.1)
  where
    by : (b : Bool) → IsBoundedIn (find_conn number conns) → IsBoundedIn (if b then Some c else find_conn number conns)
    by true rest = h.0
    by false rest = rest

with-bounded : (c : Conn) (conns : List Conn) → IsBounded c → AreBounded conns → AreBounded (with_conn c conns)
with-bounded c [] h all = (h, tt)
with-bounded c (d ∷ conns) h all = by (nat_lt c.number d.number) (d.number == c.number) (with-bounded c conns h all.1)
  where
    by : (below at : Bool) → AreBounded (with_conn c conns) → AreBounded (if below then c ∷ d ∷ conns else if at then c ∷ conns else d ∷ with_conn c conns)
    by true at rest = (h, all)
    by false true rest = (h, all.1)
    by false false rest = (all.0, rest)

without-bounded : (number : ℕ) (conns : List Conn) → AreBounded conns → AreBounded (without_conn number conns)
without-bounded number [] all = all
without-bounded number (c ∷ conns) all = by (not (c.number == number)) (without-bounded number conns all.1)
  where
    by : (b : Bool) → AreBounded (without_conn number conns) → AreBounded (if b then c ∷ without_conn number conns else without_conn number conns)
    by true rest = (all.0, rest)
    by false rest = rest

-- no line gives a connection more
pub after-bounded : (st : LimitState) (e : Event) → AreBounded st.conns → AreBounded (after_event st e).conns
after-bounded st (Now time) all = all
after-bounded st Nothing all = all
after-bounded st (Of number request) all = by (serve st.clock number (find_conn number st.conns) request).conn (serve-bounded st.clock number (find_conn number st.conns) request (find-bounded number st.conns all))
  where
    by : (o : Option Conn) → IsBoundedIn o → AreBounded (set_conn number o st.conns)
    by None h = without-bounded number st.conns all
    by (Some c) h = with-bounded c st.conns h all
