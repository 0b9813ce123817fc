-- What a line does to a number and what it answers depend on the clock and the number's connection.
use Rattle.std.proofs.Common.{◌≡◌, ℕ, ◌+◌, List, [], ◌∷◌, length, Option, Some, None, if◌then◌else◌, ◌==◌, Bool, true, false, true≢false, Result, Ok, Err, nat_lt, refl, sym, ◌∙◌, ap, subst}
use Rattle.std.specs.List.{zip}
use Rattle.std.proofs.lemmas.Bool.{eqb-true, eqb-false}
use Rattle.net_addr.specs.declared.peer.Entry.{Entry}
use Rattle.addr_codecs.specs.declared.fault.MsgFault.{MsgFault}
use Rattle.limiter.specs.declared.limiter.Conn.{Conn}
use Rattle.limiter.specs.Tokens.{refill, after_entries, after_entry}
use Rattle.limiter.specs.State.{find_conn}
use Rattle.addr_limit.specs.LogState.{LimitState}
use Rattle.addr_limit.specs.Steps.{Outcome, serve, serve_in, limit_message, limit_entries, after_event, output}
use Rattle.addr_limit.specs.declared.command.Event.{Event}
use Rattle.addr_limit.specs.declared.command.Event.TheVariants.{Now, Of, Nothing}
use Rattle.addr_limit.specs.declared.command.LimitCommand.{LimitCommand}
use Rattle.addr_limit.specs.declared.command.LimitCommand.TheVariants.{Open, Close, GetAddr, Message, Stat}
use Rattle.limiter.proofs.Conns.{HasNumber, find_conn-number, find-set_conn, find_other-set_conn}

pub after_entries-number : {E : Type 0} (c : Conn) (es : List E) → (after_entries c es).number ≡ c.number
after_entries-number c [] = refl
after_entries-number c (e ∷ es) = after_entries-number (after_entry c) es

-- the connection of a number keeps it
module _ (now number : ℕ) where
  limit_message-number : (c : Conn) (read : Result (List (Option Entry)) MsgFault) (words : List ℕ) → c.number ≡ number → HasNumber number (limit_message now c read words).conn
  limit_message-number c (Err fault) words h = h
  limit_message-number c (Ok entries) words h = by (nat_lt (length words) (length entries)) _ refl
    where
      by : (short : Bool) (o : Outcome) → o.conn ≡ Some c → HasNumber number (if short then o else limit_entries (refill now c) (zip entries words)).conn
      by true o is = subst (HasNumber number) (sym is) h
      by false o is = after_entries-number (refill now c) (zip entries words) ∙ h

  pub serve-number : (o : Option Conn) (request : LimitCommand) → HasNumber number o → HasNumber number (serve now number o request).conn
  serve-number None (Open addr unlimited) h = refl
  serve-number None Close h = tt
  serve-number None GetAddr h = tt
  serve-number None (Message read words) h = tt
  serve-number None Stat h = tt
  serve-number (Some c) (Open addr unlimited) h = h
  serve-number (Some c) Close h = tt
  serve-number (Some c) GetAddr h = by c.asked
    where
      by : (asked : Bool) → (if asked then c else record c { tenths = c.tenths + 10000; asked = true }).number ≡ number
      by true = h
      by false = h
  serve-number (Some c) (Message read words) h = limit_message-number c read words h
  serve-number (Some c) Stat h = h

-- the clock, and the connection of the number
abbrev pub part_of : ℕ → LimitState → ℕ × Option Conn
part_of number st = (st.clock, find_conn number st.conns)

-- the event is a time, or a request about the number
abbrev pub concerns : ℕ → Event → Bool
concerns number (Now time) = true
concerns number (Of other request) = other == number
concerns number Nothing = false

served-number : (st : LimitState) (number : ℕ) (request : LimitCommand) → HasNumber number (serve_in st number request).conn
served-number st number request = serve-number st.clock number (find_conn number st.conns) request (find_conn-number number st.conns)

pub others_leave : (number : ℕ) (st : LimitState) (e : Event) → concerns number e ≡ false → part_of number (after_event st e) ≡ part_of number st
others_leave number st (Now time) h = absurd (true≢false h)
others_leave number st (Of other request) h =
    ap (λ o. (st.clock, o)) (find_other-set_conn number other (serve_in st other request).conn st.conns (served-number st other request) (λ e. eqb-false other number h (sym e)))
others_leave number st Nothing h = refl

served_alike : (number : ℕ) (s u : LimitState) (request : LimitCommand) → part_of number u ≡ part_of number s → serve_in u number request ≡ serve_in s number request
served_alike number s u request same = ap (λ p. serve p.0 number p.1 request) same

found_after : (number : ℕ) (st : LimitState) (request : LimitCommand) → part_of number (after_event st (Of number request)) ≡ (st.clock, (serve_in st number request).conn)
found_after number st request = ap (λ o. (st.clock, o)) (find-set_conn number (serve_in st number request).conn st.conns (served-number st number request))

pub answers_alike : (number : ℕ) (s u : LimitState) (line : List ℕ) (e : Event) → concerns number e ≡ true → part_of number u ≡ part_of number s →
    (output u line e ≡ output s line e) × (part_of number (after_event u e) ≡ part_of number (after_event s e))
answers_alike number s u line (Now time) h same = (refl, ap (λ p. (time, p.1)) same)
answers_alike number s u line (Of other request) h same =
    subst (λ n. (output u line (Of n request) ≡ output s line (Of n request)) × (part_of number (after_event u (Of n request)) ≡ part_of number (after_event s (Of n request))))
    (sym (eqb-true other number h)) (
      ap (λ o. o.text) (served_alike number s u request same),
      found_after number u request ∙ (λ i. ((same i).0, (served_alike number s u request same i).conn)) ∙ sym (found_after number s request),
    )
answers_alike number s u line Nothing h same = absurd (true≢false (sym h))
