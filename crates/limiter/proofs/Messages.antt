-- A whole message at once is its entries one by one.
use Rattle.std.proofs.Common.{◌≡◌, ℕ, Bool, true, false, List, length, nat_lt, take, Option, Some, None, Result, Ok, Err, refl, sym, ◌∙◌, ap, if◌then◌else◌}
use Rattle.net_addr.specs.declared.peer.Entry.{Entry}
use Rattle.limiter.specs.declared.limiter.Conn.{Conn}
use Rattle.limiter.specs.State.{with_conn}
use Rattle.limiter.specs.Tokens.{refill, intake, intake_count, after_entries, admit_conn}
use Rattle.limiter.specs.Calls.{after_message, after_taking}
use Rattle.limiter.specs.Inside.{IsConn}
use Rattle.limiter.proofs.Tokens.{CountsFit, after_entries-is, intake-first}

counts_fit : (now : ℕ) (c : Conn) → IsConn c → CountsFit (refill now c)
counts_fit now c is = record { processed = is.processed; limited = is.limited }

at_once : (now : ℕ) (c : Conn) (entries : List (Option Entry)) → IsConn c → after_entries (refill now c) entries ≡ admit_conn (refill now c) (length entries)
at_once now c entries is = after_entries-is (refill now c) entries (counts_fit now c is)

-- ---- the call for a message's number of entries

pub message_is : (now count : ℕ) (entries : List (Option Entry)) (conns : List Conn) (o : Option Conn) → ((c : Conn) → o ≡ Some c → IsConn c) → length entries ≡ count
    → after_taking now count o conns ≡ after_message now entries o conns
message_is now count entries conns None are many = refl
message_is now count entries conns (Some c) are many = ap (λ d. with_conn d conns) (ap (admit_conn (refill now c)) (sym many) ∙ sym (at_once now c entries (are c refl)))

pub first_are : (now count : ℕ) (entries : List (Option Entry)) (c : Conn) (taken : ℕ) → length entries ≡ count → taken ≡ intake_count (refill now c) count
    → intake (refill now c) entries ≡ take taken entries
first_are now count entries c taken many is =
    intake-first (refill now c) entries ∙ ap (λ n. take (intake_count (refill now c) n) entries) many ∙ ap (λ n. take n entries) (sym is)
