-- What an event does. The answer to a request about a number depends on the
-- clock and on the connection of this number, and on nothing else.
use Rattle.std.specs.Prelude.{ℕ, List, [], ◌∷◌, ◌++◌, length, map, Bool, true, false, nat_lt, Option, Some, None, option_map, Result, Ok, Err, codes, decimal, if◌then◌else◌}
use Rattle.std.specs.List.{filter_map, zip}
use Rattle.hex.specs.Hex.{encode_lower}
use Rattle.net_addr.specs.Address.{Address}
use Rattle.net_addr.specs.declared.net.Net.{Net}
use Rattle.net_addr.specs.declared.net.Net.TheVariants.{Internal}
use Rattle.net_addr.specs.Text.{addr_text}
use Rattle.net_addr.specs.declared.peer.Entry.{Entry}
use Rattle.addr_codecs.specs.Texts.{message_text, addrv2_entry_text}
use Rattle.addr_codecs.specs.declared.fault.MsgFault.{MsgFault}
use Rattle.log_lines.specs.Replies.{fault_text, numbers_text}
use Rattle.limiter.specs.declared.limiter.Conn.{Conn}
use Rattle.limiter.specs.Tokens.{refill, after_entries, intake, after_getaddr}
use Rattle.limiter.specs.State.{find_conn, new_conn, set_conn}
use Rattle.addr_limit.specs.LogState.{LimitState}
use Rattle.addr_limit.specs.declared.command.LimitCommand.{LimitCommand}
use Rattle.addr_limit.specs.declared.command.LimitCommand.TheVariants.{Open, Close, GetAddr, Message, Stat}
use Rattle.addr_limit.specs.declared.command.Event.{Event}
use Rattle.addr_limit.specs.declared.command.Event.TheVariants.{Now, Of, Nothing}

-- the text of the output line, and the connection of the number afterwards, if there is one
pub record Outcome : Type 0 where
  pub text : List ℕ
  pub conn : Option Conn

-- This output line, and this connection afterwards.
abbrev pub with_output : List ℕ → Option Conn → Outcome
with_output text conn = record { text = text; conn = conn }

-- a comment: a word, a number, and the rest
abbrev pub comment : List ℕ → ℕ → List ℕ → List ℕ
comment word number said = codes "# " ++ word ++ codes " " ++ decimal number ++ said

-- The network is that of internal addresses, which no `addrv2` message carries.
abbrev pub is_internal : Net → Bool
is_internal Internal = true
is_internal other = false

-- the entry, unless it is skipped or internal
abbrev pub unless_hidden : Option Entry → Option Entry
unless_hidden None = None
unless_hidden (Some entry) = if is_internal entry.peer.addr.net then None else Some entry

-- such an entry with its word
abbrev pub for_output : Option Entry × ℕ → Option (Entry × ℕ)
for_output p = option_map (λ entry. (entry, p.1)) (unless_hidden p.0)

-- the line of a log that adds entries, which come from the address, with their words
abbrev pub addrv2_line : Address → List Entry → List ℕ → List ℕ
addrv2_line addr entries words =
    codes "addrv2 " ++ addr_text addr ++ codes " "
    ++ encode_lower (message_text addrv2_entry_text entries) ++ codes " " ++ numbers_text words

-- the line for these entries and their words, which says so if there are none
abbrev pub message_line : Conn → List (Entry × ℕ) → List ℕ
message_line c [] = comment (codes "from") c.number (codes " none")
message_line c (p ∷ ps) = addrv2_line c.addr (map (λ q. q.0) (p ∷ ps)) (map (λ q. q.1) (p ∷ ps))

-- a message whose entries are paired with their words
abbrev pub limit_entries : Conn → List (Option Entry × ℕ) → Outcome
limit_entries c pairs =
    with_output (message_line c (filter_map for_output (intake c pairs))) (Some (after_entries c
    pairs))

-- A message to a connection: refused if its payload has a fault or there are fewer random words
-- than entries, and else its entries are limited.
abbrev pub limit_message : ℕ → Conn → Result (List (Option Entry)) MsgFault → List ℕ → Outcome
limit_message now c (Err fault) words =
    with_output (comment (codes "from") c.number (codes " refused " ++ fault_text fault)) (Some c)
limit_message now c (Ok entries) words =
    if nat_lt (length words) (length entries)
    then with_output
    (comment (codes "from") c.number
    (codes " short " ++ decimal (length entries) ++ codes " " ++ decimal (length words)))
    (Some c)
    else limit_entries (refill now c) (zip entries words)

-- What `stat` says of a connection: the entries processed and limited, and its tokens in tenths.
abbrev pub stat_text : Conn → List ℕ
stat_text c =
    codes " processed " ++ decimal c.processed ++ codes " limited " ++ decimal c.limited
    ++ codes " tenths " ++ decimal c.tenths

-- a request about a number that has a connection
abbrev pub serve_conn : ℕ → Conn → LimitCommand → Outcome
serve_conn now c (Open addr unlimited) =
    with_output (comment (codes "open") c.number (codes " already")) (Some c)
serve_conn now c Close = with_output (comment (codes "close") c.number []) None
serve_conn now c GetAddr =
    with_output (comment (codes "getaddr") c.number (if c.asked then codes " already" else []))
    (Some (after_getaddr c))
serve_conn now c (Message read words) = limit_message now c read words
serve_conn now c Stat = with_output (comment (codes "stat") c.number (stat_text c)) (Some c)

-- a request about a number that has none
abbrev pub serve_none : ℕ → ℕ → LimitCommand → Outcome
serve_none now number (Open addr unlimited) =
    with_output (comment (codes "open") number []) (Some (new_conn number addr unlimited now))
serve_none now number Close = with_output (comment (codes "close") number (codes " unknown")) None
serve_none now number GetAddr =
    with_output (comment (codes "getaddr") number (codes " unknown")) None
serve_none now number (Message read words) =
    with_output (comment (codes "from") number (codes " unknown")) None
serve_none now number Stat = with_output (comment (codes "stat") number (codes " unknown")) None

-- the answer to a request, by what is found at its number
abbrev pub serve : ℕ → ℕ → Option Conn → LimitCommand → Outcome
serve now number None request = serve_none now number request
serve now number (Some c) request = serve_conn now c request

-- The answer to a request about a number, in a state.
abbrev pub serve_in : LimitState → ℕ → LimitCommand → Outcome
serve_in st number request = serve st.clock number (find_conn number st.conns) request

-- the state after a line
abbrev pub after_event : LimitState → Event → LimitState
after_event st (Now time) = record st { clock = time }
after_event st (Of number request) =
    record st { conns = set_conn number (serve_in st number request).conn st.conns }
after_event st Nothing = st

-- the output line: the line itself, unless it is a request
abbrev pub output : LimitState → List ℕ → Event → List ℕ
output st line (Now time) = line
output st line (Of number request) = (serve_in st number request).text
output st line Nothing = line
