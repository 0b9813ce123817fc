-- A new answer to `getaddr` (`CConnman::GetAddressesUnsafe` in net.cpp of Bitcoin Core): a sample
-- of the tables without banned addresses.
use Rattle.std.specs.Prelude.{◌≡◌, ℕ, List, length, Contains, false, find, is_some, flat_map, option_to_list, option_map, Option, Some, None, if◌then◌else◌}
use Rattle.net_addr.specs.NetSet.{none, with_net}
use Rattle.net_addr.specs.declared.peer.Entry.{Entry}
use Rattle.net_addr.specs.declared.net.Net.TheVariants.{Ipv4, Ipv6, Onion, I2p, Cjdns}
use Rattle.net_addr.specs.declared.peer.Peer.{Peer}
use Rattle.peer_rec.specs.declared.rec.Rec.{Rec}
use Rattle.ban_list.specs.Bans.{stops}
use Rattle.ban_list.specs.declared.ban.Ban.{Ban}
use Rattle.table_machine.specs.State.{State, After, find_peer}
use Rattle.table_machine.specs.Picks.{sample}
use Rattle.picking.specs.Announced.{IsAnnounced}
use Rattle.addr_answers.specs.Answers.{Answer, told_time}
use Rattle.addr_answers.specs.Runs.{Ask, is_made}
use Rattle.addr_answers.specs.declared.answers.TheConstants.{MAX_TOLD}
use Rattle.getaddr.specs.declared.asking.TheConstants.{MAX_PERCENT}
use Rattle.getaddr.specs.declared.times.Times.{Times}
use Rattle.getaddr.specs.declared.times.Times.TheVariants.{Hidden, Own}

-- the networks whose peers are announced
abbrev pub told_nets : List ℕ
told_nets =
    with_net (with_net (with_net (with_net (with_net none Ipv4) Ipv6) Onion) I2p) Cjdns

-- the time that all entries of an answer have, if it hides those of the records
abbrev pub time_for_all : Times → ℕ → ℕ → Option ℕ
time_for_all Hidden now word = Some (told_time now word)
time_for_all Own now word = None

-- The time of an entry: the one for all, or that of its record.
abbrev pub time_of : Option ℕ → Rec → ℕ
time_of (Some time) r = time
time_of None r = r.time

-- what is said of a record
abbrev pub entry : Option ℕ → Rec → Entry
entry time r = record { time = time_of time r; services = r.services; peer = r.peer }

-- the entry of a peer, unless it has no record or is banned
abbrev pub entry_of : State → List Ban → Option ℕ → ℕ → Peer → Option Entry
entry_of st bans time now peer =
    if is_some (find (stops peer.addr now) bans) then None
    else option_map (entry time) (find_peer st peer)

-- the peers of a new answer, and the tables after it
abbrev pub sample_of : State → ℕ → List ℕ → After (List Peer)
sample_of st now words = sample st MAX_TOLD MAX_PERCENT told_nets words now

-- the order of the records after it
abbrev pub order_after : State → ℕ → List ℕ → List ℕ
order_after st now words = (sample_of st now words).state.order

-- the entries of a new answer, with this time if there is one
abbrev pub entries_by : State → List Ban → Option ℕ → ℕ → List ℕ → List Entry
entries_by st bans time now words =
    let found = sample_of st now words in
    flat_map (λ peer. option_to_list (entry_of found.state bans time now peer)) found.answer

-- The entries of a new answer.
abbrev pub fresh : State → List Ban → Times → ℕ → ℕ → List ℕ → List Entry
fresh st bans times now word words = entries_by st bans (time_for_all times now word) now words

-- the request
abbrev pub ask_of : State → List Ban → Times → ℕ → ℕ → ℕ → List ℕ → Ask
ask_of st bans times key now word words = record {
  key = key;
  now = now;
  records = length st.order;
  word = word;
  fresh = fresh st bans times now word words;
}

-- the tables after it: only a new sample changes them, and only their order
abbrev pub tables_after : List Answer → Ask → State → List ℕ → State
tables_after kept ask st words =
    if is_made kept ask then (sample_of st ask.now words).state else st

-- The entry says what a record of the tables says, perhaps with the time of all entries. The peer
-- may be announced, and its address is not banned.
abbrev pub IsTold : State → List Ban → Times → ℕ → ℕ → Entry → Type 0
IsTold st bans times now word e =
    ((r : Rec) × Contains st.records r × (entry (time_for_all times now word) r ≡ e))
    × IsAnnounced st told_nets now e.peer
    × (is_some (find (stops e.peer.addr now) bans) ≡ false)
