-- The address manager with the open outbound peers, the rules by which they are chosen, and what a
-- request does to them. Bitcoin Core opens its connections in `CConnman::ThreadOpenConnections` in
-- net.cpp.
use Rattle.std.specs.Prelude.{◌≡◌, ◌⊎◌, ℕ, ◌<◌, List, Bool, length}
use Rattle.net_addr.specs.declared.peer.Peer.{Peer}
use Rattle.placing.specs.Places.{Places}
use Rattle.table_machine.specs.Clashes.{clash_pick}
use Rattle.log_lines.specs.declared.reply.Reply.{Reply}
use Rattle.manager.specs.Machine.{Machine}
use Rattle.manager.specs.Step as manager
use Rattle.peer_open.specs.Groups.{Outbound, is_open, with_peer, without_peer}
use Rattle.peer_open.specs.declared.opener.TheConstants.{MAX_OUTBOUND}
use Rattle.peer_open.specs.declared.rules.OpenRules.{OpenRules}
use Rattle.opener_lines.specs.Tries.{HasOutcome, counted, try_by, ToKeep, ToTest}
use Rattle.opener_lines.specs.declared.command.OpenerCommand.{OpenerCommand}
use Rattle.opener_lines.specs.declared.command.OpenerCommand.TheVariants as request
use Rattle.opener_lines.specs.declared.tries.Outcome.{Outcome}
use Rattle.opener_lines.specs.declared.tries.Outcome.TheVariants as outcome

-- The rules that options choose, the machine, and the open outbound peers.
pub record OpenerState : Type 0 where
  pub rules : OpenRules
  pub machine : Machine
  pub open_peers : List Outbound

-- The state with these rules, this machine and these open peers.
abbrev pub state : OpenRules → Machine → List Outbound → OpenerState
state rules machine open_peers =
    record { rules = rules; machine = machine; open_peers = open_peers }

-- What a request is answered: there are ten peers already; what the tries of a connection came to,
-- with the group that an opened peer counts in; whether a peer was open; or the machine's reply.
pub data Answer : Type 0 where
  Full : Answer
  Opened : (peer : Peer) (group : List ℕ) (tries : ℕ) → Answer
  Tested : (peer : Peer) (tries : ℕ) → Answer
  NoPeer : Answer
  GaveUp : Answer
  Closed : (was_open : Bool) → Answer
  Told : (reply : Reply) → Answer

-- The answer to `outbound`, by what the tries came to.
abbrev pub answer_to_outbound : OpenRules → Places → Outcome → Answer
answer_to_outbound rules places (outcome.Taken peer i) = Opened peer (counted rules places peer) i
answer_to_outbound rules places outcome.Nothing = NoPeer
answer_to_outbound rules places outcome.GaveUp = GaveUp

-- The answer to `feeler`, by what the tries came to.
abbrev pub answer_to_feeler : Outcome → Answer
answer_to_feeler (outcome.Taken peer i) = Tested peer i
answer_to_feeler outcome.Nothing = NoPeer
answer_to_feeler outcome.GaveUp = GaveUp

-- the open peers after the tries, with the peer that was taken, the last
abbrev pub peers_after : OpenRules → Places → Outcome → List Outbound → List Outbound
peers_after rules places (outcome.Taken peer i) open_peers =
    with_peer peer (counted rules places peer) open_peers
peers_after rules places other open_peers = open_peers

-- the tries of an outbound connection, unless there are ten already
abbrev pub OutboundStep : OpenerState → ℕ → Answer → OpenerState → Type 0
OutboundStep old seed answer new =
    ((length old.open_peers ≡ MAX_OUTBOUND) × (answer ≡ Full) × (new ≡ old))
    ⊎ ((length old.open_peers < MAX_OUTBOUND)
    × ((found : Outcome)
    × HasOutcome (try_by old.rules old.machine old.open_peers ToKeep seed) found
    × (answer ≡ answer_to_outbound old.rules old.machine.tables.places found)
    × (new ≡ record old {
      open_peers =
          peers_after old.rules old.machine.tables.places found old.open_peers;
    })))

-- the address manager after the pick of a collision by a word
abbrev pub after_clash : Machine → ℕ → Machine
after_clash m word = record m { tables = (clash_pick m.tables word).state }

-- the tries of a feeler, after the pick of a collision
abbrev pub FeelerStep : OpenerState → ℕ → ℕ → Answer → OpenerState → Type 0
FeelerStep old seed word answer new =
    (found : Outcome)
    × HasOutcome (try_by old.rules (after_clash old.machine word) old.open_peers
    (ToTest (clash_pick old.machine.tables word).answer) seed) found
    × (answer ≡ answer_to_feeler found)
    × (new ≡ record old { machine = after_clash old.machine word })

-- what a request is answered, and the state after it
abbrev pub RequestStep : OpenerState → OpenerCommand → Answer → OpenerState → Type 0
RequestStep old (request.Outbound seed) answer new = OutboundStep old seed answer new
RequestStep old (request.Feeler seed word) answer new = FeelerStep old seed word answer new
RequestStep old (request.Close peer) answer new =
    (answer ≡ Closed (is_open peer old.open_peers))
    × (new ≡ record old { open_peers = without_peer peer old.open_peers })
RequestStep old (request.Machine command) answer new =
    (reply : Reply) × (machine : Machine) × manager.Step old.machine command reply machine
    × (answer ≡ Told reply) × (new ≡ record old { machine = machine })
