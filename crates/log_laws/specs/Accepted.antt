-- Which entries of messages were accepted in a run.
use Rattle.std.specs.Prelude.{◌≡◌, ◌≤◌, ℕ, List, [], ◌∷◌, ◌++◌, length, Bool, Contains, Option, Some, None, if◌then◌else◌}
use Rattle.net_addr.specs.Address.{Address}
use Rattle.net_addr.specs.declared.peer.Entry.{Entry}
use Rattle.net_addr.specs.declared.peer.Peer.{Peer}
use Rattle.addr_codecs.specs.Layout.{IsAddrMessage, IsAddrv2Message}
use Rattle.log_lines.specs.Spelling.{SpellsCommand}
use Rattle.log_lines.specs.declared.command.Command.{Command}
use Rattle.log_lines.specs.declared.command.Command.TheVariants as command
use Rattle.manager.specs.Machine.{Machine}
use Rattle.taking.specs.Messages.{take_entry}
use Rattle.session.specs.History.{History, HistoryStep, fresh}
use Rattle.log_run.specs.Run.{Run}
use Rattle.session.specs.State.{SessionState}
use Rattle.table_machine.specs.State as tables

-- the peer of an entry that got a slot
abbrev pub peer_if : Bool → Option Entry → List Peer
peer_if accepted None = []
peer_if accepted (Some entry) = if accepted then entry.peer ∷ [] else []

-- the peers of a message's entries that got a slot; in order, each entry with the word at its index
abbrev pub peers_taken : tables.State → ℕ → List (Option Entry) → Address → List ℕ → List Peer
peers_taken st now [] source words = []
peers_taken st now (entry ∷ entries) source [] = []
peers_taken st now (entry ∷ entries) source (word ∷ words) =
    let first = take_entry st now entry source word in
    peer_if first.answer entry ++ peers_taken first.state now entries source words

-- a message of no more entries than words, one of which is for the peer and got a slot
abbrev pub TakesFor : (List (Option Entry) → Type 0) → Machine → Address → List ℕ → Peer → Type 0
TakesFor IsMessage old source words peer =
    (entries : List (Option Entry)) × IsMessage entries × (length entries ≤ length words)
    × Contains (peers_taken old.tables old.clock entries source words) peer

-- the command is a message from the source, and an entry for the peer gets a slot
abbrev pub Accepts : Machine → Command → Peer → Address → Type 0
Accepts old (command.Addr from payload words) peer source =
    (source ≡ from) × TakesFor (IsAddrMessage payload) old from words peer
Accepts old (command.Addr2 from payload words) peer source =
    (source ≡ from) × TakesFor (IsAddrv2Message payload) old from words peer
Accepts old other peer source = ⊥

-- One of the lines is a message from the source, and an entry for the peer got a slot when the run
-- came to this line. (How saves ended before it makes no difference: they leave the machine as it
-- is.)
pub record IsAccepted (st : SessionState) (lines : List (List ℕ)) (peer : Peer)
    (source : Address) : Type 0 where
  pub before : List (List ℕ)
  pub line : List ℕ
  pub after : List (List ℕ)
  pub cut : lines ≡ before ++ line ∷ after
  pub text : List ℕ
  pub at : History
  pub run : Run HistoryStep (fresh st) before text at
  pub asked : Command
  pub spells : SpellsCommand line asked
  pub accepts : Accepts at.now.machine asked peer source
