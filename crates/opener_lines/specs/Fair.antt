-- What holds of the peers that an opener takes. Bitcoin Core has these rules in
-- `CConnman::ThreadOpenConnections` in net.cpp.
use Rattle.std.specs.Prelude.{◌≡◌, ℕ, ◌-◌, ◌<◌, ◌≤◌, false}
use Rattle.net_addr.specs.declared.peer.Peer.{Peer}
use Rattle.peer_rec.specs.declared.answers.Picked.TheVariants as picked
use Rattle.manager.specs.Machine.{Machine}
use Rattle.peer_open.specs.declared.opener.TheConstants.{MAX_TRIES}
use Rattle.opener_lines.specs.State.{Answer, OpenerState, Opened, Tested, after_clash}
use Rattle.opener_lines.specs.Tries.{is_passed, pick_by, Aim, ToKeep, ToTest}
use Rattle.opener_lines.specs.declared.command.OpenerCommand.{OpenerCommand}
use Rattle.opener_lines.specs.declared.command.OpenerCommand.TheVariants as request
use Rattle.table_machine.specs.Clashes.{clash_pick}

-- Try i picked the peer; it is the 31st or a later one if the peer was tried less than ten minutes
-- before.
pub record IsLateIfRecent (m : Machine) (goal : Aim) (seed : ℕ) (peer : Peer) (i : ℕ) : Type 0 where
  pub last_try : ℕ
  pub picked : pick_by m goal seed i ≡ picked.One peer last_try
  pub late : m.clock - last_try < 600 → 31 ≤ i

-- the number of a try, from 1 to `MAX_TRIES`
abbrev pub IsTry : ℕ → Type 0
IsTry i = (1 ≤ i) × (i ≤ MAX_TRIES)

-- the peer that an answer names was taken by the rules, and those of Bitcoin Core that the opener
-- follows do not pass it over
abbrev pub IsFair : OpenerState → OpenerCommand → Answer → Type 0
IsFair old (request.Outbound seed) (Opened peer group i) =
    IsTry i × IsLateIfRecent old.machine ToKeep seed peer i
    × (is_passed old.rules ToKeep old.machine.tables peer i ≡ false)
IsFair old (request.Feeler seed word) (Tested peer i) =
    let occupant = (clash_pick old.machine.tables word).answer in
    let machine = after_clash old.machine word in
    IsTry i × IsLateIfRecent machine (ToTest occupant) seed peer i
    × (is_passed old.rules (ToTest occupant) machine.tables peer i ≡ false)
IsFair old asked answer = Unit {0}
