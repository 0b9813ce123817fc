-- The file that a save command may put in the place of peers.dat.
use Rattle.std.specs.Prelude.{ℕ, List, Option, Some, None}
use Rattle.std.specs.Option.{option_map}
use Rattle.log_lines.specs.declared.command.Command.{Command}
use Rattle.log_lines.specs.declared.command.Command.TheVariants as command
use Rattle.peers_file.specs.Texts.{file_text}
use Rattle.peers_file.specs.declared.chain.Chain.{Chain}
use Rattle.save_store.specs.Job.{Job, whole}
use Rattle.table_machine.specs.Snapshot.{snapshot_of}
use Rattle.table_machine.specs.State.{State}

-- the file of peers that a save of the tables writes (`AddrManImpl::Serialize` in addrman.cpp of
-- Bitcoin Core)
abbrev pub file_of : Chain → State → List ℕ
file_of chain tables = file_text chain (snapshot_of tables)

-- the file, unless a save is open
abbrev pub unless : Option Job → List ℕ → Option (List ℕ)
unless None file = Some file
unless (Some job) file = None

-- the file that a command may put in the place of peers.dat, with the file of the tables
abbrev pub published : List ℕ → Option Job → Command → Option (List ℕ)
published file job command.Save = unless job file
published file job command.SaveEnd = option_map whole job
published file job other = None
