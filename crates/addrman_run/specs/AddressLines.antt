-- What is printed of each address of a log, and how that ends.
use Rattle.std.specs.Prelude.{◌≡◌, ℕ, ◌+◌, List, Option}
use Rattle.asmap_vm.specs.Asmap.{Asmap}
use Rattle.grammar.specs.declared.fault.LineFault.{LineFault}
use Rattle.grammar.specs.declared.fault.LineFault.TheVariants.{Peer}
use Rattle.host_io.specs.Lines.{IsPassedOver}
use Rattle.host_io.specs.Outside.{Outside}
use Rattle.host_io.specs.Past.{Past}
use Rattle.host_io.specs.Reading.{TakesAtMost}
use Rattle.log_run.specs.Run.{Streams}
use Rattle.log_run.specs.declared.run.LogEnd.{LogEnd}
use Rattle.log_run.specs.declared.sizes.TheConstants.{MAX_LOG}
use Rattle.names.specs.Text.{IsTextOf}
use Rattle.net_addr.specs.Address.{Address}
use Rattle.addrman_run.specs.Address.{address_text}
use Rattle.addrman_run.specs.Asmaps.{IsMapIn, IsNoMap}
use Rattle.addrman_run.specs.EachLine.{Answered}
use Rattle.addrman_run.specs.Log.{LogOutcome, streams_of}
use Rattle.addrman_run.specs.Replay.{IsUntouched}
use Rattle.addrman_run.specs.declared.status.Status.{Status}

-- the line is neither passed over nor what people write for an address
abbrev pub HasAddressFault : List ℕ → LineFault → Type 0
HasAddressFault line fault =
    ¬ IsPassedOver line × (fault ≡ Peer) × ((a : Address) → ¬ IsTextOf line a)

-- A run over the log under the folder's asmap, or none if there is no such file, by its end, in
-- which what is known of each address is written.
pub record Described (past : Option Past) (old new : Streams) (how : LogEnd) : Type 0 where
  pub map : Option Asmap
  pub has_map : IsMapIn past map
  pub answered : Answered IsTextOf address_text HasAddressFault map old new how

-- how it ends, by its status
abbrev pub AddressLinesOutcome : Outside → Outside → Status → Type 0
AddressLinesOutcome old new =
    LogOutcome (Described old.past (streams_of old) (streams_of new))
    (λ answer. IsNoMap old.past answer × IsUntouched old new)

-- How `address -` ends: its outcome by its status. No file is changed, and at most one byte more
-- than a log may have is read.
pub record AddressLinesEnds (old new : Outside) (answer : Status) : Type 0 where
  pub outcome : AddressLinesOutcome old new answer
  pub taken : TakesAtMost old.left new.left (MAX_LOG + 1)
  pub past : new.past ≡ old.past
