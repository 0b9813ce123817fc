-- Definitions for private contracts: short messages, and entries that are passed on.
use Rattle.std.specs.Prelude.{◌≢◌, ◌≤◌, List, length, All, Option, Result, Ok, Err}
use Rattle.net_addr.specs.declared.peer.Entry.{Entry}
use Rattle.net_addr.specs.declared.net.Net.TheVariants.{Internal}
use Rattle.addr_codecs.specs.declared.fault.MsgFault.{MsgFault}
use Rattle.addr_limit.specs.declared.command.Event.{Event}
use Rattle.addr_limit.specs.declared.command.Event.TheVariants.{Of}
use Rattle.addr_limit.specs.declared.command.LimitCommand.{LimitCommand}
use Rattle.addr_limit.specs.declared.command.LimitCommand.TheVariants.{Message}

-- a message has at most 1000 entries
abbrev pub IsShortRead : Result (List (Option Entry)) MsgFault → Type 0
IsShortRead (Ok entries) = length entries ≤ 1000
IsShortRead (Err fault) = Unit {0}

-- A request with a message has at most 1000 entries in it.
abbrev pub IsShort : LimitCommand → Type 0
IsShort (Message read words) = IsShortRead read
IsShort other = Unit {0}

-- An event with a message has at most 1000 entries in it.
abbrev pub IsShortEvent : Event → Type 0
IsShortEvent (Of number request) = IsShort request
IsShortEvent other = Unit {0}

-- entries that `write_addrv2` takes
pub record ArePassing (entries : List Entry) : Type 0 where
  pub count : length entries ≤ 1000
  pub networks : All (λ e. e.peer.addr.net ≢ Internal) entries
