-- What an entry of a message is.
use Rattle.std.specs.Prelude.{◌<◌, ◌^◌}
use Rattle.net_addr.specs.Address.{IsAddress}
use Rattle.net_addr.specs.declared.peer.Entry.{Entry}

-- the parts of an entry fit their fields
pub record IsEntry (e : Entry) : Type 0 where
  pub time : e.time < 2 ^ 32
  pub services : e.services < 2 ^ 64
  pub addr : IsAddress e.peer.addr
  pub port : e.peer.port < 2 ^ 16
