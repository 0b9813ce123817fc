-- What a lookup writes, and how it ends.
use Rattle.std.specs.Prelude.{ℕ, List, ◌++◌, Some, codes, decimal}
use Rattle.hex.specs.Hex.{encode_lower}
use Rattle.host_io.specs.Outside.{Outside}
use Rattle.host_io.specs.declared.name.Name.TheVariants as name
use Rattle.net_addr.specs.Address.{Address}
use Rattle.net_addr.specs.declared.peer.Peer.{Peer}
use Rattle.net_group.specs.Group.{group_of}
use Rattle.asmap_vm.specs.Asmap.{Asmap}
use Rattle.placing.specs.Places.{asn}
use Rattle.addrman_run.specs.Asmaps.{IsAsmapLine, ReportsAsmap}
use Rattle.addrman_run.specs.FileLine.{FileLineEnds}
use Rattle.addrman_run.specs.declared.status.Status.{Status}

-- an AS number and the group of an address under it
abbrev pub number_text : ℕ → Address → List ℕ
number_text number a =
    codes "asn " ++ decimal number
    ++ codes " group " ++ encode_lower (group_of a number) ++ codes "\n"

-- the number that an asmap gives an address, and its group
unfoldable pub lookup_text : Asmap → Address → List ℕ
lookup_text m a = number_text (asn (Some m) a) a

-- How `lookup` ends: it writes the AS number and the group that asmap.dat gives the peer, or
-- reports that asmap.dat is absent or why it is refused. Nothing in the folder changes.
abbrev pub LookupEnds : Peer → Outside → Outside → Status → Type 0
LookupEnds peer = FileLineEnds name.Asmap (IsAsmapLine (λ m. lookup_text m peer.addr)) ReportsAsmap
