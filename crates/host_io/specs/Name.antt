-- The names of the files that a program keeps in its folder.
use Rattle.std.specs.Prelude.{ℕ, List, codes}
use Rattle.host_io.specs.declared.name.Name.{Name}
use Rattle.host_io.specs.declared.name.Name.TheVariants.{Peers, PeersTemp, Asmap, AsmapTemp, AsmapOld, Prefixes, Bans, BansTemp}

-- The file names: those of Bitcoin Core for the files that it has too (`peers.dat`,
-- `banlist.json`), our own for the others.
abbrev pub file_name_of : Name → List ℕ
file_name_of Peers = codes "peers.dat"
file_name_of PeersTemp = codes "peers.tmp"
file_name_of Asmap = codes "asmap.dat"
file_name_of AsmapTemp = codes "asmap.tmp"
file_name_of AsmapOld = codes "asmap.old"
file_name_of Prefixes = codes "prefixes.txt"
file_name_of Bans = codes "banlist.json"
file_name_of BansTemp = codes "banlist.tmp"
