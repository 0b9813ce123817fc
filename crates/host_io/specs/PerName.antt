-- One value for each name of a file.
use Rattle.host_io.specs.declared.name.Name.{Name}
use Rattle.host_io.specs.declared.name.Name.TheVariants.{Peers, PeersTemp, Asmap, AsmapTemp, AsmapOld, Prefixes, Bans, BansTemp}
use Rattle.host_io.specs.declared.name.PerName.{PerName}

-- The value of a name.
abbrev pub under : {T : Type 0} → PerName T → Name → T
under all Peers = all.peers
under all PeersTemp = all.peers_temp
under all Asmap = all.asmap
under all AsmapTemp = all.asmap_temp
under all AsmapOld = all.asmap_old
under all Prefixes = all.prefixes
under all Bans = all.bans
under all BansTemp = all.bans_temp

-- The values with another one under a name.
abbrev pub with : {T : Type 0} → PerName T → Name → T → PerName T
with all Peers value = record all { peers = value }
with all PeersTemp value = record all { peers_temp = value }
with all Asmap value = record all { asmap = value }
with all AsmapTemp value = record all { asmap_temp = value }
with all AsmapOld value = record all { asmap_old = value }
with all Prefixes value = record all { prefixes = value }
with all Bans value = record all { bans = value }
with all BansTemp value = record all { bans_temp = value }

-- The values of a function, name by name.
abbrev pub each : {S T : Type 0} → (S → T) → PerName S → PerName T
each f all = record {
  peers = f all.peers;
  peers_temp = f all.peers_temp;
  asmap = f all.asmap;
  asmap_temp = f all.asmap_temp;
  asmap_old = f all.asmap_old;
  prefixes = f all.prefixes;
  bans = f all.bans;
  bans_temp = f all.bans_temp;
}
