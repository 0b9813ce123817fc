-- Why a difference of two asmaps is not written.
use Rattle.std.proofs.Common.{ℕ, List, refl, sym, subst}
use Rattle.std.specs.Prelude.{Option, Some}
use Rattle.host_io.specs.Past.{Past}
use Rattle.host_io.specs.declared.name.Name.TheVariants as name
use Rattle.asmap_vm.specs.Asmap.{Asmap}
use Rattle.peers_file.specs.declared.chain.Chain.{Chain}
use Rattle.addrman_run.specs.Asmaps.{IsMapAt}
use Rattle.addrman_run.specs.Diff.{AreMapsIn, IsDifference, LacksFile, ReportsDiff}
use Rattle.addrman_run.specs.Inside.{IsLoaded, IsNoDifference, IsNoRecords, IsNoSnapshot, IsNotLoaded}
use Rattle.addrman_run.specs.TextOut.{TextOut}
use Rattle.addrman_run.specs.declared.input.Input.TheVariants as input
use Rattle.addrman_run.specs.declared.peers_fault.PeersFault.TheVariants.{File}
use Rattle.addrman_run.specs.declared.status.Status.{Status}
use Rattle.addrman_run.specs.declared.status.Status.TheVariants.{Done, WriteFault, DiskFault, Memory, NoFile, PeersRefused}
use Rattle.addrman_run.proofs.Inputs.{not_loaded}
use Rattle.addrman_run.proofs.Showing.{too_large}

-- there is no text
pub nothing_out : (peers : Option Chain) (past : Option Past) (written : Option (List ℕ)) (status : Status) → IsNoDifference peers past status
    → TextOut (IsDifference peers) (ReportsDiff peers) past written written status
nothing_out peers past written Done why = absurd why
nothing_out peers past written WriteFault why = absurd why
nothing_out peers past written DiskFault why = refl
nothing_out peers past written Memory why = refl
nothing_out peers past written other why = (why, refl)

-- asmap.old was not loaded
pub no_old_map : (peers : Option Chain) (past : Option Past) (status : Status) → IsNotLoaded input.AsmapOld past status → IsNoDifference peers past status
no_old_map peers past status why = not_loaded (IsNoDifference peers past) input.AsmapOld past status why (λ absent. absent) tt tt (λ size is. is)

-- asmap.dat was not loaded
pub no_new_map : (peers : Option Chain) (past : Option Past) (old : Asmap) (status : Status) → IsMapAt name.AsmapOld past old → IsNotLoaded input.Asmap past status
    → IsNoDifference peers past status
no_new_map peers past old status has why =
    not_loaded (IsNoDifference peers past) input.Asmap past status why (λ absent. ((old, has), absent)) tt tt (λ size is. ((old, has), is))

-- peers.dat was not loaded
pub no_peers : (chain : Chain) (past : Option Past) (status : Status) → IsNotLoaded input.Peers past status → IsNoRecords (Some chain) past status
no_peers chain past status why =
    not_loaded (IsNoRecords (Some chain) past) input.Peers past status why (λ absent. (refl, (chain, refl), absent)) tt tt (λ size is. (chain, refl, too_large chain past size is))

-- its bytes are no snapshot
pub no_snapshot : (chain : Chain) (past : Option Past) (bytes : List ℕ) (status : Status) → IsLoaded input.Peers past bytes → IsNoSnapshot chain bytes status
    → IsNoRecords (Some chain) past status
no_snapshot chain past bytes (PeersRefused (File fault)) loaded why = (chain, refl, (why.0, (bytes, loaded.1, why.1)))
no_snapshot chain past bytes Memory loaded why = tt
no_snapshot chain past bytes other loaded why = absurd why

-- there are no lines about its records
pub no_records : (peers : Option Chain) (past : Option Past) (old new : Asmap) (status : Status) → AreMapsIn past old new → IsNoRecords peers past status
    → IsNoDifference peers past status
no_records peers past old new DiskFault maps why = tt
no_records peers past old new Memory maps why = tt
no_records peers past old new (PeersRefused fault) maps why = ((old, new, maps), why)
no_records peers past old new (NoFile file) maps why = subst (LacksFile peers past) (sym why.0) ((old, new, maps), why.1, why.2)
no_records peers past old new other maps why = absurd why
