-- The folder's asmap, and the lines about it.
use Rattle.std.proofs.Common.{◌≡◌, ◌≤◌, List, ℕ, length, subst, sym}
use Rattle.std.specs.Prelude.{Option, Some, None, IfSome, MatchOption}
use Rattle.bit_code.specs.declared.bits.TheConstants.{MAX_ASMAP}
use Rattle.host_io.specs.Past.{Past}
use Rattle.host_io.specs.declared.name.Name.{Name}
use Rattle.host_io.specs.declared.name.Name.TheVariants as name
use Rattle.asmap_vm.specs.Asmap.{Asmap}
use Rattle.asmap_vm.specs.Code.{Tree, IsSaneFile}
use Rattle.asmap_vm.specs.Held.{bytes_held, tree_held}
use Rattle.asmap_vm.specs.declared.sane.Sane.{Sane}
use Rattle.asmap_vm.specs.declared.fault.CodeFault.{CodeFault}
use Rattle.asmap_vm.specs.declared.fault.CodeFault.TheVariants.{Insane}
use Rattle.placing.specs.Inside.{asmap_of}
use Rattle.addrman_run.specs.Asmaps.{IsMapAt, IsMapIn, IsNoMap, RefusesAsmap}
use Rattle.addrman_run.specs.InFolder.{IsAbsent, IsFileIn}
use Rattle.addrman_run.specs.Inside.{IsMapOf, IsLoaded}
use Rattle.addrman_run.specs.Opening.{IsUnopened}
use Rattle.addrman_run.specs.declared.status.Status.{Status}
use Rattle.addrman_run.specs.declared.status.Status.TheVariants.{AsmapRefused, DiskFault, Memory}
use Rattle.peers_file.specs.declared.chain.Chain.{Chain}
use Rattle.addrman_run.specs.declared.input.Input.TheVariants as input

-- the asmap in the bytes that were loaded is the folder's
pub map_in : (past : Option Past) (loaded : Option (List ℕ)) (map : Option Asmap) →
    MatchOption loaded (IsAbsent name.Asmap past) (IsLoaded input.Asmap past) → IsMapOf loaded map → IsMapIn past map
map_in past None None found is = found
map_in past None (Some m) found is = absurd is
map_in past (Some bytes) None found is = absurd is
map_in past (Some bytes) (Some m) found is = (subst (IsFileIn name.Asmap MAX_ASMAP past) (sym is.0) found, is.1)

-- bytes that are no asmap are refused
pub refuses : (past : Option Past) (loaded : Option (List ℕ)) (fault : CodeFault) →
    MatchOption loaded (IsAbsent name.Asmap past) (IsLoaded input.Asmap past) →
    (fault ≡ Insane) × ((b : List ℕ) × (loaded ≡ Some b) × ((t : Tree) → ¬ IsSaneFile t b)) → RefusesAsmap past fault
refuses past loaded fault found why =
    subst (RefusesAsmap past) (sym why.0)
    (why.1.0, subst (λ o. MatchOption o (IsAbsent name.Asmap past) (IsLoaded input.Asmap past)) why.1.1 found, why.1.2)

-- without an asmap no tables are opened
pub unmapped : (key : Option (List ℕ)) (chain : Chain) (past : Option Past) (status : Status) → IsNoMap past status → IsUnopened key chain past status
unmapped key chain past DiskFault why = tt
unmapped key chain past Memory why = tt
unmapped key chain past (AsmapRefused fault) why = why
unmapped key chain past other why = absurd why

-- what was loaded is within the limit
pub within : (past : Option Past) (loaded : Option (List ℕ)) →
    MatchOption loaded (IsAbsent name.Asmap past) (IsLoaded input.Asmap past) → IfSome loaded (λ b. length b ≤ MAX_ASMAP)
within past None found = tt
within past (Some bytes) found = found.0

-- the asmap that was checked is that of the file
pub checked_at : (file : Name) (past : Option Past) (s : Sane) (bytes : List ℕ) → IsFileIn file MAX_ASMAP past bytes →
    (bytes_held s ≡ bytes) × (length bytes ≤ MAX_ASMAP) × IsSaneFile (tree_held s) bytes → IsMapAt file past (asmap_of s)
checked_at file past s bytes found sane =
    (subst (IsFileIn file MAX_ASMAP past) (sym sane.0) found, subst (IsSaneFile (tree_held s)) (sym sane.0) sane.2)

-- the asmap that was checked is the folder's
pub checked : (past : Option Past) (s : Sane) (bytes : List ℕ) → IsLoaded input.Asmap past bytes →
    (bytes_held s ≡ bytes) × (length bytes ≤ MAX_ASMAP) × IsSaneFile (tree_held s) bytes → IsMapIn past (Some (asmap_of s))
checked past s bytes found sane = checked_at name.Asmap past s bytes found sane
