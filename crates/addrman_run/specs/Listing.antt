-- A listing of the tables in the place of peers.dat, as `raw` and `getrawaddrman` print it.
use Rattle.std.specs.Prelude.{◌≡◌, ℕ, List, replicate, Option}
use Rattle.asmap_vm.specs.Asmap.{Asmap}
use Rattle.host_io.specs.Past.{Past}
use Rattle.host_io.specs.declared.name.Name.TheVariants as name
use Rattle.placing.specs.Places.{Places}
use Rattle.placing.specs.declared.sum.SumRule.TheVariants.{Bytes}
use Rattle.raw_file.specs.declared.fault.ListingFault.{ListingFault}
use Rattle.raw_file.specs.declared.fault.ListingFault.TheVariants.{Text}
use Rattle.raw_read.specs.Raw.{HasRawFault, IsRaw}
use Rattle.raw_read.specs.declared.raw.RawFault.TheVariants as raw
use Rattle.raw_read.specs.declared.read.TheConstants.{MAX_TEXT}
use Rattle.raw_read.specs.declared.raw.Raw.{Raw}
use Rattle.raw_view.specs.Listed.{view_of}
use Rattle.table_groups.specs.View.{View}
use Rattle.addrman_run.specs.Asmaps.{IsMapIn, RefusesAsmap}
use Rattle.addrman_run.specs.InFolder.{IsAbsent, IsFileIn, IsTooLarge}
use Rattle.addrman_run.specs.Opening.{HasMap, places_of}
use Rattle.addrman_run.specs.declared.status.Status.{Status}
use Rattle.addrman_run.specs.declared.status.Status.TheVariants as status

-- the slots and records of the listing, which has the name of peers.dat
abbrev pub IsRawIn : Option Past → Raw → Type 0
IsRawIn past raw =
    (bytes : List ℕ) × IsFileIn name.Peers MAX_TEXT past bytes × IsRaw bytes raw

-- A listing has no key, and 32 zeros are in its place: nothing that is made of its view depends on
-- a key, only on the asmap. The checksum of the asmap, which a picture's title shows, is our own,
-- also for a listing that `raw --core` or a node printed.
abbrev pub keyless_places : Option Asmap → Places
keyless_places map = places_of Bytes (replicate 32 0) map

-- the view is that of the listing, in which groups are those of the folder's asmap
pub record IsListed (past : Option Past) (view : View) : Type 0 where
  pub map : Option Asmap
  pub has_map : IsMapIn past map
  pub raw : Raw
  pub is_in : IsRawIn past raw
  pub is : view ≡ view_of (keyless_places map) raw

-- why the listing is refused: it is too large, or its text has this fault
abbrev pub RefusesRaw : Option Past → ListingFault → Type 0
RefusesRaw past (Text raw.TooLarge) = (size : ℕ) × IsTooLarge name.Peers MAX_TEXT past size
RefusesRaw past (Text raw.Memory) = ⊥
RefusesRaw past (Text fault) =
    (bytes : List ℕ) × IsFileIn name.Peers MAX_TEXT past bytes × HasRawFault bytes fault
RefusesRaw past other = ⊥

-- A status that says why there is no view of a listing. Files are looked at in this order:
-- asmap.dat, the listing.
abbrev pub ReportsListing : Option Past → Status → Type 0
ReportsListing past (status.AsmapRefused fault) = RefusesAsmap past fault
ReportsListing past (status.RawRefused fault) = HasMap past × RefusesRaw past fault
ReportsListing past (status.NoFile file) =
    (file ≡ name.Peers) × HasMap past × IsAbsent name.Peers past
ReportsListing past other = ⊥
