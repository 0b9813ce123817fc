-- Why there is no view of a listing.
use Rattle.std.proofs.Common.{ℕ, List, refl, inl, inr}
use Rattle.std.specs.Prelude.{◌⊎◌, Option}
use Rattle.host_io.specs.Past.{Past}
use Rattle.raw_file.specs.declared.fault.ListingFault.TheVariants.{Text}
use Rattle.raw_read.specs.Rows.{AreRows, HasTableFault, Member}
use Rattle.raw_read.specs.declared.raw.RawFault.TheVariants as raw
use Rattle.raw_read.specs.declared.raw.RawRow.{RawRow}
use Rattle.raw_read.specs.declared.raw.RawTable.TheVariants.{New, Tried}
use Rattle.addrman_run.specs.Inside.{IsLoaded, IsNoListing, IsNoRaw}
use Rattle.addrman_run.specs.Opening.{HasMap}
use Rattle.addrman_run.specs.declared.input.Input.TheVariants as input
use Rattle.addrman_run.specs.declared.status.Status.{Status}
use Rattle.addrman_run.specs.declared.status.Status.TheVariants.{Memory, RawRefused}

-- a text that was read is not too large
no-large : (new tried : List Member)
    → HasTableFault New new raw.TooLarge ⊎ ((rows : List RawRow) × AreRows New 0 new rows × HasTableFault Tried tried raw.TooLarge) → ⊥
no-large new tried (inl of_new) = of_new.cause
no-large new tried (inr of_tried) = of_tried.2.cause

-- the text of a listing that was loaded has a fault
pub not_listed : (past : Option Past) (bytes : List ℕ) (status : Status) → HasMap past → IsLoaded input.Listing past bytes
    → IsNoRaw bytes status → IsNoListing past status
not_listed past bytes (RawRefused (Text raw.TooLarge)) map found is = absurd (no-large is.1.new is.1.tried is.1.first)
not_listed past bytes (RawRefused (Text raw.Memory)) map found is = absurd (is.0 refl)
not_listed past bytes (RawRefused (Text fault)) map found is = (map, (bytes, found, is.1))
not_listed past bytes (RawRefused other) map found is = absurd is
not_listed past bytes Memory map found is = tt
not_listed past bytes other map found is = absurd is
