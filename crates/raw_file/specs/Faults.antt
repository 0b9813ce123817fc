-- What the bytes of a listing are, or their fault.
use Rattle.std.specs.Prelude.{◌≡◌, ℕ, List, Some, None}
use Rattle.peer_rec.specs.Snapshot.{Snapshot}
use Rattle.raw_read.specs.Raw.{HasRawFault, IsRaw}
use Rattle.raw_read.specs.declared.raw.Raw.{Raw}
use Rattle.raw_file.specs.Listing.{first_fault, snapshot_of}
use Rattle.raw_file.specs.declared.fault.ListingFault.{ListingFault}
use Rattle.raw_file.specs.declared.fault.ListingFault.TheVariants.{Text}

-- the bytes list what the snapshot has, with this key and this checksum
abbrev pub IsListing : List ℕ → List ℕ → List ℕ → Snapshot → Type 0
IsListing key sum bytes snap =
    (raw : Raw) × IsRaw bytes raw × (first_fault raw ≡ None) × (snap ≡ snapshot_of key sum raw)

-- the bytes have this fault: one of the text, or a peer is there again
abbrev pub HasListingFault : List ℕ → ListingFault → Type 0
HasListingFault bytes (Text fault) = HasRawFault bytes fault
HasListingFault bytes other = (raw : Raw) × IsRaw bytes raw × (first_fault raw ≡ Some other)
