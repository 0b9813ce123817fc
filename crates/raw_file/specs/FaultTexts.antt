-- The text for each fault of a listing.
use Rattle.std.specs.Prelude.{ℕ, List, ◌++◌, codes, decimal}
use Rattle.raw_read.specs.declared.raw.Field.{Field}
use Rattle.raw_read.specs.declared.raw.Field.TheVariants.{Address, Port, Services, Time, Source}
use Rattle.raw_read.specs.declared.raw.RawFault.{RawFault}
use Rattle.raw_read.specs.declared.raw.RawFault.TheVariants as raw
use Rattle.raw_read.specs.declared.raw.RawTable.{RawTable}
use Rattle.raw_read.specs.declared.raw.RawTable.TheVariants.{New, Tried}
use Rattle.raw_file.specs.declared.fault.ListingFault.{ListingFault}
use Rattle.raw_file.specs.declared.fault.ListingFault.TheVariants.{Text, Again, Memory}

-- The word for a table.
abbrev pub table_word : RawTable → List ℕ
table_word New = codes "new"
table_word Tried = codes "tried"

-- The word for a member of a record.
abbrev pub field_word : Field → List ℕ
field_word Address = codes "address"
field_word Port = codes "port"
field_word Services = codes "services"
field_word Time = codes "time"
field_word Source = codes "source"

-- the name of a member is no slot
abbrev pub member_text : RawTable → ℕ → List ℕ
member_text table index = table_word table ++ codes " member " ++ decimal index ++ codes ": slot"

-- a slot, and what is wrong there
abbrev pub slot_text : RawTable → ℕ → ℕ → List ℕ → List ℕ
slot_text table bucket position word =
    table_word table ++ codes "/" ++ decimal bucket ++ codes "/" ++ decimal position
    ++ codes ": " ++ word

-- The text of a fault of a listing as such.
abbrev pub raw_fault_text : RawFault → List ℕ
raw_fault_text raw.Json = codes "json"
raw_fault_text raw.Form = codes "form"
raw_fault_text (raw.Slot table index) = member_text table index
raw_fault_text (raw.Row table bucket position field) =
    slot_text table bucket position (field_word field)
raw_fault_text raw.TooLarge = codes "too-large"
raw_fault_text raw.Memory = codes "out of memory"

-- The text of a fault of a listing that is made into a file.
abbrev pub listing_fault_text : ListingFault → List ℕ
listing_fault_text (Text fault) = raw_fault_text fault
listing_fault_text (Again table bucket position) =
    slot_text table bucket position (codes "again")
listing_fault_text Memory = codes "out of memory"
