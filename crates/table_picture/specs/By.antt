-- The tables with the address that the colours of a picture go by in the place of each source, so
-- that the slots of one colour are those of one group.
use Rattle.std.specs.Prelude.{ℕ, ◌+◌, ◌-◌, ◌*◌, ◌/◌, ◌%◌, ◌==◌, nat_lt, List, ◌∷◌, map, fold, codes, option_map, replicate, slice_get, unwrap_or, Option, None, if◌then◌else◌}
use Rattle.std.specs.List.{range_with_len}
use Rattle.net_addr.specs.Address.{Address, net_number}
use Rattle.net_addr.specs.Text.{net_name}
use Rattle.net_addr.specs.declared.net.Net.TheVariants.{Internal}
use Rattle.peer_rec.specs.Rec.{network}
use Rattle.peer_rec.specs.declared.rec.Rec.{Rec}
use Rattle.picture_text.specs.declared.by.By.{By}
use Rattle.picture_text.specs.declared.by.By.TheVariants.{Network, Source, Group, Age}
use Rattle.placing.specs.Places.{Places}
use Rattle.slot_grid.specs.declared.sizes.TheConstants.{ALL_SLOTS, NEW_SLOTS, SLOTS}
use Rattle.table_groups.specs.Names.{name_of}
use Rattle.table_groups.specs.View.{View}

-- the newest time of the records, 0 without one
abbrev pub newest_in : List Rec → ℕ
newest_in recs = fold (λ newest r. if nat_lt newest r.time then r.time else newest) 0 recs

-- how much older a time is than the newest one: under 1 day, 3 days, 7 days, 4 weeks, or more
abbrev pub age_class : ℕ → ℕ → ℕ
age_class newest time =
    if nat_lt newest (time + 86400) then 0
    else if nat_lt newest (time + 259200) then 1
    else if nat_lt newest (time + 604800) then 2
    else if nat_lt newest (time + 2419200) then 3
    else 4

-- The name of an age.
abbrev pub age_name : ℕ → List ℕ
age_name class =
    if class == 0 then codes "under a day"
    else if class == 1 then codes "1 to 3 days"
    else if class == 2 then codes "3 to 7 days"
    else if class == 3 then codes "1 to 4 weeks"
    else codes "4 weeks or more"

-- an address of a group of its own that stands for a class (`CNetAddr::SetInternal` in
-- netaddress.cpp of Bitcoin Core makes such addresses of names)
abbrev pub class_address : ℕ → Address
class_address n = record { net = Internal; bytes = n ∷ replicate 9 0 }

-- the address whose group the colour of a record is
abbrev pub address_by : By → ℕ → Rec → Address
address_by Network newest r = class_address (net_number (network r))
address_by Source newest r = r.source
address_by Group newest r = r.peer.addr
address_by Age newest r = class_address (age_class newest r.time)

-- the name of that colour
abbrev pub name_by : By → ℕ → Places → Rec → List ℕ
name_by Network newest places r = net_name (network r)
name_by Source newest places r = name_of places r.source
name_by Group newest places r = name_of places r.peer.addr
name_by Age newest places r = age_name (age_class newest r.time)

-- The record with another source: an address of the group that its colour shows.
abbrev pub recoloured : By → ℕ → Rec → Rec
recoloured by newest r = record r { source = address_by by newest r }

-- the record in a slot; slots are counted by rising bucket, those of the new table first
abbrev pub rec_in : View → ℕ → Option Rec
rec_in view slot =
    if nat_lt slot NEW_SLOTS then view.new (slot / SLOTS) (slot % SLOTS)
    else if nat_lt slot ALL_SLOTS
    then view.tried ((slot - NEW_SLOTS) / SLOTS) ((slot - NEW_SLOTS) % SLOTS)
    else None

-- the records in all slots in this order, recoloured
abbrev pub slots_by : By → ℕ → View → List (Option Rec)
slots_by by newest view =
    map (λ slot. option_map (recoloured by newest) (rec_in view slot))
    (range_with_len 0 ALL_SLOTS)

-- the tables with these records in their slots
abbrev pub with_slots : View → List (Option Rec) → View
with_slots view slots = record {
  places = view.places;
  records = view.records;
  new = λ bucket slot. unwrap_or (slice_get slots (SLOTS * bucket + slot)) None;
  tried = λ bucket slot. unwrap_or (slice_get slots (NEW_SLOTS + (SLOTS * bucket + slot))) None;
}

-- The tables with such records.
abbrev pub view_by : By → ℕ → View → View
view_by by newest view = with_slots view (slots_by by newest view)
