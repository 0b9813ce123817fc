-- The records of a listing have addresses.
use Rattle.std.proofs.Common.{ℕ, ◌+◌, ◌==◌, Bool, true, false, List, [], ◌∷◌, length, Option, Some, None, refl, sym, ap, subst, arith, inl, inr}
use Rattle.std.specs.Prelude.{IfSome, if◌then◌else◌, option_map, slice_index, ⊤}
use Rattle.std.specs.Int.{w32, w128, to_be_bytes}
use Rattle.names.specs.Name.{IsName, flipped}
use Rattle.names.specs.Name.IsName.{colons, dotted, lettered}
use Rattle.net_addr.proofs.Bytes.{All_bytes, IsAddress-from_v1, IsAddress-plain}
use Rattle.net_addr.proofs.Words.{AllBytes-high_first}
use Rattle.net_addr.specs.Address.{Address, IsAddress}
use Rattle.net_addr.specs.OldForm.{address, from_v1}
use Rattle.net_addr.specs.declared.net.Net.{Net}
use Rattle.net_addr.specs.declared.net.Net.TheVariants.{Ipv4, Ipv6, Cjdns}
use Rattle.peer_rec.specs.declared.rec.Rec.{Rec}
use Rattle.placing.specs.Places.{Places}
use Rattle.raw_read.specs.Fields.{IsPlainText, IsRawName}
use Rattle.raw_read.specs.Raw.{IsRaw}
use Rattle.raw_read.specs.Rows.{AreRows, IsRow, Member, slot_number}
use Rattle.raw_read.specs.declared.raw.Raw.{Raw}
use Rattle.raw_read.specs.declared.raw.RawRow.{RawRow}
use Rattle.raw_read.specs.declared.raw.RawTable.{RawTable}
use Rattle.raw_read.specs.declared.raw.RawTable.TheVariants.{New, Tried}
use Rattle.raw_view.proofs.Named.{named}
use Rattle.raw_view.specs.Listed.{rec_of, row_in, slot_in, slots_of, view_of}
use Rattle.table_groups.specs.View.{occupant_at}

-- sixteen bytes in the old form
old-address : (bits : ℕ) → IsAddress (from_v1 (to_be_bytes w128 bits))
old-address bits = IsAddress-from_v1 (to_be_bytes w128 bits) refl (All_bytes (to_be_bytes w128 bits) (AllBytes-high_first 16 bits))

cjdns-or : (b : Bool) (bytes : List ℕ) → IsAddress (address Ipv6 bytes) → IsAddress (if b then address Cjdns bytes else address Ipv6 bytes)
cjdns-or true bytes h = IsAddress-plain Cjdns bytes (λ e. cc) (λ e. cc) h.length h.bytes
cjdns-or false bytes h = h

flipped-by : (net : Net) (bytes : List ℕ) → IsAddress (address net bytes) → IsAddress (flipped (address net bytes))
flipped-by Ipv6 bytes h = cjdns-or (slice_index bytes 0 == 0xfc) bytes h
flipped-by other bytes h = h

flipped-address : (a : Address) → IsAddress a → IsAddress (flipped a)
flipped-address a h = flipped-by a.net a.bytes h

-- a text that parses as an address is that of one
name-address : (text : List ℕ) (a : Address) → IsName text a → IsAddress a
name-address text a (dotted h) = subst IsAddress (sym h.address) (IsAddress-plain Ipv4 (to_be_bytes w32 h.bits) (λ e. cc) (λ e. cc) refl (All_bytes (to_be_bytes w32 h.bits) (AllBytes-high_first 4 h.bits)))
name-address text a (colons h) = subst IsAddress (sym h.address) (flipped-address (from_v1 (to_be_bytes w128 h.bits)) (old-address h.bits))
name-address text a (lettered net is h) = h.stem_letters.own

plain-address : (text : List ℕ) (a : Address) → IsPlainText text a → IsAddress a
plain-address text a h = subst IsAddress (sym h.address) (old-address h.bits)

raw-address : (local : Bool) (text : List ℕ) (a : Address) → IsRawName local text a → IsAddress a
raw-address false text a h = name-address text a h
raw-address true text a (inl h) = plain-address text a h
raw-address true text a (inr h) = name-address text a h.1

-- the source of a row and its peer have addresses
abbrev HasBoth : RawRow → Type 0
HasBoth row = IsAddress row.rec.source × IsAddress row.rec.peer.addr

abbrev AllHave : List RawRow → Type 0
AllHave [] = ⊤
AllHave (row ∷ rows) = HasBoth row × AllHave rows

row-has : (table : RawTable) (m : Member) (row : RawRow) → IsRow table m row → HasBoth row
row-has table m row is =
    (raw-address _ is.rec.source.text row.rec.source is.rec.source.named, raw-address _ is.rec.address.text row.rec.peer.addr is.rec.address.named)

rows-have : (table : RawTable) (from : ℕ) (ms : List Member) (rows : List RawRow) → AreRows table from ms rows → AllHave rows
unfolding AreRows
rows-have table from [] [] are = tt
rows-have table from [] (row ∷ rows) are = absurd (omega (arith, ap length are))
rows-have table from (m ∷ ms) [] are = absurd are
rows-have table from (m ∷ ms) (row ∷ rows) are = (row-has table m row are.0, rows-have table (slot_number row.bucket row.position + 1) ms rows are.2)

row-or : (b : Bool) (row : RawRow) (o : Option RawRow) → HasBoth row → IfSome o HasBoth → IfSome (if b then Some row else o) HasBoth
row-or true row o h k = h
row-or false row o h k = k

found-has : (rows : List RawRow) (n : ℕ) → AllHave rows → IfSome (row_in rows n) HasBoth
found-has [] n all = tt
found-has (row ∷ rows) n all = row-or (slot_number row.bucket row.position == n) row (row_in rows n) all.0 (found-has rows n all.1)

as-rec : (table : RawTable) (o : Option RawRow) → IfSome o HasBoth → IfSome (option_map (rec_of table) o) (λ r. IsAddress r.source × IsAddress r.peer.addr)
as-rec table None h = tt
as-rec table (Some row) h = h

slot-has : (table : RawTable) (ms : List Member) (rows : List RawRow) (bucket position : ℕ) → AreRows table 0 ms rows
    → IfSome (slot_in (slots_of table rows) bucket position) (λ r. IsAddress r.source × IsAddress r.peer.addr)
slot-has table ms rows bucket position are =
    subst (λ (o : Option Rec). IfSome o (λ r. IsAddress r.source × IsAddress r.peer.addr)) (sym (named table ms rows bucket position are))
    (as-rec table (row_in rows (slot_number bucket position)) (found-has rows (slot_number bucket position) (rows-have table 0 ms rows are)))

pub listed-peers : (places : Places) (bytes : List ℕ) (raw : Raw) → IsRaw bytes raw → (in_new : Bool) (bucket slot : ℕ)
    → IfSome (occupant_at (view_of places raw) in_new bucket slot) (λ r. IsAddress r.source × IsAddress r.peer.addr)
listed-peers places bytes raw is true bucket slot = slot-has New is.new raw.new bucket slot is.new_rows
listed-peers places bytes raw is false bucket slot = slot-has Tried is.tried raw.tried bucket slot is.tried_rows
