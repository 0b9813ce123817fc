-- The slots and records of tables, as `raw` prints them and `raw_read` reads them.
use Rattle.std.specs.Prelude.{◌≡◌, ℕ, ◌<◌, ◌^◌, List, [], ◌∷◌, All, Option, Some, None, slice_index, ⊤}
use Rattle.std.specs.List.{flat_map, range_with_len}
use Rattle.net_addr.specs.Address.{Address, IsAddress}
use Rattle.net_addr.specs.declared.net.Net.{Net}
use Rattle.net_addr.specs.declared.net.Net.TheVariants.{Cjdns}
use Rattle.node_json.specs.Raw.{raw_json, rec_at}
use Rattle.node_json.specs.Value.{IsJsonText}
use Rattle.node_json.specs.declared.table.Table.{Table}
use Rattle.node_json.specs.declared.table.Table.TheVariants.{New, Tried}
use Rattle.peer_rec.specs.declared.file_rec.FileRec.{FileRec}
use Rattle.peer_rec.specs.declared.rec.Rec.{Rec}
use Rattle.raw_read.specs.Rows.{buckets_of}
use Rattle.raw_read.specs.declared.raw.Raw.{Raw}
use Rattle.raw_read.specs.declared.raw.RawRow.{RawRow}
use Rattle.raw_read.specs.declared.raw.RawTable.{RawTable}
use Rattle.raw_read.specs.declared.raw.RawTable.TheVariants as read
use Rattle.slot_grid.specs.declared.sizes.TheConstants.{SLOTS}
use Rattle.table_machine.specs.State.{State}

-- what is printed of a record
abbrev pub printed_rec : Rec → FileRec
printed_rec r = record {
  peer = r.peer;
  source = r.source;
  time = r.time;
  services = r.services;
  last_success = 0;
  attempts = 0;
}

-- the row of a slot, if it is occupied
abbrev pub row_of : ℕ → ℕ → Option Rec → List RawRow
row_of bucket position None = []
row_of bucket position (Some r) =
    record { bucket = bucket; position = position; rec = printed_rec r } ∷ []

-- The rows of a bucket, by position.
abbrev pub bucket_rows : Table → State → ℕ → List RawRow
bucket_rows table st bucket =
    flat_map (λ position. row_of bucket position (rec_at table st bucket position))
    (range_with_len 0 SLOTS)

-- the table as it is named where it is read
abbrev pub table_of : Table → RawTable
table_of New = read.New
table_of Tried = read.Tried

-- The rows of a table, by bucket.
abbrev pub table_rows : Table → State → List RawRow
table_rows table st =
    flat_map (bucket_rows table st) (range_with_len 0 (buckets_of (table_of table)))

-- the slots of both tables with their records
abbrev pub raw_of : State → Raw
raw_of st = record { new = table_rows New st; tried = table_rows Tried st }

-- Bytes of CJDNS begin with fc, as the text of such an address does.
abbrev pub named_by : Net → List ℕ → Type 0
named_by Cjdns bytes = slice_index bytes 0 ≡ 0xfc
named_by other bytes = ⊤

-- An address of any network; of CJDNS one that is valid, as the name of another is that of an IPv6
-- address.
pub record HasRawName (a : Address) : Type 0 where
  pub address : IsAddress a
  pub own : named_by a.net a.bytes

-- what fits the fields of a record, with names that can be told apart
pub record IsPrintable (r : Rec) : Type 0 where
  pub addr : HasRawName r.peer.addr
  pub source : HasRawName r.source
  pub port : r.peer.port < 2 ^ 16
  pub services : r.services < 2 ^ 64
  pub time : r.time < 2 ^ 32

-- the text is that of the tables
pub record IsPrinted (st : State) (text : List ℕ) : Type 0 where
  pub records : All IsPrintable st.records
  pub json : IsJsonText (raw_json st) text
