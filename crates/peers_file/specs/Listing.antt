-- The text that lists what a file has, a line each. Key and checksum are in the order of
-- the file's bytes.
use Rattle.std.specs.Prelude.{ℕ, Bool, true, false, List, [], ◌++◌, length, codes, decimal}
use Rattle.std.specs.List.{flat_map, enumerate_from}
use Rattle.hex.specs.Hex.{encode_lower}
use Rattle.net_addr.specs.Text.{addr_text, peer_text}
use Rattle.peer_rec.specs.declared.file_rec.FileRec.{FileRec}
use Rattle.peer_rec.specs.Snapshot.{Snapshot}

-- a record's peer and its source
abbrev pub origin_text : FileRec → List ℕ
origin_text r = codes " " ++ peer_text r.peer ++ codes " source " ++ addr_text r.source

-- when its peer was last seen, which services it offers, when it was last reached, and how often it
-- failed since
abbrev pub history_text : FileRec → List ℕ
history_text r =
    codes " time " ++ decimal r.time ++ codes " services " ++ decimal r.services
    ++ codes " success " ++ decimal r.last_success
    ++ codes " attempts " ++ decimal r.attempts

-- a record of a table, and its index
abbrev pub record_line : List ℕ → ℕ → FileRec → List ℕ
record_line table i r = table ++ decimal i ++ origin_text r ++ history_text r ++ codes "\n"

-- the records of a table, counted from 0
abbrev pub record_lines : List ℕ → List FileRec → List ℕ
record_lines table recs = flat_map (λ p. record_line table p.0 p.1) (enumerate_from 0 recs)

-- how many records of each table and how many buckets there are
abbrev pub totals_text : Snapshot → List ℕ
totals_text snap =
    codes "file new " ++ decimal (length snap.new_recs) ++ codes " tried "
    ++ decimal (length snap.tried_recs) ++ codes " buckets " ++ decimal snap.bucket_count

-- the key, if it is listed
abbrev pub key_text : Bool → Snapshot → List ℕ
key_text true snap = codes " key " ++ encode_lower snap.key
key_text false snap = []

-- the first line
abbrev pub summary_line : Bool → Snapshot → List ℕ
summary_line keyed snap =
    totals_text snap ++ key_text keyed snap ++ codes " sum " ++ encode_lower snap.sum ++ codes "\n"

-- the whole text, with the key or without it
unfoldable pub snapshot_text : Bool → Snapshot → List ℕ
snapshot_text keyed snap =
    summary_line keyed snap ++ record_lines (codes "new ") snap.new_recs
    ++ record_lines (codes "tried ") snap.tried_recs
