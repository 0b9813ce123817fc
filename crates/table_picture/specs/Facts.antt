-- What a picture says of the tables beside its title: the chain, the date of the newest time of a
-- record in UTC, and the asmap.
use Rattle.std.specs.Prelude.{ℕ, ◌/◌, ◌==◌, List, ◌++◌, bytes_eq, codes, length, replicate, take, if◌then◌else◌}
use Rattle.hex.specs.Hex.{encode_lower}
use Rattle.peer_rec.specs.declared.rec.Rec.{Rec}
use Rattle.placing.specs.Places.{Places, sum_of}
use Rattle.table_groups.specs.View.{View}
use Rattle.table_picture.specs.By.{newest_in}
use Rattle.table_picture.specs.Date.{date_of, date_text}

-- days since 1 January 1970
abbrev pub newest_day : List Rec → ℕ
newest_day recs = newest_in recs / 86400

-- The date of the newest record.
abbrev pub newest_date : List Rec → List ℕ
newest_date recs = codes ", newest time " ++ date_text (date_of (newest_day recs))

-- The date of the newest record, or that there are no records.
abbrev pub newest_text : List Rec → List ℕ
newest_text recs = if length recs == 0 then codes ", no records" else newest_date recs

-- the first four bytes of the asmap's checksum, in the order of the file of peers; without an asmap
-- it is 32 zeros
abbrev pub asmap_text : List ℕ → List ℕ
asmap_text sum =
    if bytes_eq sum (replicate 32 0) then codes ", no asmap"
    else codes ", asmap " ++ encode_lower (take 4 sum)

-- The chain, the date of the newest record, and the asmap.
unfoldable pub facts_text : List ℕ → List Rec → Places → List ℕ
facts_text chain recs places =
    codes "chain " ++ (chain ++ (newest_text recs ++ asmap_text (sum_of places)))

-- The same of a view.
abbrev pub facts_of : List ℕ → View → List ℕ
facts_of chain view = facts_text chain view.records view.places
