-- The text of which part of the picks falls to each group.
use Rattle.std.specs.Prelude.{◌≡◌, ℕ, ◌/◌, ◌%◌, List, [], ◌++◌, Bool, true, false, Option, Some, None, codes, count_by, decimal, is_some, not, slice_get}
use Rattle.std.specs.List.{flat_map, range_with_len}
use Rattle.std.specs.List.Sorted.{IsPermutation, IsSortedBy}
use Rattle.net_addr.specs.declared.net.Net.{Net}
use Rattle.net_addr.specs.declared.net.Net.TheVariants.{Unroutable, Ipv4, Ipv6, Onion, I2p, Cjdns, Internal}
use Rattle.peer_rec.specs.Rec.{is_tried, network}
use Rattle.peer_rec.specs.declared.rec.Rec.{Rec}
use Rattle.table_groups.specs.Names.{name_of}
use Rattle.table_groups.specs.Slots.{some_in}
use Rattle.table_groups.specs.View.{View, occupant_at}
use Rattle.placing.specs.Places.{Places}
use Rattle.table_machine.specs.Picks.{bucket_count}
use Rattle.table_risk.specs.Rows.{comes_before, rows_of}
use Rattle.table_risk.specs.declared.by.By.{By}
use Rattle.table_risk.specs.declared.by.By.TheVariants.{Source, Peer, Network}
use Rattle.table_risk.specs.declared.rows.Row.{Row}

-- the last four decimal digits
unfoldable pub four_digits : ℕ → List ℕ
four_digits n =
    decimal (n / 1000 % 10)
    ++ (decimal (n / 100 % 10) ++ (decimal (n / 10 % 10) ++ decimal (n % 10)))

-- a label, and a part of a million in percent
unfoldable pub part_text : List ℕ → ℕ → List ℕ
part_text label part =
    label ++ (decimal (part / 10000)
    ++ (codes "." ++ (four_digits (part % 10000) ++ codes " %")))

-- The word before the name of a group.
abbrev pub word_of : By → List ℕ
word_of Source = codes "source "
word_of Peer = codes "peer "
word_of Network = codes "network "

-- The name of a network.
abbrev pub network_name : Net → List ℕ
network_name Unroutable = codes "not routable"
network_name Ipv4 = codes "ipv4"
network_name Ipv6 = codes "ipv6"
network_name Onion = codes "onion"
network_name I2p = codes "i2p"
network_name Cjdns = codes "cjdns"
network_name Internal = codes "internal"

-- how people write the group of a record
abbrev pub name_by : By → Places → Rec → List ℕ
name_by Source places r = name_of places r.source
name_by Peer places r = name_of places r.peer.addr
name_by Network places r = network_name (network r)

-- The name of the group of a record; empty if there is none.
abbrev pub name_in : By → Places → Option Rec → List ℕ
name_in by places None = []
name_in by places (Some r) = name_by by places r

-- The shares of a group in percent, with a line feed.
unfoldable pub parts_text : ℕ → ℕ → ℕ → List ℕ
parts_text picks new tried =
    part_text (codes ": picks ") picks
    ++ (part_text (codes " new ") new ++ (part_text (codes " tried ") tried ++ codes "\n"))

-- the line of a group, with the name of its first record's
unfoldable pub row_text : Places → By → List Rec → Row → List ℕ
row_text places by recs row =
    word_of by
    ++ (name_in by places (slice_get recs row.first) ++ parts_text row.picks row.new row.tried)

-- how many buckets of a table have a record
unfoldable pub used_buckets : View → Bool → ℕ
used_buckets view in_new =
    count_by (λ bucket. some_in is_some (occupant_at view in_new bucket))
    (range_with_len 0 (bucket_count in_new))

-- a label, and a number of each table
unfoldable pub numbers_text : List ℕ → ℕ → ℕ → List ℕ
numbers_text label new tried =
    label ++ ((codes " new " ++ decimal new) ++ (codes " tried " ++ decimal tried))

-- the first line
unfoldable pub heading : ℕ → ℕ → ℕ → ℕ → List ℕ
heading new tried new_buckets tried_buckets =
    numbers_text (codes "peers") new tried
    ++ (numbers_text (codes " buckets") new_buckets tried_buckets ++ codes "\n")

-- the first line: how many records and used buckets the tables have
abbrev pub heading_of : View → List ℕ
heading_of view =
    heading (count_by (λ r. not (is_tried r)) view.records) (count_by is_tried view.records)
    (used_buckets view true) (used_buckets view false)

-- The text at a time: how many records and used buckets the tables have, and the rows of all
-- groups, those with more picks first, and of two with as many the one with the lower bytes.
pub record IsRiskText (view : View) (by : By) (now : ℕ) (text : List ℕ) : Type 0 where
  pub rows : List Row
  pub all : IsPermutation (rows_of view by now) rows
  pub order : IsSortedBy comes_before rows
  pub is : text ≡ heading_of view ++ flat_map (row_text view.places by view.records) rows
