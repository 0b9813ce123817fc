-- The text of each reply, with its line feed.
use Rattle.std.specs.Prelude.{ℕ, List, [], ◌∷◌, ◌++◌, length, map, Bool, true, false, Option, Some, None, codes, decimal}
use Rattle.std.specs.List.{flat_map, join_with_byte}
use Rattle.net_addr.specs.Text.{addr_text, peer_text}
use Rattle.net_addr.specs.declared.peer.Peer.{Peer}
use Rattle.addr_codecs.specs.declared.fault.MsgFault.{MsgFault}
use Rattle.addr_codecs.specs.declared.fault.MsgFault.TheVariants as msg
use Rattle.peer_rec.specs.declared.answers.Good as good
use Rattle.peer_rec.specs.declared.answers.Counts.{Counts}
use Rattle.peer_rec.specs.declared.answers.Picked as picked
use Rattle.peer_rec.specs.declared.answers.Resolved.{Resolved}
use Rattle.peer_rec.specs.declared.rec.Rec.{Rec}
use Rattle.peer_rec.specs.declared.place.Place.{Place}
use Rattle.peer_rec.specs.declared.place.Place.TheVariants.{New, Tried}
use Rattle.log_lines.specs.declared.reply.Reply.{Reply}
use Rattle.log_lines.specs.declared.reply.Reply.TheVariants as r

-- numbers with commas between them
abbrev pub numbers_text : List ℕ → List ℕ
numbers_text numbers = join_with_byte 44 (map decimal numbers)

-- the table that a record is in, and its buckets in the new table
abbrev pub place_text : Place → List ℕ
place_text Tried = codes " tried"
place_text (New buckets) = codes " new " ++ numbers_text buckets

-- a peer and its source
abbrev pub origin_text : Rec → List ℕ
origin_text r = codes "peer " ++ peer_text r.peer ++ codes " source " ++ addr_text r.source

-- when a peer was last seen, and the services that it offers
abbrev pub seen_text : Rec → List ℕ
seen_text r = codes " time " ++ decimal r.time ++ codes " services " ++ decimal r.services

-- when a peer was reached and tried, and how often it failed since
abbrev pub tries_text : Rec → List ℕ
tries_text r =
    codes " success " ++ decimal r.last_success ++ codes " try " ++ decimal r.last_try
    ++ codes " attempts " ++ decimal r.attempts

-- a record on one line
abbrev pub rec_text : Rec → List ℕ
rec_text r = origin_text r ++ seen_text r ++ tries_text r ++ place_text r.place

-- The reply to `find`.
abbrev pub found_text : Option Rec → List ℕ
found_text None = codes "unknown"
found_text (Some r) = rec_text r

-- the word for each fault of a message
abbrev pub fault_text : MsgFault → List ℕ
fault_text msg.Truncated = codes "truncated"
fault_text msg.NonCanonical = codes "non-canonical"
fault_text msg.TooMany = codes "too-many"
fault_text msg.BadLength = codes "bad-length"
fault_text msg.TooLong = codes "too-long"
fault_text msg.Trailing = codes "trailing"
fault_text msg.Memory = codes "out of memory"

-- The reply to `good`.
abbrev pub good_text : good.Good → List ℕ
good_text good.TheVariants.Unknown = codes "unknown"
good_text good.TheVariants.Already = codes "already"
good_text good.TheVariants.Clash = codes "clash"
good_text good.TheVariants.Moved = codes "moved"

-- The reply of `attempt`, `connected` and `services`: whether the peer is known.
abbrev pub known_text : Bool → List ℕ
known_text true = codes "ok"
known_text false = codes "unknown"

-- a peer and a time after a word
abbrev pub timed_text : List ℕ → Peer → ℕ → List ℕ
timed_text word peer time = word ++ peer_text peer ++ codes " " ++ decimal time

-- The reply to `select`.
abbrev pub picked_text : picked.Picked → List ℕ
picked_text (picked.TheVariants.One peer last_try) = timed_text (codes "one ") peer last_try
picked_text picked.TheVariants.Nothing = codes "nothing"
picked_text picked.TheVariants.Exhausted = codes "exhausted"

-- The reply to `size`.
abbrev pub size_text : Counts → List ℕ
size_text counts =
    codes "size new " ++ decimal counts.new_count ++ codes " tried " ++ decimal counts.tried_count
    ++ codes " clashes " ++ decimal counts.clashes

-- The reply to `resolve`.
abbrev pub resolved_text : Resolved → List ℕ
resolved_text r =
    codes "resolved erased " ++ decimal r.erased ++ codes " moved " ++ decimal r.moved
    ++ codes " kept " ++ decimal r.kept

-- how many peers there are, and each after a space
abbrev pub sample_text : List Peer → List ℕ
sample_text peers =
    codes "sample " ++ decimal (length peers) ++ flat_map (λ p. codes " " ++ peer_text p) peers

-- The reply to `clash`.
abbrev pub clash_text : Option (Peer × ℕ) → List ℕ
clash_text None = codes "none"
clash_text (Some p) = timed_text (codes "clash ") p.0 p.1

-- each record on a line of its own, and how many there are
abbrev pub dump_text : List Rec → List ℕ
dump_text records =
    flat_map (λ q. rec_text q ++ codes "\n") records ++ codes "end " ++ decimal (length records)

-- A reply without its line feed.
abbrev pub reply_line : Reply → List ℕ
reply_line (r.Now time) = codes "now " ++ decimal time
reply_line (r.Added accepted total) =
    codes "added " ++ decimal accepted ++ codes " of " ++ decimal total
reply_line (r.Refused fault) = codes "refused " ++ fault_text fault
reply_line (r.Short need have) = codes "short " ++ decimal need ++ codes " " ++ decimal have
reply_line (r.Good answer) = good_text answer
reply_line (r.Known known) = known_text known
reply_line (r.Found found) = found_text found
reply_line (r.Size counts) = size_text counts
reply_line (r.Picked answer) = picked_text answer
reply_line (r.Sample peers) = sample_text peers
reply_line (r.Resolved answer) = resolved_text answer
reply_line (r.Clash found) = clash_text found
reply_line (r.Dump records) = dump_text records
reply_line r.Saved = codes "saved"
reply_line r.NotSaved = codes "not saved"
reply_line r.Busy = codes "busy"
reply_line r.NoSave = codes "no save"
reply_line (r.Begun size) = codes "begun " ++ decimal size
reply_line (r.Stepped left) = codes "stepped " ++ decimal left

-- A reply with its line feed.
unfoldable pub reply_text : Reply → List ℕ
reply_text reply = reply_line reply ++ 10 ∷ []
