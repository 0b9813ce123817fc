-- The generated log: the random words that it uses, and its lines. The generator is xoshiro256++ as
-- in rand_xoshiro.
use Rattle.std.specs.Prelude.{ℕ, zero, suc, ◌+◌, ◌-◌, ◌/◌, ◌%◌, ◌^◌, List, [], ◌∷◌, ◌++◌, length, nat_lt, codes, decimal, if◌then◌else◌}
use Rattle.hex.specs.Hex.{encode_lower}
use Rattle.rand_xoshiro.specs.Xoshiro256.{plus_plus, of_seed}
use Rattle.rand_xoshiro.specs.SplitMix64.{splitmix_seed}
use Rattle.net_addr.specs.Address.{Address}
use Rattle.net_addr.specs.OldForm.{address}
use Rattle.net_addr.specs.Text.{addr_text, peer_text}
use Rattle.net_addr.specs.declared.peer.Entry.{Entry}
use Rattle.net_addr.specs.declared.net.Net.TheVariants.{Ipv4}
use Rattle.net_addr.specs.declared.peer.Peer.{Peer}
use Rattle.addr_codecs.specs.Texts.{message_text, addr_entry_text}
use Rattle.gen_load.specs.declared.kind.Kind.{Kind}
use Rattle.gen_load.specs.declared.kind.Kind.TheVariants as kind
use Rattle.gen_load.specs.declared.position.Position.{Position}

-- where the log of a number begins: with the generator that has this seed
-- (`Xoshiro256PlusPlus::seed_from_u64` of Rust's rand_xoshiro)
abbrev pub beginning : ℕ → Position
beginning start = record { generator = of_seed (splitmix_seed 32 start); time = 1700000000 }

-- the next random word, modulo n
unfoldable pub draw : ℕ → Position → ℕ
draw n at = (plus_plus at.generator).0 % n

-- the position after a random word
unfoldable pub past : Position → Position
past at = record { generator = (plus_plus at.generator).1; time = at.time }

-- the peers: 64 first bytes with 256 second bytes each
abbrev pub peer_of : ℕ → Peer
peer_of j = record { addr = address Ipv4 ((20 + j % 64) ∷ j / 64 ∷ 1 ∷ 1 ∷ []); port = 8333 }

-- One of the peers, by a random word.
abbrev pub draw_peer : Position → Peer
draw_peer at = peer_of (draw 16384 at)

-- an entry, which was seen within a day; the first word is for its time, the second for its peer
abbrev pub draw_entry : Position → Entry
draw_entry at = record { time = at.time - draw 86400 at; services = 1; peer = draw_peer (past at) }

-- A number of entries, each by two random words.
abbrev pub draw_entries : ℕ → Position → List Entry
draw_entries zero at = []
draw_entries (suc n) at = draw_entry at ∷ draw_entries n (past (past at))

-- The position after a number of entries.
abbrev pub past_entries : ℕ → Position → Position
past_entries zero at = at
past_entries (suc n) at = past_entries n (past (past at))

-- the text of a line without its line feed, and the position after it
pub record Drawn : Type 0 where
  pub text : List ℕ
  pub after : Position

-- This text, and this position after it.
abbrev pub drawn : List ℕ → Position → Drawn
drawn text after = record { text = text; after = after }

-- the clock goes on by one second to ten minutes
abbrev pub later : Position → Position
later at = record { generator = (past at).generator; time = at.time + (1 + draw 600 at) }

-- A line `now`, with the clock moved.
abbrev pub clock_line : Position → Drawn
clock_line at = drawn (codes "now " ++ decimal (later at).time) (later at)

-- a line about a peer, between two texts
abbrev pub peer_line : List ℕ → List ℕ → Position → Drawn
peer_line word end at = drawn (word ++ peer_text (draw_peer at) ++ end) (past at)

-- an `addr` message from a source, with a seed for one random word an entry
abbrev pub message_line : Address → List Entry → ℕ → List ℕ
message_line source entries seed =
    codes "addr " ++ addr_text source ++ codes " "
    ++ encode_lower (message_text addr_entry_text entries) ++ codes " @" ++ decimal seed
    ++ codes ":"
    ++ decimal (length entries)

-- a source, the number of entries, the entries, and the seed
abbrev pub addr_line : Position → Drawn
addr_line at =
    let source = (draw_peer at).addr in
    let count = 1 + draw 4 (past at) in
    let first = past (past at) in
    let end = past_entries count first in
    drawn (message_line source (draw_entries count first) (draw (2 ^ 32) end)) (past end)

-- A line `select`, with a seed for its random words.
abbrev pub select_line : Position → Drawn
select_line at =
    drawn (codes "select any all @" ++ decimal (draw (2 ^ 32) at) ++ codes ":" ++ decimal 300)
    (past at)

-- A line `clash`, with a random word.
abbrev pub clash_line : Position → Drawn
clash_line at = drawn (codes "clash " ++ decimal (draw (2 ^ 32) at)) (past at)

-- the kind of line for each of sixteen numbers
abbrev pub kind_of : ℕ → Kind
kind_of n =
    if nat_lt n 2 then kind.Now
    else if nat_lt n 9 then kind.Addr
    else if nat_lt n 11 then kind.Good
    else if nat_lt n 12 then kind.Attempt
    else if nat_lt n 13 then kind.Connected
    else if nat_lt n 14 then kind.Select
    else if nat_lt n 15 then kind.Clash
    else kind.Resolve

-- The line of a kind.
abbrev pub line_of : Kind → Position → Drawn
line_of kind.Now at = clock_line at
line_of kind.Addr at = addr_line at
line_of kind.Good at = peer_line (codes "good ") (codes " test") at
line_of kind.Attempt at = peer_line (codes "attempt ") (codes " count") at
line_of kind.Connected at = peer_line (codes "connected ") [] at
line_of kind.Select at = select_line at
line_of kind.Clash at = clash_line at
line_of kind.Resolve at = drawn (codes "resolve") at

-- the next line: first its kind, then what it needs
unfoldable pub drawn_line : Position → Drawn
drawn_line at = line_of (kind_of (draw 16 at)) (past at)

-- this many lines, each with its line feed
abbrev pub drawn_lines : ℕ → Position → List (List ℕ)
drawn_lines zero at = []
drawn_lines (suc n) at = ((drawn_line at).text ++ 10 ∷ []) ∷ drawn_lines n (drawn_line at).after

-- this many lines, the first of which sets the clock and draws nothing
abbrev pub whole_log : ℕ → Position → List (List ℕ)
whole_log zero at = []
whole_log (suc n) at = (codes "now " ++ decimal at.time ++ 10 ∷ []) ∷ drawn_lines n at

-- the log of a number with this many lines
abbrev pub log : ℕ → ℕ → List (List ℕ)
log start lines = whole_log lines (beginning start)

-- the next line of those that are to come; none is left at the end
abbrev pub next_line : List (List ℕ) → List ℕ
next_line [] = []
next_line (line ∷ lines) = line

-- The lines after the next one.
abbrev pub lines_after : List (List ℕ) → List (List ℕ)
lines_after [] = []
lines_after (line ∷ lines) = lines
