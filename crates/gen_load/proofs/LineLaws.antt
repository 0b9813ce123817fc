-- Each line of a log is short, and spells exactly one command.
use Rattle.std.proofs.Common.{◌≡◌, ◌≢◌, ◌-◌, ◌∙◌, subst, sym, All, get_or, map, not, slice_index, take, append_assoc, ◌≤◌, ◌<◌, ◌^◌, ℕ, zero, suc, ◌+◌, ◌*◌, ◌/◌, ◌%◌, List, [], ◌∷◌, ◌++◌, length, true, false, Bool, codes, decimal, refl, ap, arith}
use Rattle.std.specs.Prelude.{◌==◌}
use Rattle.std.specs.List.{concat, flat_map, list_all}
use Rattle.std.proofs.Math.Seq.{take-append_seam}
use Rattle.std.proofs.lemmas.Bool.{both_ways, ne_eqb}
use Rattle.std.proofs.lemmas.List.Sums.{AllPass-from_list_all}
use Rattle.std.proofs.lemmas.List.Elements.{All-append, All-cons, All-head, All-nil, All-tail}
use Rattle.host_io.specs.Lines.{lines_of}
use Rattle.net_addr.specs.NetBits.{each_below}
use Rattle.grammar.proofs.WordLemmas.{decimal-lacks}
use Rattle.std.proofs.lemmas.Fmt.{length-decimal-le}
use Rattle.std.proofs.lemmas.List.{length-append}
use Rattle.hex.specs.Hex.{encode_lower, encode_with, lower_digits}
use Rattle.hex.proofs.HexLemmas.{length-encode_with}
use Rattle.wire_num.specs.CompactSize.{compact_size}
use Rattle.net_addr.specs.Text.{addr_text, peer_text}
use Rattle.addr_codecs.specs.Texts.{message_text, addr_entry_text}
use Rattle.log_lines.proofs.OneMeaning.{one_command}
use Rattle.gen_load.specs.declared.position.Position.{Position}
use Rattle.gen_load.specs.declared.kind.Kind.{Kind}
use Rattle.gen_load.specs.declared.kind.Kind.TheVariants as kind
use Rattle.gen_load.specs.Inside.{IsInTime, lines_left}
use Rattle.gen_load.specs.Spelling.{AreLines, IsGenLine, without_feed}
use Rattle.net_addr.specs.declared.peer.Entry.{Entry}
use Rattle.net_addr.specs.declared.net.Net.TheVariants.{Ipv4}
use Rattle.gen_load.specs.Log.{draw, past, past_entries, peer_of, draw_entry, draw_entries, message_line, line_of, kind_of, drawn_line, drawn_lines, next_line, whole_log}
use Rattle.gen_load.proofs.Lines.{past-time, drawn_line-time}
use Rattle.gen_load.proofs.Spelled.{HasCommand, draw-small, drawn_line_spells, entries_bytes, entries_length, few_size, now_spells, peer_drawn}

-- how long a text may be
sum-length : (a b : List ℕ) (m n : ℕ) → length a ≤ m → length b ≤ n → length (a ++ b) ≤ m + n
sum-length a b m n h k = let both = length-append a b in omega (arith, both, h, k)

byte-length : (n : ℕ) → n < 256 → length (decimal n) ≤ 3
byte-length n small = length-decimal-le 3 n (omega arith) (omega (arith, small)) (omega (arith, small))

word-length : (n : ℕ) → n < 2 ^ 32 → length (decimal n) ≤ 10
word-length n small = length-decimal-le 10 n (omega arith) (omega (arith, small)) (omega (arith, small))

digit-length : (n : ℕ) → n < 10 → length (decimal n) ≤ 1
digit-length n small = length-decimal-le 1 n (omega arith) small (omega (arith, small))

addr-length : (j : ℕ) → j < 16384 → length (addr_text (peer_of j).addr) ≤ 15
addr-length j small =
    let a = decimal (20 + j % 64) in
    let b = decimal (j / 64) in
    let one = decimal 1 in
    let last = sum-length one (46 ∷ one) 3 4 (byte-length 1 (omega arith)) (let h = byte-length 1 (omega arith) in omega (arith, h)) in
    let three = sum-length b (46 ∷ (one ++ 46 ∷ one)) 3 8 (byte-length (j / 64) (omega (arith, small))) (omega (arith, last)) in
    sum-length a (46 ∷ (b ++ 46 ∷ (one ++ 46 ∷ one))) 3 12 (byte-length (20 + j % 64) (omega arith)) (omega (arith, three))

peer-length : (j : ℕ) → j < 16384 → length (peer_text (peer_of j)) ≤ 26
peer-length j small =
    sum-length (addr_text (peer_of j).addr ++ codes ":") (decimal 8333) 16 10 (sum-length (addr_text (peer_of j).addr) (codes ":") 15 1 (addr-length j small) (omega arith))
    (word-length 8333 (omega arith))

entries-length : (n : ℕ) (at : Position) → length (flat_map addr_entry_text (draw_entries n at)) ≤ 30 * n
unfolding addr_entry_text
entries-length zero at = omega arith
entries-length (suc n) at =
    let rest = entries-length n (past (past at)) in
    let first : length (addr_entry_text (draw_entry at)) ≡ 30 = refl in
    let both = length-append (addr_entry_text (draw_entry at)) (flat_map addr_entry_text (draw_entries n (past (past at)))) in
    omega (arith, rest, first, both)

-- each entry has an IPv4 address
pub are_ipv4 : (n : ℕ) (at : Position) → All (λ (e : Entry). e.peer.addr.net ≡ Ipv4) (draw_entries n at)
are_ipv4 zero at = All-nil (λ (e : Entry). e.peer.addr.net ≡ Ipv4)
are_ipv4 (suc n) at = All-cons (λ (e : Entry). e.peer.addr.net ≡ Ipv4) (draw_entry at) (draw_entries n (past (past at))) refl (are_ipv4 n (past (past at)))

pub message-short : (n : ℕ) (at : Position) → n < 5 → length (message_text addr_entry_text (draw_entries n at)) ≤ 121
message-short n at few =
    let entries = draw_entries n at in
    let many = entries_length n at in
    let size : length (compact_size (length entries)) ≡ 1 = ap length (few_size (length entries) (omega (arith, many, few))) in
    let own = entries-length n at in
    let both = length-append (compact_size (length entries)) (flat_map addr_entry_text entries) in
    omega (arith, size, own, both, few)

payload-length : (n : ℕ) (at : Position) → n < 5 → length (encode_lower (message_text addr_entry_text (draw_entries n at))) ≤ 242
payload-length n at few =
    let twice = length-encode_with lower_digits (message_text addr_entry_text (draw_entries n at)) in
    omega (arith, message-short n at few, twice)

message-length : (j seed n : ℕ) (at : Position) → j < 16384 → seed < 2 ^ 32 → n < 5 → length (message_line (peer_of j).addr (draw_entries n at) seed) ≤ 299
message-length j seed n at small low few =
    let source = addr_text (peer_of j).addr in
    let digits = encode_lower (message_text addr_entry_text (draw_entries n at)) in
    let many = entries_length n at in
    let a = codes "addr " ++ source in
    let b = a ++ codes " " in
    let c = b ++ digits in
    let d = c ++ codes " @" in
    let e = d ++ decimal seed in
    let f = e ++ codes ":" in
    let la = sum-length (codes "addr ") source 5 15 (omega arith) (addr-length j small) in
    let lb = sum-length a (codes " ") 20 1 la (omega arith) in
    let lc = sum-length b digits 21 242 lb (payload-length n at few) in
    let ld = sum-length c (codes " @") 263 2 lc (omega arith) in
    let le = sum-length d (decimal seed) 265 10 ld (word-length seed low) in
    let lf = sum-length e (codes ":") 275 1 le (omega arith) in
    let all = sum-length f (decimal (length (draw_entries n at))) 276 1 lf (digit-length (length (draw_entries n at)) (omega (arith, many, few))) in
    omega (arith, all)

about-length : (word end : List ℕ) (j : ℕ) → j < 16384 → length word ≤ 20 → length end ≤ 20 → length (word ++ peer_text (peer_of j) ++ end) ≤ 299
about-length word end j small first last =
    let all = sum-length (word ++ peer_text (peer_of j)) end 46 20 (sum-length word (peer_text (peer_of j)) 20 26 first (peer-length j small)) last in
    omega (arith, all)

clock-length : (time : ℕ) → time < 2 ^ 32 → length (codes "now " ++ decimal time) ≤ 299
clock-length time small = let all = sum-length (codes "now ") (decimal time) 4 10 (omega arith) (word-length time small) in omega (arith, all)

line-length : (k : Kind) (at : Position) → at.time < 2 ^ 31 → length (line_of k at).text ≤ 299
line-length kind.Now at early = clock-length (at.time + (1 + draw 600 at)) (omega (arith, early, draw-small 600 at (omega arith)))
line-length kind.Addr at early =
    let count = 1 + draw 4 (past at) in
    let first = past (past at) in
    message-length (draw 16384 at) (draw (2 ^ 32) (past_entries count first)) count first (peer_drawn at) (draw-small (2 ^ 32) (past_entries count first) (omega arith))
    (omega (arith, draw-small 4 (past at) (omega arith)))
line-length kind.Good at early = about-length (codes "good ") (codes " test") (draw 16384 at) (peer_drawn at) (omega arith) (omega arith)
line-length kind.Attempt at early = about-length (codes "attempt ") (codes " count") (draw 16384 at) (peer_drawn at) (omega arith) (omega arith)
line-length kind.Connected at early = about-length (codes "connected ") [] (draw 16384 at) (peer_drawn at) (omega arith) (omega arith)
line-length kind.Select at early =
    let word = draw (2 ^ 32) at in
    let a = sum-length (codes "select any all @") (decimal word) 16 10 (omega arith) (word-length word (draw-small (2 ^ 32) at (omega arith))) in
    let b = sum-length (codes "select any all @" ++ decimal word) (codes ":") 26 1 a (omega arith) in
    let all = sum-length (codes "select any all @" ++ decimal word ++ codes ":") (decimal 300) 27 10 b (word-length 300 (omega arith)) in
    omega (arith, all)
line-length kind.Clash at early =
    let word = draw (2 ^ 32) at in
    let all = sum-length (codes "clash ") (decimal word) 6 10 (omega arith) (word-length word (draw-small (2 ^ 32) at (omega arith))) in
    omega (arith, all)
line-length kind.Resolve at early = omega arith

drawn-length : (at : Position) → at.time < 2 ^ 31 → length (drawn_line at).text ≤ 299
unfolding drawn_line
drawn-length at early = line-length (kind_of (draw 16 at)) (past at) (omega (arith, early, past-time at))

-- a text without a line feed
abbrev is_other : ℕ → Bool
is_other b = not (b == 10)

abbrev Lacks : List ℕ → Type 0
Lacks text = All (λ b. is_other b ≡ true) text

lacks-append : (a b : List ℕ) → Lacks a → Lacks b → Lacks (a ++ b)
lacks-append a b h k = All-append (λ c. is_other c ≡ true) a b h k

decimal-no_feed : (n : ℕ) → n < 2 ^ 64 → Lacks (decimal n)
decimal-no_feed n small =
    let h = decimal-lacks 10 n small (λ d low high e. omega (arith, low, e)) in
    λ i d lt. ap not (h i d lt)

digits-lack : (bytes : List ℕ) → All (λ b. b < 256) bytes → Lacks (encode_with lower_digits bytes)
unfolding encode_with
digits-lack [] h = All-nil (λ b. is_other b ≡ true)
digits-lack (b ∷ bytes) h =
    let small = All-head (λ c. c < 256) b bytes h in
    let digit = each_below (λ d. is_other (slice_index lower_digits d)) 16 refl in
    All-cons (λ c. is_other c ≡ true) (slice_index lower_digits (b / 16)) (slice_index lower_digits (b % 16) ∷ encode_with lower_digits bytes) (digit (b / 16) (omega (arith, small)))
    (All-cons (λ c. is_other c ≡ true) (slice_index lower_digits (b % 16)) (encode_with lower_digits bytes) (digit (b % 16) (omega arith))
    (digits-lack bytes (All-tail (λ c. c < 256) b bytes h)))

addr-lacks : (j : ℕ) → j < 16384 → Lacks (addr_text (peer_of j).addr)
addr-lacks j small =
    let one = decimal-no_feed 1 (omega arith) in
    let dot = λ (text : List ℕ) (h : Lacks text). All-cons (λ c. is_other c ≡ true) 46 text refl h in
    let third = lacks-append (decimal 1) (46 ∷ decimal 1) one (dot (decimal 1) one) in
    let second = lacks-append (decimal (j / 64)) (46 ∷ (decimal 1 ++ 46 ∷ decimal 1)) (decimal-no_feed (j / 64) (omega (arith, small))) (dot (decimal 1 ++ 46 ∷ decimal 1) third) in
    lacks-append (decimal (20 + j % 64)) (46 ∷ (decimal (j / 64) ++ 46 ∷ (decimal 1 ++ 46 ∷ decimal 1))) (decimal-no_feed (20 + j % 64) (omega arith))
    (dot (decimal (j / 64) ++ 46 ∷ (decimal 1 ++ 46 ∷ decimal 1)) second)

peer-lacks : (j : ℕ) → j < 16384 → Lacks (peer_text (peer_of j))
peer-lacks j small =
    lacks-append (addr_text (peer_of j).addr ++ codes ":") (decimal 8333)
    (lacks-append (addr_text (peer_of j).addr) (codes ":") (addr-lacks j small) (AllPass-from_list_all is_other (codes ":") refl)) (decimal-no_feed 8333 (omega arith))

word-lacks : (n : ℕ) → n < 2 ^ 32 → Lacks (decimal n)
word-lacks n small = decimal-no_feed n (omega (arith, small))

about-lacks : (word end : List ℕ) (j : ℕ) → j < 16384 → list_all is_other word ≡ true → list_all is_other end ≡ true → Lacks (word ++ peer_text (peer_of j) ++ end)
about-lacks word end j small first last =
    lacks-append (word ++ peer_text (peer_of j)) end (lacks-append word (peer_text (peer_of j)) (AllPass-from_list_all is_other word first) (peer-lacks j small)) (AllPass-from_list_all is_other end last)

number-lacks : (word : List ℕ) (n : ℕ) → n < 2 ^ 32 → list_all is_other word ≡ true → Lacks (word ++ decimal n)
number-lacks word n small first = lacks-append word (decimal n) (AllPass-from_list_all is_other word first) (word-lacks n small)

payload-lacks : (n : ℕ) (at : Position) → n < 5 → Lacks (encode_lower (message_text addr_entry_text (draw_entries n at)))
payload-lacks n at few =
    let entries = draw_entries n at in
    let many = entries_length n at in
    let size = few_size (length entries) (omega (arith, many, few)) in
    digits-lack (message_text addr_entry_text entries)
    (subst (λ s. All (λ b. b < 256) (s ++ flat_map addr_entry_text entries)) (sym size) (All-cons (λ b. b < 256) (length entries) _ (omega (arith, many, few)) (entries_bytes n at)))

message-lacks : (j seed n : ℕ) (at : Position) → j < 16384 → seed < 2 ^ 32 → n < 5 → Lacks (message_line (peer_of j).addr (draw_entries n at) seed)
message-lacks j seed n at small low few =
    let source = addr_text (peer_of j).addr in
    let digits = encode_lower (message_text addr_entry_text (draw_entries n at)) in
    let many = entries_length n at in
    let a = codes "addr " ++ source in
    let b = a ++ codes " " in
    let c = b ++ digits in
    let d = c ++ codes " @" in
    let e = d ++ decimal seed in
    let la = lacks-append (codes "addr ") source (AllPass-from_list_all is_other (codes "addr ") refl) (addr-lacks j small) in
    let lb = lacks-append a (codes " ") la (AllPass-from_list_all is_other (codes " ") refl) in
    let lc = lacks-append b digits lb (payload-lacks n at few) in
    let ld = lacks-append c (codes " @") lc (AllPass-from_list_all is_other (codes " @") refl) in
    let le = lacks-append d (decimal seed) ld (word-lacks seed low) in
    let lf = lacks-append e (codes ":") le (AllPass-from_list_all is_other (codes ":") refl) in
    lacks-append (e ++ codes ":") (decimal (length (draw_entries n at))) lf (word-lacks (length (draw_entries n at)) (omega (arith, many, few)))

line-lacks : (k : Kind) (at : Position) → at.time < 2 ^ 31 → Lacks (line_of k at).text
line-lacks kind.Now at early = number-lacks (codes "now ") (at.time + (1 + draw 600 at)) (omega (arith, early, draw-small 600 at (omega arith))) refl
line-lacks kind.Addr at early =
    let count = 1 + draw 4 (past at) in
    let first = past (past at) in
    message-lacks (draw 16384 at) (draw (2 ^ 32) (past_entries count first)) count first (peer_drawn at) (draw-small (2 ^ 32) (past_entries count first) (omega arith))
    (omega (arith, draw-small 4 (past at) (omega arith)))
line-lacks kind.Good at early = about-lacks (codes "good ") (codes " test") (draw 16384 at) (peer_drawn at) refl refl
line-lacks kind.Attempt at early = about-lacks (codes "attempt ") (codes " count") (draw 16384 at) (peer_drawn at) refl refl
line-lacks kind.Connected at early = about-lacks (codes "connected ") [] (draw 16384 at) (peer_drawn at) refl refl
line-lacks kind.Select at early =
    let first = number-lacks (codes "select any all @") (draw (2 ^ 32) at) (draw-small (2 ^ 32) at (omega arith)) refl in
    lacks-append (codes "select any all @" ++ decimal (draw (2 ^ 32) at) ++ codes ":") (decimal 300)
    (lacks-append (codes "select any all @" ++ decimal (draw (2 ^ 32) at)) (codes ":") first (AllPass-from_list_all is_other (codes ":") refl)) (word-lacks 300 (omega arith))
line-lacks kind.Clash at early = number-lacks (codes "clash ") (draw (2 ^ 32) at) (draw-small (2 ^ 32) at (omega arith)) refl
line-lacks kind.Resolve at early = AllPass-from_list_all is_other (codes "resolve") refl

drawn-lacks : (at : Position) → at.time < 2 ^ 31 → Lacks (drawn_line at).text
unfolding drawn_line
drawn-lacks at early = line-lacks (kind_of (draw 16 at)) (past at) (omega (arith, early, past-time at))

-- a text with its line feed
line_of_text : (text : List ℕ) → length text ≤ 299 → Lacks text → HasCommand text → IsGenLine (text ++ 10 ∷ [])
line_of_text text few lacks h =
    let whole = length-append text (10 ∷ []) in
    record {
      text = text;
      whole = refl;
      one_line = λ i d lt e. both_ways (is_other (get_or text i d)) (ap is_other e) (lacks i d lt);
      short = omega (arith, whole, few);
      command = h.0;
      spells = h.2;
      only = λ other spells. one_command text other h.0 spells h.2;
      drawn = h.1;
    }

first-is_line : (at : Position) (left : ℕ) → IsInTime at.time left → IsGenLine (codes "now " ++ decimal at.time ++ 10 ∷ [])
first-is_line at left in_time =
    line_of_text (codes "now " ++ decimal at.time) (clock-length at.time (omega (arith, in_time.early)))
    (number-lacks (codes "now ") at.time (omega (arith, in_time.early)) refl) (now_spells at.time (omega (arith, in_time.early)))

drawn-is_line : (at : Position) (left : ℕ) → IsInTime at.time left → IsGenLine ((drawn_line at).text ++ 10 ∷ [])
drawn-is_line at left in_time =
    line_of_text (drawn_line at).text (drawn-length at (omega (arith, in_time.early)))
    (drawn-lacks at (omega (arith, in_time.early))) (drawn_line_spells at (omega (arith, in_time.early)))

drawn_lines-are : (n : ℕ) (at : Position) → IsInTime at.time n → AreLines (drawn_lines n at)
drawn_lines-are zero at in_time = tt
drawn_lines-are (suc n) at in_time =
    let on = drawn_line-time at in (
      drawn-is_line at (suc n) in_time,
      drawn_lines-are n (drawn_line at).after (record { late = omega (arith, in_time.late, on.least); early = omega (arith, in_time.early, on.most) }),
    )

pub log-is_lines : (n : ℕ) (at : Position) → IsInTime at.time n → AreLines (whole_log n at)
log-is_lines zero at in_time = tt
log-is_lines (suc n) at in_time =
    (first-is_line at (suc n) in_time, drawn_lines-are n at (record { late = in_time.late; early = omega (arith, in_time.early) }))

-- the next line of those that are to come, if there is one
pub next-is_line : (begun : Bool) (left : ℕ) (at : Position) → IsInTime at.time left → lines_left begun left at ≢ [] → IsGenLine (next_line (lines_left begun left at))
next-is_line true zero at in_time some = absurd (some refl)
next-is_line false zero at in_time some = absurd (some refl)
next-is_line true (suc left) at in_time some = drawn-is_line at (suc left) in_time
next-is_line false (suc left) at in_time some = first-is_line at (suc left) in_time

-- all lines together
drawn_lines-count : (n : ℕ) (at : Position) → length (drawn_lines n at) ≡ n
drawn_lines-count zero at = refl
drawn_lines-count (suc n) at = ap suc (drawn_lines-count n (drawn_line at).after)

pub log-count : (n : ℕ) (at : Position) → length (whole_log n at) ≡ n
log-count zero at = refl
log-count (suc n) at = ap suc (drawn_lines-count n at)

pub all-short : (lines : List (List ℕ)) → AreLines lines → length (concat lines) ≤ 300 * length lines
all-short [] are = omega arith
all-short (line ∷ lines) are =
    let rest = all-short lines are.1 in
    let first = are.0.short in
    let both = length-append line (concat lines) in
    omega (arith, rest, first, both)

-- the bytes of all lines are cut into them
lines-whole : (text rest : List ℕ) → All (λ b. b ≢ 10) text → lines_of (text ++ 10 ∷ rest) ≡ text ∷ lines_of rest
unfolding lines_of
lines-whole [] rest h = refl
lines-whole (b ∷ text) rest h =
    let other = ne_eqb b 10 (All-head (λ c. c ≢ 10) b text h) in
    let later = lines-whole text rest (All-tail (λ c. c ≢ 10) b text h) in
    rw (other, later) refl

feed-off : (text : List ℕ) → without_feed (text ++ 10 ∷ []) ≡ text
feed-off text =
    let long = length-append text (10 ∷ []) in
    let same : length (text ++ 10 ∷ []) - 1 ≡ length text = omega (arith, long) in
    ap (λ n. take n (text ++ 10 ∷ [])) same ∙ take-append_seam text (10 ∷ [])

pub all-cut : (lines : List (List ℕ)) → AreLines lines → lines_of (concat lines) ≡ map without_feed lines
unfolding lines_of
all-cut [] are = refl
all-cut (line ∷ lines) are =
    let l = are.0 in
    let rest = all-cut lines are.1 in
    ap (λ t. lines_of (t ++ concat lines)) l.whole ∙ ap lines_of (append_assoc l.text (10 ∷ []) (concat lines))
    ∙ lines-whole l.text (concat lines) l.one_line ∙ (λ i. sym (feed-off l.text) i ∷ rest i) ∙ ap (λ t. without_feed t ∷ map without_feed lines) (sym l.whole)
