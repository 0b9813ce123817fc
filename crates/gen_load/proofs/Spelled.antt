-- Each line spells a command that logs have.
use Rattle.std.proofs.Common.{◌≡◌, ◌≢◌, ◌≤◌, ◌<◌, ◌^◌, ℕ, zero, suc, ◌+◌, ◌-◌, ◌/◌, ◌%◌, List, [], ◌∷◌, ◌++◌, length, All, true, false, codes, decimal, slice_index, refl, sym, ap, ◌∙◌, subst, arith, inl, inr, rules, Some}
use Rattle.std.specs.Prelude.{◌==◌, Contains, IfSome, Option, map}
use Rattle.std.specs.Int.{w16, w32, w64, to_le_bytes, to_be_bytes, from_be_bytes}
use Rattle.std.specs.List.{slice_split, flat_map}
use Rattle.std.proofs.lemmas.List.Elements.{All-nil, All-cons, All-contains, All-append, All-head, All-tail, All-from_recursion}
use Rattle.std.proofs.lemmas.Bool.{ne_eqb, lt-ltb}
use Rattle.std.proofs.lemmas.List.{append-nil}
use Rattle.std.proofs.lemmas.List.Splits.{slice_split_at, slice_split_none}
use Rattle.hex.specs.Hex.{encode_lower, encode_with, lower_digits, hex_digit_value}
use Rattle.hex.proofs.HexLemmas.{decode_of-encode_lower, IsDigits-lower_digits}
use Rattle.wire_num.specs.CompactSize.{compact_size}
use Rattle.net_addr.proofs.Bytes.{AllBytes-All, IsAddress-plain}
use Rattle.net_addr.specs.NetBits.{each_below}
use Rattle.net_addr.specs.NetSet.{all}
use Rattle.net_addr.specs.Ranges.{in_range, is_routable}
use Rattle.net_addr.specs.Address.{mapped_prefix}
use Rattle.net_addr.specs.OldForm.{address}
use Rattle.net_addr.specs.Text.{addr_text, peer_text, ipv4_text, IsAddrText, IsPeerText, dotted}
use Rattle.net_addr.specs.declared.peer.Entry.{Entry}
use Rattle.net_addr.specs.declared.net.Net.TheVariants.{Ipv4}
use Rattle.net_addr.proofs.Texts.{bits_of_bytes}
use Rattle.addr_codecs.specs.Inside.{addr_entry_at, message_at}
use Rattle.addr_codecs.specs.Layout.{addr_entry, message}
use Rattle.addr_codecs.specs.Texts.{message_text, addr_entry_text}
use Rattle.addr_codecs.specs.declared.fault.MsgFault.TheVariants.{Trailing}
use Rattle.addr_codecs.proofs.MessageLaws.{Reads-addr_entry, Reads-message}
use Rattle.addr_codecs.proofs.TextLaws.{FitsAddr, of_addr_entry, of_message}
use Rattle.wire_num.proofs.ReadingLaws.{AreBytes-all, one_meaning}
use Rattle.grammar.specs.Fields.{AreWords}
use Rattle.random_words.specs.Seeded.{seeded_words}
use Rattle.log_lines.specs.Spelling.{SpellsCommand}
use Rattle.log_lines.specs.declared.command.Command.{Command}
use Rattle.log_lines.specs.declared.command.Command.TheVariants as command
use Rattle.grammar.proofs.WordLemmas.{decimal-lacks}
use Rattle.gen_load.specs.declared.position.Position.{Position}
use Rattle.gen_load.specs.declared.kind.Kind.{Kind}
use Rattle.gen_load.specs.declared.kind.Kind.TheVariants as kind
use Rattle.gen_load.specs.Spelling.{HasRoutablePeers, IsDrawn}
use Rattle.gen_load.specs.Log.{draw, past, past_entries, peer_of, draw_entry, draw_entries, message_line, line_of, kind_of, drawn_line}
use Rattle.gen_load.proofs.Lines.{past-time}

-- a text with no space
abbrev pub IsField : List ℕ → Type 0
IsField text = All (λ b. (b == 32) ≡ false) text

field-cons : (b : ℕ) (text : List ℕ) → (b == 32) ≡ false → IsField text → IsField (b ∷ text)
field-cons b text h rest = All-cons (λ c. (c == 32) ≡ false) b text h rest

field-nil : IsField []
field-nil = All-nil (λ b. (b == 32) ≡ false)

field-append : (a b : List ℕ) → IsField a → IsField b → IsField (a ++ b)
field-append a b h k = All-append (λ c. (c == 32) ≡ false) a b h k

decimal-field : (n : ℕ) → n < 2 ^ 64 → IsField (decimal n)
decimal-field n small = decimal-lacks 32 n small (λ d low high e. omega (arith, low, e))

pub draw-small : (n : ℕ) (at : Position) → 0 < n → draw n at < n
unfolding draw
draw-small n at some = search (rules, some)

-- the four bytes of a peer's address
abbrev pub bytes_of : ℕ → List ℕ
bytes_of j = (20 + j % 64) ∷ j / 64 ∷ 1 ∷ 1 ∷ []

pub are_bytes : (j : ℕ) → j < 16384 → All (λ b. b < 256) (bytes_of j)
are_bytes j small = All-from_recursion (λ b. b < 256) (bytes_of j) (omega arith, (omega (arith, small), (omega arith, (omega arith, tt))))

-- no first byte from 20 to 83 begins a range that is not routed
routable : (j : ℕ) → j < 16384 → is_routable (peer_of j).addr ≡ true
unfolding in_range
routable j small = each_below (λ n. is_routable (address Ipv4 ((20 + n) ∷ j / 64 ∷ 1 ∷ 1 ∷ []))) 64 refl (j % 64) (omega arith)

is_addr_text : (j : ℕ) → j < 16384 → IsAddrText (addr_text (peer_of j).addr) (peer_of j).addr
is_addr_text j small =
    let bits = bits_of_bytes (bytes_of j) refl (are_bytes j small) in
    dotted (record { bits = from_be_bytes w32 (bytes_of j); bits_text = (bits.0, ap ipv4_text (sym bits.1)); address = ap (address Ipv4) (sym bits.1) })

pub is_peer_text : (j : ℕ) → j < 16384 → IsPeerText (peer_text (peer_of j)) (peer_of j)
is_peer_text j small = record { addr = addr_text (peer_of j).addr; addr_text = is_addr_text j small; port = omega arith; spelled = refl }

addr-field : (j : ℕ) → j < 16384 → IsField (addr_text (peer_of j).addr)
addr-field j small =
    field-append (decimal (20 + j % 64)) _ (decimal-field (20 + j % 64) (omega arith))
    (field-cons 46 _ refl (field-append (decimal (j / 64)) _ (decimal-field (j / 64) (omega (arith, small)))
    (field-cons 46 _ refl (field-append (decimal 1) _ (decimal-field 1 (omega arith))
    (field-cons 46 _ refl (decimal-field 1 (omega arith)))))))

peer-field : (j : ℕ) → j < 16384 → IsField (peer_text (peer_of j))
peer-field j small =
    field-append (addr_text (peer_of j).addr ++ codes ":") (decimal 8333) (field-append (addr_text (peer_of j).addr) (codes ":") (addr-field j small) (field-cons 58 [] refl field-nil)) (decimal-field 8333 (omega arith))

pub peer_drawn : (at : Position) → draw 16384 at < 16384
peer_drawn at = draw-small 16384 at (omega arith)

-- the text spells a command that logs have
abbrev pub HasCommand : List ℕ → Type 0
HasCommand text = (c : Command) × IsDrawn c × SpellsCommand text c

pub now_spells : (time : ℕ) → time < 2 ^ 32 → HasCommand (codes "now " ++ decimal time)
now_spells time small = (
  command.Now time,
  tt,
  (
    codes "now",
    decimal time ∷ [],
    ap (λ fs. codes "now" ∷ fs) (slice_split_none (λ b. b == 32) (decimal time) (decimal-field time (omega (arith, small)))),
    (refl, ((time, refl, omega arith, omega (arith, small), refl), tt)),
  ),
)

good_spells : (j : ℕ) → j < 16384 → HasCommand (codes "good " ++ peer_text (peer_of j) ++ codes " test")
good_spells j small = (
  command.Good (peer_of j) true,
  routable j small,
  (
    codes "good",
    peer_text (peer_of j) ∷ codes "test" ∷ [],
    ap (λ fs. codes "good" ∷ fs) (slice_split_at (λ b. b == 32) (peer_text (peer_of j)) 32 (codes "test") (peer-field j small) refl),
    (refl, ((peer_of j, refl, is_peer_text j small), ((true, refl, refl), tt))),
  ),
)

attempt_spells : (j : ℕ) → j < 16384 → HasCommand (codes "attempt " ++ peer_text (peer_of j) ++ codes " count")
attempt_spells j small = (
  command.Attempt (peer_of j) true,
  routable j small,
  (
    codes "attempt",
    peer_text (peer_of j) ∷ codes "count" ∷ [],
    ap (λ fs. codes "attempt" ∷ fs) (slice_split_at (λ b. b == 32) (peer_text (peer_of j)) 32 (codes "count") (peer-field j small) refl),
    (refl, ((peer_of j, refl, is_peer_text j small), ((true, refl, refl), tt))),
  ),
)

connected_spells : (j : ℕ) → j < 16384 → HasCommand (codes "connected " ++ peer_text (peer_of j) ++ [])
connected_spells j small = (
  command.Connected (peer_of j),
  routable j small,
  (
    codes "connected",
    peer_text (peer_of j) ∷ [],
    ap (λ t. codes "connected" ∷ slice_split (λ b. b == 32) t) (append-nil (peer_text (peer_of j)))
        ∙ ap (λ fs. codes "connected" ∷ fs) (slice_split_none (λ b. b == 32) (peer_text (peer_of j)) (peer-field j small)),
    (refl, ((peer_of j, refl, is_peer_text j small), tt)),
  ),
)

-- random words by a seed
abbrev seed_text : ℕ → ℕ → List ℕ
seed_text seed count = codes "@" ++ decimal seed ++ codes ":" ++ decimal count

seed-field : (seed count : ℕ) → seed < 2 ^ 32 → count ≤ 300 → IsField (seed_text seed count)
seed-field seed count small few =
    field-cons 64 (decimal seed ++ codes ":" ++ decimal count) refl
    (field-append (decimal seed ++ codes ":") (decimal count) (field-append (decimal seed) (codes ":") (decimal-field seed (omega (arith, small))) (field-cons 58 [] refl field-nil)) (decimal-field count (omega (arith, few))))

seed_words : (seed count : ℕ) → seed < 2 ^ 32 → count ≤ 300 → AreWords (seed_text seed count) (seeded_words seed count)
seed_words seed count small few = inr (inr (seed, count, omega (arith, small), omega (arith, few), refl, refl))

select_spells : (seed : ℕ) → seed < 2 ^ 32 → HasCommand (codes "select any all @" ++ decimal seed ++ codes ":" ++ decimal 300)
select_spells seed small = (
  command.Select false all (seeded_words seed 300),
  tt,
  (
    codes "select",
    codes "any" ∷ codes "all" ∷ seed_text seed 300 ∷ [],
    ap (λ fs. codes "select" ∷ codes "any" ∷ codes "all" ∷ fs) (slice_split_none (λ b. b == 32) (seed_text seed 300) (seed-field seed 300 small (omega arith))),
    (refl, ((false, refl, refl), ((all, refl, inl (refl, refl)), ((seeded_words seed 300, refl, seed_words seed 300 small (omega arith)), tt)))),
  ),
)

clash_spells : (word : ℕ) → word < 2 ^ 32 → HasCommand (codes "clash " ++ decimal word)
clash_spells word small = (
  command.Clash word,
  tt,
  (
    codes "clash",
    decimal word ∷ [],
    ap (λ fs. codes "clash" ∷ fs) (slice_split_none (λ b. b == 32) (decimal word) (decimal-field word (omega (arith, small)))),
    (refl, ((word, refl, omega arith, omega (arith, small), refl), tt)),
  ),
)

resolve_spells : HasCommand (codes "resolve")
resolve_spells = (command.Resolve, tt, (codes "resolve", [], refl, (refl, tt)))

-- the bytes of a message
abbrev AreBytes : List ℕ → Type 0
AreBytes xs = All (λ b. b < 256) xs

bytes-append : (a b : List ℕ) → AreBytes a → AreBytes b → AreBytes (a ++ b)
bytes-append a b h k = All-append (λ c. c < 256) a b h k

le_32 : (n : ℕ) → AreBytes (to_le_bytes w32 n)
le_32 n = All-from_recursion (λ b. b < 256) (to_le_bytes w32 n) (omega arith, (omega arith, (omega arith, (omega arith, tt))))

fixed_bytes : AreBytes (to_le_bytes w64 1) × (AreBytes mapped_prefix × AreBytes (to_be_bytes w16 8333))
fixed_bytes = (
  All-from_recursion (λ b. b < 256) (to_le_bytes w64 1) (search rules),
  (
    All-from_recursion (λ b. b < 256) mapped_prefix (search rules),
    All-from_recursion (λ b. b < 256) (to_be_bytes w16 8333) (search rules),
  ),
)

entry_bytes : (time j : ℕ) → j < 16384 → AreBytes (addr_entry_text (record { time = time; services = 1; peer = peer_of j }))
unfolding addr_entry_text
entry_bytes time j small =
    bytes-append (to_le_bytes w32 time ++ to_le_bytes w64 1 ++ (mapped_prefix ++ bytes_of j)) (to_be_bytes w16 8333)
    (bytes-append (to_le_bytes w32 time ++ to_le_bytes w64 1) (mapped_prefix ++ bytes_of j) (bytes-append (to_le_bytes w32 time) (to_le_bytes w64 1) (le_32 time) fixed_bytes.0)
    (bytes-append mapped_prefix (bytes_of j) fixed_bytes.1.0 (are_bytes j small)))
    fixed_bytes.1.1

-- an entry of a message fits its fields, and its peer is routable
entry_fits : (time j : ℕ) → time < 2 ^ 31 → j < 16384 → FitsAddr (record { time = time; services = 1; peer = peer_of j })
entry_fits time j early small = record {
  fit = record {
    time = omega (arith, early);
    services = omega arith;
    addr = IsAddress-plain Ipv4 (bytes_of j) (λ e. cc) (λ e. cc) refl (are_bytes j small);
    port = omega arith;
  };
  network = inl refl;
}

abbrev IsRoutableEntry : Option Entry → Type 0
IsRoutableEntry o = IfSome o (λ e. is_routable e.peer.addr ≡ true)

entries_fit : (n : ℕ) (at : Position) → at.time < 2 ^ 31 → All FitsAddr (draw_entries n at) × All IsRoutableEntry (map Some (draw_entries n at))
entries_fit zero at early = (All-nil FitsAddr, All-nil IsRoutableEntry)
entries_fit (suc n) at early =
    let j = draw 16384 (past at) in
    let same : (past (past at)).time ≡ at.time = past-time (past at) ∙ past-time at in
    let rest = entries_fit n (past (past at)) (omega (arith, same, early)) in (
      All-cons FitsAddr (draw_entry at) (draw_entries n (past (past at))) (entry_fits (at.time - draw 86400 at) j (omega (arith, early)) (peer_drawn (past at))) rest.0,
      All-cons IsRoutableEntry (Some (draw_entry at)) (map Some (draw_entries n (past (past at)))) (routable j (peer_drawn (past at))) rest.1,
    )

pub entries_bytes : (n : ℕ) (at : Position) → AreBytes (flat_map addr_entry_text (draw_entries n at))
entries_bytes zero at = All-nil (λ b. b < 256)
entries_bytes (suc n) at =
    bytes-append (addr_entry_text (draw_entry at)) _ (entry_bytes (at.time - draw 86400 at) (draw 16384 (past at)) (peer_drawn (past at))) (entries_bytes n (past (past at)))

pub entries_length : (n : ℕ) (at : Position) → length (draw_entries n at) ≡ n
entries_length zero at = refl
entries_length (suc n) at = ap suc (entries_length n (past (past at)))

pub few_size : (n : ℕ) → n < 253 → compact_size n ≡ n ∷ []
unfolding compact_size
few_size n small = rw (lt-ltb n 253 small) refl

-- hexadecimal digits have no space among them
digit-field : (d : ℕ) → d < 16 → (slice_index lower_digits d == 32) ≡ false
digit-field d small = ne_eqb (slice_index lower_digits d) 32 (λ e. let one = IsDigits-lower_digits d small in let none : hex_digit_value 32 ≡ Some d = subst (λ c. hex_digit_value c ≡ Some d) e one in absurd (cc))

hex-field : (bytes : List ℕ) → All (λ b. b < 256) bytes → IsField (encode_with lower_digits bytes)
unfolding encode_with
hex-field [] h = All-nil (λ b. (b == 32) ≡ false)
hex-field (b ∷ bytes) h =
    let small = All-head (λ c. c < 256) b bytes h in
    field-cons (slice_index lower_digits (b / 16)) (slice_index lower_digits (b % 16) ∷ encode_with lower_digits bytes) (digit-field (b / 16) (omega (arith, small)))
    (field-cons (slice_index lower_digits (b % 16)) (encode_with lower_digits bytes) (digit-field (b % 16) (omega arith)) (hex-field bytes (All-tail (λ c. c < 256) b bytes h)))

some_hex : (b : ℕ) (bytes : List ℕ) → encode_lower (b ∷ bytes) ≢ []
unfolding encode_with
some_hex b bytes = λ e. absurd (cc)

-- the fields of an `addr` line, apart
parts : (a h s c : List ℕ) → a ++ codes " " ++ h ++ codes " @" ++ s ++ codes ":" ++ c ≡ a ++ 32 ∷ (h ++ 32 ∷ (codes "@" ++ s ++ codes ":" ++ c))
parts [] [] s c = refl
parts [] (x ∷ h) s c = ap (λ t. 32 ∷ x ∷ t) (after_space h s c)
  where
    after_space : (h s c : List ℕ) → h ++ codes " @" ++ s ++ codes ":" ++ c ≡ h ++ 32 ∷ (codes "@" ++ s ++ codes ":" ++ c)
    after_space [] s c = refl
    after_space (x ∷ h) s c = ap (λ t. x ∷ t) (after_space h s c)
parts (x ∷ a) h s c = ap (λ t. x ∷ t) (parts a h s c)

addr_spells : (j seed : ℕ) (entries : List Entry) → j < 16384 → seed < 2 ^ 32 → length entries ≤ 4 → AreBytes (flat_map addr_entry_text entries)
    → All FitsAddr entries → All IsRoutableEntry (map Some entries) →
    HasCommand (message_line (peer_of j).addr entries seed)
addr_spells j seed entries small low few bytes fits routes = (
  command.Addr (peer_of j).addr payload (seeded_words seed (length entries)),
  (routable j small, peers),
  (
    codes "addr",
    addr_text (peer_of j).addr ∷ encode_lower payload ∷ seed_text seed (length entries) ∷ [],
    ap (λ t. codes "addr" ∷ slice_split (λ b. b == 32) t) (parts (addr_text (peer_of j).addr) (encode_lower payload) (decimal seed) (decimal (length entries)))
        ∙ ap (λ fs. codes "addr" ∷ fs) (slice_split_at (λ b. b == 32) (addr_text (peer_of j).addr) 32 (encode_lower payload ++ 32 ∷ seed_text seed (length entries)) (addr-field j small) refl)
        ∙ ap (λ fs. codes "addr" ∷ addr_text (peer_of j).addr ∷ fs) (slice_split_at (λ b. b == 32) (encode_lower payload) 32 (seed_text seed (length entries)) (hex-field payload all_bytes) refl)
        ∙ ap (λ fs. codes "addr" ∷ addr_text (peer_of j).addr ∷ encode_lower payload ∷ fs)
        (slice_split_none (λ b. b == 32) (seed_text seed (length entries)) (seed-field seed (length entries) low (omega (arith, few)))),
    (
      refl,
      (
        ((peer_of j).addr, refl, is_addr_text j small),
        (
          (payload, refl, inr (some, decode_of-encode_lower payload (AllBytes-All payload all_bytes))),
          ((seeded_words seed (length entries), refl, seed_words seed (length entries) low (omega (arith, few))), tt),
        ),
      ),
    ),
  ),
)
  where
    payload : List ℕ
    payload = message_text addr_entry_text entries

    size : compact_size (length entries) ≡ length entries ∷ []
    size = few_size (length entries) (omega (arith, few))

    all_bytes : AreBytes (message_text addr_entry_text entries)
    all_bytes = subst (λ s. AreBytes (s ++ flat_map addr_entry_text entries)) (sym size) (All-cons (λ b. b < 256) (length entries) _ (omega (arith, few)) bytes)

    -- the message is of these entries only
    peers : HasRoutablePeers (message_text addr_entry_text entries)
    peers others is e has =
        let spelled = of_message addr_entry addr_entry_text FitsAddr of_addr_entry entries (omega (arith, few)) fits in
        let one = one_meaning (message addr_entry) Trailing (message_at addr_entry_at) (message_text addr_entry_text entries) (Reads-message addr_entry addr_entry_at Reads-addr_entry) (AreBytes-all (message_text addr_entry_text entries) all_bytes) in
        All-contains IsRoutableEntry (map Some entries) (Some e) routes (subst (λ (es : List (Option Entry)). Contains es (Some e)) (one.one_value others (map Some entries) is spelled) has)

    some : encode_lower (message_text addr_entry_text entries) ≢ []
    some = subst (λ s. encode_lower (s ++ flat_map addr_entry_text entries) ≢ []) (sym size) (some_hex (length entries) (flat_map addr_entry_text entries))

line_spells : (k : Kind) (at : Position) → at.time < 2 ^ 31 → HasCommand (line_of k at).text
line_spells kind.Now at early = now_spells (at.time + (1 + draw 600 at)) (omega (arith, early, draw-small 600 at (omega arith)))
line_spells kind.Addr at early =
    let count = 1 + draw 4 (past at) in
    let first = past (past at) in
    let many = entries_length count first in
    let same : first.time ≡ at.time = past-time (past at) ∙ past-time at in
    let fit = entries_fit count first (omega (arith, same, early)) in
    addr_spells (draw 16384 at) (draw (2 ^ 32) (past_entries count first)) (draw_entries count first) (peer_drawn at) (draw-small (2 ^ 32) (past_entries count first) (omega arith))
    (omega (arith, many, draw-small 4 (past at) (omega arith))) (entries_bytes count first) fit.0 fit.1
line_spells kind.Good at early = good_spells (draw 16384 at) (peer_drawn at)
line_spells kind.Attempt at early = attempt_spells (draw 16384 at) (peer_drawn at)
line_spells kind.Connected at early = connected_spells (draw 16384 at) (peer_drawn at)
line_spells kind.Select at early = select_spells (draw (2 ^ 32) at) (draw-small (2 ^ 32) at (omega arith))
line_spells kind.Clash at early = clash_spells (draw (2 ^ 32) at) (draw-small (2 ^ 32) at (omega arith))
line_spells kind.Resolve at early = resolve_spells

pub drawn_line_spells : (at : Position) → at.time < 2 ^ 31 → HasCommand (drawn_line at).text
unfolding drawn_line
drawn_line_spells at early = line_spells (kind_of (draw 16 at)) (past at) (omega (arith, early, past-time at))
