-- The written file as a whole: it is the file of its snapshot, has no fault, and is far below the
-- limit.
use Rattle.std.proofs.Common.{◌≡◌, ◌≢◌, ℕ, suc, ◌+◌, ◌-◌, ◌*◌, ◌≤◌, ◌<◌, ◌^◌, Bool, true, false, not, cond, ltb, List, [], ◌∷◌, ◌++◌, length, take, drop, map, All, AllPairs, Option, Some, None, Result, Ok, Err, refl, sym, ap, subst, ◌∙◌, ⊎_elim, arith, le-ltb, lt-ltb}
use Rattle.std.proofs.lemmas.Bool.{eq-eqb}
use Rattle.std.specs.Int.Bits.{bit_xor}
use Rattle.std.proofs.lemmas.List.FromFn.{length-range_with_len}
use Rattle.std.specs.Prelude.{bytes_eq}
use Rattle.std.specs.List.{flat_map, range_with_len}
use Rattle.std.specs.Int.{w16, w32, w64, to_le_bytes, to_be_bytes}
use Rattle.std.proofs.lemmas.List.{append_assoc, append-nil, length-append, take_at, drop_at, length-map}
use Rattle.std.proofs.lemmas.List.Elements.{All-head, All-tail}
use Rattle.sha2.proofs.Facts256.{length-sha256}
use Rattle.sha2.specs.Sha256.{sha256}
use Rattle.net_addr.specs.Address.{Address, IsAddress, length_of, internal_prefix}
use Rattle.net_addr.specs.declared.net.Net.{Net}
use Rattle.net_addr.specs.declared.net.Net.TheVariants.{Unroutable, Ipv4, Ipv6, Onion, I2p, Cjdns, Internal}
use Rattle.wire_num.specs.CompactSize.{compact_size}
use Rattle.wire_num.specs.Format.{Begins}
use Rattle.addr_codecs.specs.Texts.{address_text, id_of, prefix_of}
use Rattle.placing.specs.Places.{double_sha256}
use Rattle.peer_rec.specs.declared.file_rec.FileRec.{FileRec}
use Rattle.peer_rec.specs.Snapshot.{Snapshot, IsFileRec}
use Rattle.peers_file.specs.declared.chain.Chain.{Chain}
use Rattle.peers_file.specs.declared.chain.Chain.TheVariants.{Main}
use Rattle.peers_file.specs.declared.fault.FileFault.{FileFault}
use Rattle.peers_file.specs.declared.fault.FileFault.TheVariants.{Trailing}
use Rattle.peers_file.specs.Layout.{magic_of, body, between, whole_fault, IsFile, HasFileFault}
use Rattle.peers_file.specs.Readings.{body_at}
use Rattle.peers_file.specs.Inside.{IsWritten}
use Rattle.peers_file.specs.Texts.{record_text, indexes_of, bucket_text, head_text, body_text, file_text}
use Rattle.peers_file.proofs.FileLaws.{Reads-body}
use Rattle.peers_file.proofs.TextLaws.{of_body, pairs_of, regroup}

pub length-sum : (bytes : List ℕ) → length (double_sha256 bytes) ≡ 32
unfolding double_sha256
length-sum bytes = length-sha256 (sha256 bytes)

length-magic : (chain : Chain) → length (magic_of chain) ≡ 4
length-magic Main = refl
length-magic other = refl

-- the parts of a written file
abbrev before_sum : Chain → Snapshot → List ℕ
before_sum chain snap = magic_of chain ++ body_text snap

file_parts : (chain : Chain) (snap : Snapshot) → file_text chain snap ≡ before_sum chain snap ++ double_sha256 (before_sum chain snap)
unfolding file_text
file_parts chain snap = refl

same_bytes : (xs : List ℕ) → bytes_eq xs xs ≡ true
same_bytes [] = refl
same_bytes (x ∷ xs) = rw (eq-eqb x x refl) (same_bytes xs)

all_pass : (a b c d : Bool) (e f g h : FileFault) → a ≡ false → b ≡ false → c ≡ true → d ≡ true → cond a (Some e) (cond b (Some f) (cond (not c) (Some g) (cond (not d) (Some h) None))) ≡ None
all_pass a b c d e f g h one two three four = rw (one, two, three, four) refl

-- a file of these parts passes the tests of a file as a whole, and has the body between them
record Whole (chain : Chain) (bytes b : List ℕ) : Type 0 where
  passes : whole_fault chain bytes ≡ None
  inside : between bytes ≡ b

whole_of : (chain : Chain) (m b s bytes : List ℕ) → m ≡ magic_of chain → s ≡ double_sha256 (m ++ b) → bytes ≡ (m ++ b) ++ s → length bytes ≤ 33554432 → Whole chain bytes b
unfolding whole_fault
whole_of chain m b s bytes is_magic is_sum is few =
    let four : length m ≡ 4 = ap length is_magic ∙ length-magic chain in
    let long : length s ≡ 32 = ap length is_sum ∙ length-sum (m ++ b) in
    let n = length bytes - 32 in
    let total : length bytes ≡ length (m ++ b) + 32 = ap length is ∙ length-append (m ++ b) s ∙ ap (λ k. length (m ++ b) + k) long in
    let at : length (m ++ b) ≡ n = omega arith in
    let front : take n bytes ≡ m ++ b = ap (take n) is ∙ take_at (m ++ b) s n at in
    let back : drop n bytes ≡ s = ap (drop n) is ∙ drop_at (m ++ b) s n at in
    let first : take 4 bytes ≡ m = ap (take 4) (is ∙ append_assoc m b s) ∙ take_at m (b ++ s) 4 four in
    let right_magic : bytes_eq (take 4 bytes) (magic_of chain) ≡ true = ap (λ x. bytes_eq x (magic_of chain)) (first ∙ is_magic) ∙ same_bytes (magic_of chain) in
    let right_sum : bytes_eq (drop n bytes) (double_sha256 (take n bytes)) ≡ true = ap (λ x. bytes_eq x (double_sha256 (take n bytes))) (back ∙ is_sum ∙ ap double_sha256 (sym front)) ∙ same_bytes (double_sha256 (take n bytes)) in
    record {
      passes = all_pass (ltb 33554432 (length bytes)) (ltb (length bytes) 36) (bytes_eq (take 4 bytes) (magic_of chain)) (bytes_eq (drop n bytes) (double_sha256 (take n bytes))) _ _ _ _
          (le-ltb _ _ few) (le-ltb _ _ (omega (arith, length-append m b))) right_magic right_sum;
      inside = ap (drop 4) front ∙ drop_at m b 4 four;
    }

-- ---- sizes

short_number : (a b c : Bool) (n : ℕ) → length (cond a (n ∷ []) (cond b (253 ∷ to_le_bytes w16 n) (cond c (254 ∷ to_le_bytes w32 n) (255 ∷ to_le_bytes w64 n)))) ≤ 9
short_number true b c n = omega arith
short_number false true c n = omega arith
short_number false false true n = omega arith
short_number false false false n = omega arith

short_compact : (n : ℕ) → length (compact_size n) ≤ 9
unfolding compact_size
short_compact n = short_number (ltb n 253) (ltb n (2 ^ 16)) (ltb n (2 ^ 32)) n

short_bytes : (net : Net) (bytes : List ℕ) → net ≢ Unroutable → length bytes ≡ length_of net → length (prefix_of net ++ bytes) ≤ 32
short_bytes Unroutable bytes own is = absurd (own refl)
short_bytes Ipv4 bytes own is = omega arith
short_bytes Ipv6 bytes own is = omega arith
short_bytes Onion bytes own is = omega arith
short_bytes I2p bytes own is = omega arith
short_bytes Cjdns bytes own is = omega arith
short_bytes Internal bytes own is = omega (arith, length-append internal_prefix bytes)

one_byte : (n : ℕ) → n ≤ 252 → length (compact_size n) ≡ 1
unfolding compact_size
one_byte n few = rw (lt-ltb n 253 (omega arith)) refl

-- an address is written as the number of its network, a length in one byte, and that many bytes
pub length-address : (a : Address) → IsAddress a → length (address_text a) ≡ 2 + length (prefix_of a.net) + length a.bytes
unfolding address_text
length-address a is =
    let bytes = prefix_of a.net ++ a.bytes in
    let few = short_bytes a.net a.bytes is.network is.length in
    let parts : (id_of a.net ∷ []) ++ compact_size (length bytes) ++ prefix_of a.net ++ a.bytes ≡ id_of a.net ∷ (compact_size (length bytes) ++ bytes) = ap (λ t. id_of a.net ∷ t) (append_assoc (compact_size (length bytes)) (prefix_of a.net) a.bytes) in
    omega (arith, ap length parts, length-append (compact_size (length bytes)) bytes, one_byte (length bytes) (omega arith), length-append (prefix_of a.net) a.bytes)

pub short_address : (a : Address) → IsAddress a → length (address_text a) ≤ 34
short_address a is =
    let few = short_bytes a.net a.bytes is.network is.length in
    omega (arith, length-address a is, length-append (prefix_of a.net) a.bytes)

-- a record is written as 22 bytes, its services, and two addresses
pub length-record : (r : FileRec) → length (record_text r) ≡ 22 + length (compact_size r.services) + length (address_text r.peer.addr) + length (address_text r.source)
unfolding record_text
length-record r =
    let marks = to_le_bytes w64 r.last_success ++ to_le_bytes w32 r.attempts in
    let from_source = address_text r.source ++ marks in
    let from_port = to_be_bytes w16 r.peer.port ++ from_source in
    let from_addr = address_text r.peer.addr ++ from_port in
    omega (arith, length-append (compact_size r.services) from_addr, length-append (address_text r.peer.addr) from_port, length-append (address_text r.source) marks)

short_record : (r : FileRec) → IsFileRec r → length (record_text r) ≤ 115
short_record r is =
    let services = short_compact r.services in
    let addr = short_address r.peer.addr is.addr in
    let source = short_address r.source is.source in
    omega (arith, length-record r)

short_all : {X : Type 0} (text : X → List ℕ) (k : ℕ) (P : X → Type 0) → ((x : X) → P x → length (text x) ≤ k) → (xs : List X) → All P xs → length (flat_map text xs) ≤ k * length xs
short_all text k P each [] all = omega arith
short_all text k P each (x ∷ xs) all =
    let one = each x (All-head P x xs all) in
    let rest = short_all text k P each xs (All-tail P x xs all) in
    let more : k * suc (length xs) ≡ k + k * length xs = omega arith in
    omega (arith, length-append (text x) (flat_map text xs))

length-indexes : (ns : List ℕ) → length (flat_map (to_le_bytes w32) ns) ≡ 4 * length ns
length-indexes [] = refl
length-indexes (n ∷ ns) = let rest = length-indexes ns in omega (arith, length-append (to_le_bytes w32 n) (flat_map (to_le_bytes w32) ns))

length-bucket : (listed : List (ℕ × ℕ)) (bucket : ℕ) → length (bucket_text listed bucket) ≡ 4 + 4 * length (pairs_of listed bucket)
unfolding bucket_text
length-bucket listed bucket = let some = length-indexes (indexes_of listed bucket) in omega (arith, length-map (pairs_of listed bucket) (λ (p : ℕ × ℕ). p.1))

length-buckets : (listed : List (ℕ × ℕ)) (ks : List ℕ) → length (flat_map (bucket_text listed) ks) ≡ 4 * length ks + 4 * length (flat_map (λ ps. ps) (map (pairs_of listed) ks))
length-buckets listed [] = refl
length-buckets listed (k ∷ ks) =
    let rest = length-buckets listed ks in
    let one = length-bucket listed k in
    omega (arith, length-append (bucket_text listed k) (flat_map (bucket_text listed) ks), length-append (pairs_of listed k) (flat_map (λ ps. ps) (map (pairs_of listed) ks)))

length-all_buckets : (snap : Snapshot) → snap.bucket_count ≡ 1024 → All (λ p. p.0 < snap.bucket_count) snap.listed → AllPairs (λ p later. p.0 ≤ later.0) snap.listed
    → length (flat_map (bucket_text snap.listed) (range_with_len 0 snap.bucket_count)) ≡ 4 * 1024 + 4 * length snap.listed
length-all_buckets snap buckets below rising =
    let pairs = regroup 0 snap.bucket_count snap.listed (λ k d within. let h = below k d within in (omega arith, omega arith)) rising in
    let all = length-buckets snap.listed (range_with_len 0 snap.bucket_count) in
    let count : length (range_with_len 0 snap.bucket_count) ≡ 1024 = length-range_with_len 0 snap.bucket_count ∙ buckets in
    omega (arith, all, count, ap length pairs)

length-head : (snap : Snapshot) → length snap.key ≡ 32 → length (head_text snap) ≡ 46
unfolding head_text
length-head snap is = omega (arith, length-append snap.key (to_le_bytes w32 (length snap.new_recs) ++ (to_le_bytes w32 (length snap.tried_recs) ++ to_le_bytes w32 (bit_xor snap.bucket_count (2 ^ 30)))))

-- the length of a written file: what each file has, its records, and four bytes for each index
pub length-file : (chain : Chain) (snap : Snapshot) → length snap.key ≡ 32 → length snap.sum ≡ 32 → snap.bucket_count ≡ 1024 → All (λ p. p.0 < snap.bucket_count) snap.listed
    → AllPairs (λ p later. p.0 ≤ later.0) snap.listed
    → length (file_text chain snap) ≡ 4210 + length (flat_map record_text snap.new_recs) + length (flat_map record_text snap.tried_recs) + 4 * length snap.listed
unfolding file_text body_text
length-file chain snap key sum buckets below rising =
    let all_buckets = length-all_buckets snap buckets below rising in
    let front = length-head snap key in
    let buckets_part = flat_map (bucket_text snap.listed) (range_with_len 0 snap.bucket_count) in
    let last = buckets_part ++ snap.sum in
    let tried_part = flat_map record_text snap.tried_recs in
    let new_part = flat_map record_text snap.new_recs in
    omega (
      arith,
      front,
      all_buckets,
      sum,
      length-magic chain,
      length-sum (magic_of chain ++ (head_text snap ++ (new_part ++ (tried_part ++ last)))),
      length-append (magic_of chain ++ (head_text snap ++ (new_part ++ (tried_part ++ last)))) (double_sha256 (magic_of chain ++ (head_text snap ++ (new_part ++ (tried_part ++ last))))),
      length-append (magic_of chain) (head_text snap ++ (new_part ++ (tried_part ++ last))),
      length-append (head_text snap) (new_part ++ (tried_part ++ last)),
      length-append new_part (tried_part ++ last),
      length-append tried_part last,
      length-append buckets_part snap.sum,
    )

pub short_file : (chain : Chain) (snap : Snapshot) → IsWritten snap → length (file_text chain snap) < 33554432
short_file chain snap written =
    let is = written.snapshot in
    let few_new = is.few_new in
    let few_tried = is.few_tried in
    let few_listed = written.few_listed in
    let new = short_all record_text 115 IsFileRec short_record snap.new_recs written.new_recs in
    let tried = short_all record_text 115 IsFileRec short_record snap.tried_recs written.tried_recs in
    omega (arith, new, tried, length-file chain snap is.key_length is.sum_length written.buckets is.buckets is.rising)

whole_file : (chain : Chain) (snap : Snapshot) → IsWritten snap → Whole chain (file_text chain snap) (body_text snap)
whole_file chain snap written =
    let few = short_file chain snap written in
    whole_of chain (magic_of chain) (body_text snap) (double_sha256 (magic_of chain ++ body_text snap)) (file_text chain snap) refl refl (file_parts chain snap) (omega arith)

-- the written file is the file of its snapshot
pub is_file : (chain : Chain) (snap : Snapshot) → IsWritten snap → IsFile chain (file_text chain snap) snap
is_file chain snap written =
    let whole = whole_file chain snap written in
    (whole.passes, subst (λ t. body.spells t snap) (sym whole.inside) (of_body snap written).is)

abbrev read : Snapshot × List ℕ → Result (Snapshot × List ℕ) FileFault
read x = Ok x

-- the written file has no fault
pub no_fault : (chain : Chain) (snap : Snapshot) → IsWritten snap → (f : FileFault) → HasFileFault chain (file_text chain snap) f → ⊥
no_fault chain snap written f fault =
    ⊎_elim (λ early. none_or_some whole.passes early) (λ h. ⊎_elim (λ shown. ok_or_err (sym is_read ∙ Reads-body.first (between (file_text chain snap)) f shown))
    (λ x. h_trailing x) h.1) fault
  where
    whole : Whole chain (file_text chain snap) (body_text snap)
    whole = whole_file chain snap written

    is_read : body_at (between (file_text chain snap)) ≡ Ok (snap, [])
    is_read = Reads-body.only (between (file_text chain snap)) snap [] (record { front = between (file_text chain snap); joined = sym (append-nil (between (file_text chain snap))); spelled = (is_file chain snap written).1 })

    none_or_some : {o : Option FileFault} {e : FileFault} → o ≡ None → o ≡ Some e → ⊥
    none_or_some {o = o} {e = e} none some = absurd cc

    ok_or_err : {x : Snapshot × List ℕ} {e : FileFault} → read x ≡ Err e → ⊥
    ok_or_err {x = x} {e = e} is = absurd cc

    same_read : {x y : Snapshot × List ℕ} → read x ≡ read y → x ≡ y
    same_read {x = x} {y = y} is = cc

    h_trailing : (a : Snapshot) × (rest : List ℕ) × Begins body (between (file_text chain snap)) a rest × (rest ≢ []) × (f ≡ Trailing) → ⊥
    h_trailing x =
        let same = same_read (sym is_read ∙ Reads-body.only (between (file_text chain snap)) x.0 x.1 x.2) in
        x.3 (sym (ap (λ (p : Snapshot × List ℕ). p.1) same))
