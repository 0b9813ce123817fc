-- What is written of a snapshot is its file.
use Rattle.std.proofs.Common.{◌≡◌, ◌≢◌, ℕ, zero, suc, ◌+◌, ◌<◌, ◌≤◌, ◌^◌, Bool, true, false, not, cond, ◌==◌, nat_lt, List, [], ◌∷◌, ◌++◌, length, get_or, map, filter, All, AllPairs, Some, refl, sym, ap, subst, ◌∙◌, arith, if◌then◌else◌, lt-ltb}
use Rattle.std.specs.List.{flat_map, range_with_len}
use Rattle.std.specs.Int.{w16, w32, w64, to_le_bytes, to_be_bytes}
use Rattle.std.specs.Int.Bits.{bit_xor}
use Rattle.std.proofs.lemmas.Bool.{le-leb, ne_eqb, eqb-false, both_ways}
use Rattle.std.proofs.lemmas.Bool.Decides.{Decides-eqb}
use Rattle.std.proofs.lemmas.List.{append-nil, length-map}
use Rattle.std.proofs.lemmas.List.Elements.{All-filter, All-head, All-map, All-tail, filter_passes}
use Rattle.std.proofs.lemmas.List.FromFn.{get_or-range_with_len, length-range_with_len}
use Rattle.std.proofs.lemmas.List.Kept.{AllPairs-filter}
use Rattle.net_addr.specs.Address.{Address, IsAddress}
use Rattle.wire_num.specs.CompactSize.{compact_size}
use Rattle.wire_num.specs.Format.{Format, sequence, value, check, times, map_fault}
use Rattle.wire_num.specs.Fields.{some_bytes, byte, le, be, compact}
use Rattle.wire_num.proofs.WritingLaws.{spells-then, spells-value, spells-check, spells-map_fault, spells-number, spells-compact, spells-some_bytes, spells-byte}
use Rattle.addr_codecs.specs.Texts.{address_text}
use Rattle.addr_codecs.specs.Layout.{addrv2_address}
use Rattle.addr_codecs.proofs.AddressLaws.{spells-address}
use Rattle.peer_rec.specs.declared.file_rec.FileRec.{FileRec}
use Rattle.peer_rec.specs.Snapshot.{Snapshot, IsFileRec}
use Rattle.peers_file.specs.Faults.{of_field, of_number, of_address}
use Rattle.peers_file.specs.declared.fault.FileFault.{FileFault}
use Rattle.peers_file.specs.declared.fault.Which.{Which}
use Rattle.peers_file.specs.Layout.{field, layout_field, success_field, attempts_field, record_format, record_in, count_field, buckets_field, entries_of, pairs_with, bucket_of, sum_in, head, head_with, buckets_of, body}
use Rattle.peers_file.specs.Inside.{IsWritten}
use Rattle.peers_file.specs.Texts.{record_text, indexes_of, bucket_text, head_text, body_text}

-- the bytes spell the value
pub record Spells {F A : Type 0} (p : Format F A) (bytes : List ℕ) (a : A) : Type 0 where
  pub is : p.spells bytes a

both : {F A B : Type 0} {p : Format F A} (q : A → Format F B) {x y : List ℕ} {a : A} {b : B} → Spells p x a → Spells (q a) y b → Spells (sequence p q) (x ++ y) b
both {p = p} q {x = x} {y = y} {a = a} {b = b} one two = record { is = spells-then p q x y a b one.is two.is }

of_nothing : {A : Type 0} (a : A) → Spells (value {F = FileFault} a) [] a
of_nothing a = record { is = spells-value FileFault a }

of_test : {A : Type 0} (passes : Bool) (fault : FileFault) (a : A) → passes ≡ true → Spells (check passes fault a) [] a
of_test passes fault a h = record { is = spells-check passes fault a h }

of_le32 : (n : ℕ) → n < 2 ^ 32 → Spells (field (le w32)) (to_le_bytes w32 n) n
of_le32 n h = record { is = spells-number of_field w32 (to_le_bytes w32) n h }

of_le64 : (n : ℕ) → n < 2 ^ 64 → Spells (field (le w64)) (to_le_bytes w64 n) n
of_le64 n h = record { is = spells-number of_field w64 (to_le_bytes w64) n h }

of_be16 : (n : ℕ) → n < 2 ^ 16 → Spells (field (be w16)) (to_be_bytes w16 n) n
of_be16 n h = record { is = spells-number of_field w16 (to_be_bytes w16) n h }

of_byte : (b : ℕ) → Spells (field byte) (b ∷ []) b
of_byte b = record { is = spells-byte of_field b }

of_bytes : (n : ℕ) (bytes : List ℕ) → length bytes ≡ n → Spells (field (some_bytes n)) bytes bytes
of_bytes n bytes h = record { is = spells-some_bytes of_field n bytes h }

of_services : (i n : ℕ) → n < 2 ^ 64 → Spells (map_fault (of_number i) compact) (compact_size n) n
of_services i n h = record { is = spells-compact (of_number i) n h }

of_addr : (i : ℕ) (a : Address) → IsAddress a → Spells (map_fault (of_address i) addrv2_address) (address_text a) (Some a)
of_addr i a is = record { is = spells-map_fault (of_address i) addrv2_address (address_text a) (Some a) (spells-address a is) }

of_layout : (i : ℕ) → Spells (layout_field i (2 ^ 10)) (to_le_bytes w32 0x20035b60) 0x20035b60
unfolding layout_field
of_layout i = both _ (of_le32 0x20035b60 (omega arith)) (of_test _ _ _ refl)

of_success : (i n : ℕ) → n < 2 ^ 32 → Spells (success_field i) (to_le_bytes w64 n) n
unfolding success_field
of_success i n low = both _ (of_le64 n (omega arith)) (of_test _ _ _ (lt-ltb n (2 ^ 32) low))

of_attempts : (i n : ℕ) → n < 2 ^ 31 → Spells (attempts_field i) (to_le_bytes w32 n) n
unfolding attempts_field
of_attempts i n low = both _ (of_le32 n (omega arith)) (of_test _ _ _ (lt-ltb n (2 ^ 31) low))

pub of_record : (i : ℕ) (r : FileRec) → IsFileRec r → Spells (record_format i) (record_text r) r
unfolding record_format record_text
of_record i r is =
    let few = is.attempts in
    both _ (of_layout i) (both _ (of_le32 r.time is.time) (both _ (of_services i r.services is.services) (both _ (of_addr i r.peer.addr is.addr)
    (both _ (of_be16 r.peer.port is.port) (both _ (of_addr i r.source is.source) (both _ (of_success i r.last_success is.last_success)
    (both _ (of_attempts i r.attempts (omega arith)) (of_nothing r))))))))

of_count : (kind : Which) (limit n : ℕ) → n ≤ limit → limit < 2 ^ 32 → Spells (count_field kind limit) (to_le_bytes w32 n) n
unfolding count_field
of_count kind limit n few low = both _ (of_le32 n (omega arith)) (of_test _ _ _ (le-leb n limit few))

of_indexes : (i : ℕ) (ns : List ℕ) → All (λ n. n < 2 ^ 32) ns → Spells (times i (length ns) (λ _. field (le w32))) (flat_map (to_le_bytes w32) ns) ns
unfolding times
of_indexes i [] all = of_nothing []
of_indexes i (n ∷ ns) all =
    let rest = of_indexes (i + 1) ns (All-tail (λ m. m < 2 ^ 32) n ns all) in
    subst (λ t. Spells (times i (suc (length ns)) (λ _. field (le w32))) (to_le_bytes w32 n ++ t) (n ∷ ns)) (append-nil (flat_map (to_le_bytes w32) ns))
    (both _ (of_le32 n (All-head (λ m. m < 2 ^ 32) n ns all)) (both _ rest (of_nothing (n ∷ ns))))

of_records : (i : ℕ) (rs : List FileRec) → All IsFileRec rs → Spells (times i (length rs) (record_in 4)) (flat_map record_text rs) rs
unfolding times
of_records i [] all = of_nothing []
of_records i (r ∷ rs) all =
    let rest = of_records (i + 1) rs (All-tail IsFileRec r rs all) in
    subst (λ t. Spells (times i (suc (length rs)) (record_in 4)) (record_text r ++ t) (r ∷ rs)) (append-nil (flat_map record_text rs))
    (both _ (of_record i r (All-head IsFileRec r rs all)) (both _ rest (of_nothing (r ∷ rs))))

of_range : {A : Type 0} (p : ℕ → Format FileFault A) (text : ℕ → List ℕ) (f : ℕ → A) (i n : ℕ) → ((k : ℕ) → Spells (p k) (text k) (f k))
    → Spells (times i n p) (flat_map text (range_with_len i n)) (map f (range_with_len i n))
unfolding times
of_range p text f i zero each = of_nothing []
of_range p text f i (suc n) each =
    let rest = of_range p text f (i + 1) n each in
    subst (λ t. Spells (times i (suc n) p) (text i ++ t) (f i ∷ map f (range_with_len (i + 1) n))) (append-nil (flat_map text (range_with_len (i + 1) n)))
    (both _ (each i) (both _ rest (of_nothing (f i ∷ map f (range_with_len (i + 1) n)))))

-- ---- the pairs, bucket by bucket

-- the pairs of a bucket
abbrev pub pairs_of : List (ℕ × ℕ) → ℕ → List (ℕ × ℕ)
pairs_of listed bucket = filter (λ p. p.0 == bucket) listed

indexes-kept : (new_count bucket : ℕ) (listed : List (ℕ × ℕ)) → All (λ p. p.1 < new_count) listed
    → pairs_with new_count bucket (indexes_of listed bucket) ≡ pairs_of listed bucket
indexes-kept new_count bucket [] all = refl
indexes-kept new_count bucket (p ∷ ps) all = by (p.0 == bucket) refl (indexes-kept new_count bucket ps (All-tail (λ (q : ℕ × ℕ). q.1 < new_count) p ps all))
  where
    by : (b : Bool) → (p.0 == bucket) ≡ b → map (λ i. (bucket, i)) (filter (λ i. nat_lt i new_count) (indexes_of ps bucket)) ≡ pairs_of ps bucket
        → map (λ i. (bucket, i)) (filter (λ i. nat_lt i new_count) (map (λ (q : ℕ × ℕ). q.1) (cond b (p ∷ pairs_of ps bucket) (pairs_of ps bucket)))) ≡ cond b (p ∷ pairs_of ps bucket) (pairs_of ps bucket)
    by true h rest =
        let inside = lt-ltb p.1 new_count (All-head (λ (q : ℕ × ℕ). q.1 < new_count) p ps all) in
        let same : bucket ≡ p.0 = sym ((Decides-eqb p.0 bucket).0 h) in
        ap (λ b. map (λ i. (bucket, i)) (cond b (p.1 ∷ filter (λ i. nat_lt i new_count) (indexes_of ps bucket)) (filter (λ i. nat_lt i new_count) (indexes_of ps bucket)))) inside
        ∙ (λ i. (same i, p.1) ∷ rest i)
    by false h rest = rest

few-pairs : (bucket : ℕ) (listed : List (ℕ × ℕ)) → length (pairs_of listed bucket) ≤ length listed
few-pairs bucket [] = omega arith
few-pairs bucket (p ∷ ps) = by (p.0 == bucket) (few-pairs bucket ps)
  where
    by : (b : Bool) → length (pairs_of ps bucket) ≤ length ps → length (cond b (p ∷ pairs_of ps bucket) (pairs_of ps bucket)) ≤ suc (length ps)
    by true few = omega arith
    by false few = omega arith

indexes-small : (bucket new_count : ℕ) (listed : List (ℕ × ℕ)) → new_count < 2 ^ 32 → All (λ p. p.1 < new_count) listed → All (λ n. n < 2 ^ 32) (indexes_of listed bucket)
indexes-small bucket new_count listed low all =
    All-map (λ n. n < 2 ^ 32) (λ (p : ℕ × ℕ). p.1) (pairs_of listed bucket)
    (All-filter (λ (p : ℕ × ℕ). p.0 == bucket) (λ (p : ℕ × ℕ). p.1 < 2 ^ 32) listed (λ k d within. let h = all k d within in omega arith))

of_bucket : (new_count bucket : ℕ) (listed : List (ℕ × ℕ)) → new_count < 2 ^ 32 → length listed < 2 ^ 31 → All (λ p. p.1 < new_count) listed
    → Spells (bucket_of new_count bucket) (bucket_text listed bucket) (pairs_of listed bucket)
unfolding bucket_of bucket_text
of_bucket new_count bucket listed low few all =
    let indexes = indexes_of listed bucket in
    let short : length indexes < 2 ^ 31 = (let some = few-pairs bucket listed in omega (arith, length-map (pairs_of listed bucket) (λ (p : ℕ × ℕ). p.1))) in
    let number : length indexes ≡ entries_of (length indexes) = sym (ap (λ b. if b then length indexes else 0) (lt-ltb (length indexes) (2 ^ 31) short)) in
    subst (λ t. Spells (bucket_of new_count bucket) (to_le_bytes w32 (length indexes) ++ t) (pairs_of listed bucket)) (append-nil (flat_map (to_le_bytes w32) indexes))
    (both _ (of_le32 (length indexes) (omega arith))
    (both _ (subst (λ n. Spells (times 0 n (λ _. field (le w32))) (flat_map (to_le_bytes w32) indexes) indexes) number (of_indexes 0 indexes (indexes-small bucket new_count listed low all)))
    (subst (λ v. Spells (value {F = FileFault} v) [] (pairs_of listed bucket)) (sym (indexes-kept new_count bucket listed all)) (of_nothing (pairs_of listed bucket)))))

-- the first bucket's pairs come first
split : (a : ℕ) (xs : List (ℕ × ℕ)) → All (λ p. a ≤ p.0) xs → AllPairs (λ p q. p.0 ≤ q.0) xs → xs ≡ pairs_of xs a ++ filter (λ p. not (p.0 == a)) xs
split a [] low rising = refl
split a (x ∷ xs) low rising = by (x.0 == a) refl (split a xs (All-tail (λ (p : ℕ × ℕ). a ≤ p.0) x xs low) tail)
  where
    tail : AllPairs (λ (p : ℕ × ℕ) (q : ℕ × ℕ). p.0 ≤ q.0) xs
    tail i j d l w = rising (suc i) (suc j) d (omega arith) (omega arith)

    by : (b : Bool) → (x.0 == a) ≡ b → xs ≡ pairs_of xs a ++ filter (λ p. not (p.0 == a)) xs
        → x ∷ xs ≡ cond b (x ∷ pairs_of xs a) (pairs_of xs a) ++ cond (not b) (x ∷ filter (λ (p : ℕ × ℕ). not (p.0 == a)) xs) (filter (λ (p : ℕ × ℕ). not (p.0 == a)) xs)
    by true h rest = ap (λ l. x ∷ l) rest
    by false h rest =
        let above : All (λ (p : ℕ × ℕ). p.0 ≢ a) xs = (λ k d within same.
        let first = All-head (λ (p : ℕ × ℕ). a ≤ p.0) x xs low in
        let later : x.0 ≤ (get_or xs k d).0 = rising 0 (suc k) d (omega arith) (omega arith) in
        eqb-false x.0 a h (omega arith)) in
        let none : pairs_of xs a ≡ [] = nothing xs above in
        (λ i. x ∷ (rest ∙ ap (λ l. l ++ filter (λ (p : ℕ × ℕ). not (p.0 == a)) xs) none) i) ∙ ap (λ l. l ++ x ∷ filter (λ (p : ℕ × ℕ). not (p.0 == a)) xs) (sym none)
      where
        nothing : (ys : List (ℕ × ℕ)) → All (λ (p : ℕ × ℕ). p.0 ≢ a) ys → pairs_of ys a ≡ []
        nothing [] all = refl
        nothing (y ∷ ys) all =
            ap (λ b. cond b (y ∷ pairs_of ys a) (pairs_of ys a)) (ne_eqb y.0 a (All-head (λ (p : ℕ × ℕ). p.0 ≢ a) y ys all))
            ∙ nothing ys (All-tail (λ (p : ℕ × ℕ). p.0 ≢ a) y ys all)

other-bucket : (a b : ℕ) (xs : List (ℕ × ℕ)) → a ≢ b → pairs_of (filter (λ p. not (p.0 == a)) xs) b ≡ pairs_of xs b
other-bucket a b [] apart = refl
other-bucket a b (x ∷ xs) apart = by (x.0 == a) refl (other-bucket a b xs apart)
  where
    by : (c : Bool) → (x.0 == a) ≡ c → pairs_of (filter (λ (p : ℕ × ℕ). not (p.0 == a)) xs) b ≡ pairs_of xs b
        → pairs_of (cond (not c) (x ∷ filter (λ (p : ℕ × ℕ). not (p.0 == a)) xs) (filter (λ (p : ℕ × ℕ). not (p.0 == a)) xs)) b ≡ cond (x.0 == b) (x ∷ pairs_of xs b) (pairs_of xs b)
    by true h rest = rest ∙ ap (λ c. cond c (x ∷ pairs_of xs b) (pairs_of xs b)) (sym (ne_eqb x.0 b (λ same. apart (sym ((Decides-eqb x.0 a).0 h) ∙ same))))
    by false h rest = ap (λ l. cond (x.0 == b) (x ∷ l) l) rest

range-from : (a n k d : ℕ) → k < n → a ≤ get_or (range_with_len a n) k d
range-from a n k d within = omega (arith, get_or-range_with_len a n k d within)

map-same : {X Y : Type 0} (f g : X → Y) (xs : List X) → All (λ x. f x ≡ g x) xs → map f xs ≡ map g xs
map-same f g [] all = refl
map-same {X} f g (x ∷ xs) all =
    let rest = map-same f g xs (All-tail (λ (y : X). f y ≡ g y) x xs all) in
    let first = All-head (λ (y : X). f y ≡ g y) x xs all in
    λ i. first i ∷ rest i

pub regroup : (a n : ℕ) (xs : List (ℕ × ℕ)) → All (λ p. (a ≤ p.0) × (p.0 < a + n)) xs → AllPairs (λ p q. p.0 ≤ q.0) xs
    → flat_map (λ ps. ps) (map (pairs_of xs) (range_with_len a n)) ≡ xs
regroup a zero [] all rising = refl
regroup a zero (x ∷ xs) all rising = let h = All-head (λ (p : ℕ × ℕ). (a ≤ p.0) × (p.0 < a + 0)) x xs all in let low = h.0 in let high = h.1 in absurd (omega arith)
regroup a (suc n) xs all rising =
    let others = filter (λ (p : ℕ × ℕ). not (p.0 == a)) xs in
    let low : All (λ (p : ℕ × ℕ). a ≤ p.0) xs = (λ k d within. (all k d within).0) in
    let bounds : All (λ (p : ℕ × ℕ). (a + 1 ≤ p.0) × (p.0 < a + 1 + n)) others = (λ k d within.
    let h = All-filter (λ (p : ℕ × ℕ). not (p.0 == a)) (λ (p : ℕ × ℕ). (a ≤ p.0) × (p.0 < a + suc n)) xs all k d within in
    let passes = filter_passes (λ (p : ℕ × ℕ). not (p.0 == a)) xs k d within in
    let differs : (get_or others k d).0 ≢ a = (λ same. both_ways (not ((get_or others k d).0 == a)) (ap not ((Decides-eqb (get_or others k d).0 a).1 same)) passes) in
    let from = h.0 in let below = h.1 in (omega (arith, differs), omega arith)) in
    let later = map-same (pairs_of xs) (pairs_of others) (range_with_len (a + 1) n) (λ k d within.
    sym (other-bucket a (get_or (range_with_len (a + 1) n) k d) xs
    (λ same. let long = length-range_with_len (a + 1) n in omega (arith, same, range-from (a + 1) n k d (omega arith))))) in
    let rest = regroup (a + 1) n others bounds (AllPairs-filter (λ (p : ℕ × ℕ) (q : ℕ × ℕ). p.0 ≤ q.0) (λ (p : ℕ × ℕ). not (p.0 == a)) xs rising) in
    ap (λ ls. pairs_of xs a ++ flat_map (λ ps. ps) ls) later ∙ ap (λ l. pairs_of xs a ++ l) rest ∙ sym (split a xs low rising)

of_buckets : (count : ℕ) → count ≡ 1024 → Spells buckets_field (to_le_bytes w32 (bit_xor count (2 ^ 30))) count
unfolding buckets_field
of_buckets count is = subst (λ n. Spells buckets_field (to_le_bytes w32 (bit_xor n (2 ^ 30))) n) (sym is) (both _ (of_le32 (2 ^ 30 + 1024) (omega arith)) (of_test _ _ _ refl))

of_head : (snap : Snapshot) → IsWritten snap → Spells head (head_text snap) (head_with 4 snap.key (length snap.new_recs) (length snap.tried_recs) snap.bucket_count)
unfolding head head_text
of_head snap written =
    let is = written.snapshot in
    both _ (of_byte 4) (both _ (of_byte 36) (both _ (of_test _ _ _ refl) (both _ (of_test _ _ _ refl) (both _ (of_bytes 32 snap.key is.key_length)
    (both _ (of_count _ _ (length snap.new_recs) is.few_new (omega arith)) (both _ (of_count _ _ (length snap.tried_recs) is.few_tried (omega arith))
    (both _ (of_buckets snap.bucket_count written.buckets) (of_nothing (head_with 4 snap.key (length snap.new_recs) (length snap.tried_recs) snap.bucket_count)))))))))

of_all_buckets : (snap : Snapshot) → IsWritten snap → Spells (buckets_of (length snap.new_recs) snap.bucket_count) (flat_map (bucket_text snap.listed) (range_with_len 0 snap.bucket_count)) snap.listed
unfolding buckets_of
of_all_buckets snap written =
    let is = written.snapshot in
    let some = is.few_new in
    let few = written.few_listed in
    let pairs = regroup 0 snap.bucket_count snap.listed (λ k d within. let h = is.buckets k d within in (omega arith, omega arith)) is.rising in
    subst (λ t. Spells (buckets_of (length snap.new_recs) snap.bucket_count) t snap.listed) (append-nil (flat_map (bucket_text snap.listed) (range_with_len 0 snap.bucket_count)))
    (both _ (of_range (bucket_of (length snap.new_recs)) (bucket_text snap.listed) (pairs_of snap.listed) 0 snap.bucket_count (λ k. of_bucket (length snap.new_recs) k snap.listed (omega arith) (omega arith) is.indexes))
    (subst (λ l. Spells (value {F = FileFault} l) [] snap.listed) (sym pairs) (of_nothing snap.listed)))

-- what is written between magic and sum spells the snapshot
pub of_body : (snap : Snapshot) → IsWritten snap → Spells body (body_text snap) snap
unfolding body body_text
of_body snap written =
    let is = written.snapshot in
    let ends = subst (λ t. Spells (sequence (sum_in 4) (λ sum. value {F = FileFault} (record snap { sum = sum }))) t snap) (append-nil snap.sum) (both _ (of_bytes 32 snap.sum is.sum_length) (of_nothing snap)) in
    (both _ (of_head snap written) (both _ (of_records 0 snap.new_recs written.new_recs) (both _ (of_records (length snap.new_recs) snap.tried_recs written.tried_recs) (both _ (of_all_buckets snap written) ends))))
