-- The written file as a whole: it is the file of its anchors, has no fault, and is below the limit.
use Rattle.std.proofs.Common.{◌≡◌, ◌≢◌, ℕ, suc, ◌+◌, ◌-◌, ◌*◌, ◌≤◌, ◌<◌, ◌^◌, Bool, true, false, not, cond, ltb, List, [], ◌∷◌, ◌++◌, length, take, drop, All, Option, Some, None, Result, Ok, Err, refl, sym, ap, subst, ◌∙◌, ⊎_elim, arith, le-ltb}
use Rattle.std.proofs.lemmas.Bool.{eq-eqb}
use Rattle.std.specs.Prelude.{bytes_eq}
use Rattle.std.specs.List.{flat_map}
use Rattle.std.specs.Int.{w16, w32, w64, to_le_bytes, to_be_bytes}
use Rattle.std.proofs.lemmas.List.{append_assoc, append-nil, length-append, take_at, drop_at}
use Rattle.std.proofs.lemmas.List.Elements.{All-head, All-tail}
use Rattle.sha2.proofs.Facts256.{length-sha256}
use Rattle.sha2.specs.Sha256.{sha256}
use Rattle.net_addr.specs.Address.{Address, IsAddress, length_of, internal_prefix}
use Rattle.net_addr.specs.declared.peer.Entry.{Entry}
use Rattle.net_addr.specs.declared.net.Net.{Net}
use Rattle.net_addr.specs.declared.net.Net.TheVariants.{Unroutable, Ipv4, Ipv6, Onion, I2p, Cjdns, Internal}
use Rattle.wire_num.specs.CompactSize.{compact_size}
use Rattle.wire_num.specs.Format.{Begins}
use Rattle.addr_codecs.specs.Entries.{IsEntry}
use Rattle.addr_codecs.specs.Texts.{address_text, id_of, prefix_of}
use Rattle.placing.specs.Places.{double_sha256}
use Rattle.anchors.specs.declared.fault.AnchorsFault.{AnchorsFault}
use Rattle.anchors.specs.declared.fault.AnchorsFault.TheVariants.{Trailing}
use Rattle.anchors.specs.Layout.{body, between, whole_fault, IsFile, HasFileFault}
use Rattle.anchors.specs.Readings.{body_at}
use Rattle.anchors.specs.Texts.{anchor_text, body_text, file_text}
use Rattle.anchors.proofs.FileLaws.{Reads-body}
use Rattle.anchors.proofs.TextLaws.{of_body}

length-sum : (bytes : List ℕ) → length (double_sha256 bytes) ≡ 32
unfolding double_sha256
length-sum bytes = length-sha256 (sha256 bytes)

-- the parts of a written file
abbrev before_sum : List ℕ → List Entry → List ℕ
before_sum magic es = magic ++ body_text es

file_parts : (magic : List ℕ) (es : List Entry) → file_text magic es ≡ before_sum magic es ++ double_sha256 (before_sum magic es)
unfolding file_text
file_parts magic es = refl

same_bytes : (xs : List ℕ) → bytes_eq xs xs ≡ true
same_bytes [] = refl
same_bytes (x ∷ xs) = rw (eq-eqb x x refl) (same_bytes xs)

all_pass : (a b c d : Bool) (e f g h : AnchorsFault) → a ≡ false → b ≡ false → c ≡ true → d ≡ true → cond a (Some e) (cond b (Some f) (cond (not c) (Some g) (cond (not d) (Some h) None))) ≡ None
all_pass a b c d e f g h one two three four = rw (one, two, three, four) refl

-- a file of these parts passes the tests of a file as a whole, and has the body between them
record Whole (magic bytes b : List ℕ) : Type 0 where
  passes : whole_fault magic bytes ≡ None
  inside : between bytes ≡ b

whole_of : (magic m b s bytes : List ℕ) → length magic ≡ 4 → m ≡ magic → s ≡ double_sha256 (m ++ b) → bytes ≡ (m ++ b) ++ s → length bytes ≤ 1048576 → Whole magic bytes b
unfolding whole_fault
whole_of magic m b s bytes long_magic is_magic is_sum is few =
    let four : length m ≡ 4 = ap length is_magic ∙ long_magic in
    let long : length s ≡ 32 = ap length is_sum ∙ length-sum (m ++ b) in
    let n = length bytes - 32 in
    let total : length bytes ≡ length (m ++ b) + 32 = ap length is ∙ length-append (m ++ b) s ∙ ap (λ k. length (m ++ b) + k) long in
    let at : length (m ++ b) ≡ n = omega arith in
    let front : take n bytes ≡ m ++ b = ap (take n) is ∙ take_at (m ++ b) s n at in
    let back : drop n bytes ≡ s = ap (drop n) is ∙ drop_at (m ++ b) s n at in
    let first : take 4 bytes ≡ m = ap (take 4) (is ∙ append_assoc m b s) ∙ take_at m (b ++ s) 4 four in
    let right_magic : bytes_eq (take 4 bytes) magic ≡ true = ap (λ x. bytes_eq x magic) (first ∙ is_magic) ∙ same_bytes magic in
    let right_sum : bytes_eq (drop n bytes) (double_sha256 (take n bytes)) ≡ true = ap (λ x. bytes_eq x (double_sha256 (take n bytes))) (back ∙ is_sum ∙ ap double_sha256 (sym front)) ∙ same_bytes (double_sha256 (take n bytes)) in
    record {
      passes = all_pass (ltb 1048576 (length bytes)) (ltb (length bytes) 36) (bytes_eq (take 4 bytes) magic) (bytes_eq (drop n bytes) (double_sha256 (take n bytes))) _ _ _ _
          (le-ltb _ _ few) (le-ltb _ _ (omega (arith, length-append m b))) right_magic right_sum;
      inside = ap (drop 4) front ∙ drop_at m b 4 four;
    }

-- ---- sizes

short_number : (a b c : Bool) (n : ℕ) → length (cond a (n ∷ []) (cond b (253 ∷ to_le_bytes w16 n) (cond c (254 ∷ to_le_bytes w32 n) (255 ∷ to_le_bytes w64 n)))) ≤ 9
short_number true b c n = omega arith
short_number false true c n = omega arith
short_number false false true n = omega arith
short_number false false false n = omega arith

short_compact : (n : ℕ) → length (compact_size n) ≤ 9
unfolding compact_size
short_compact n = short_number (ltb n 253) (ltb n (2 ^ 16)) (ltb n (2 ^ 32)) n

short_bytes : (net : Net) (bytes : List ℕ) → net ≢ Unroutable → length bytes ≡ length_of net → length (prefix_of net ++ bytes) ≤ 32
short_bytes Unroutable bytes own is = absurd (own refl)
short_bytes Ipv4 bytes own is = omega arith
short_bytes Ipv6 bytes own is = omega arith
short_bytes Onion bytes own is = omega arith
short_bytes I2p bytes own is = omega arith
short_bytes Cjdns bytes own is = omega arith
short_bytes Internal bytes own is = omega (arith, length-append internal_prefix bytes)

short_address : (a : Address) → IsAddress a → length (address_text a) ≤ 42
unfolding address_text
short_address a is =
    let bytes = prefix_of a.net ++ a.bytes in
    let few = short_bytes a.net a.bytes is.network is.length in
    let number = short_compact (length bytes) in
    let parts : (id_of a.net ∷ []) ++ compact_size (length bytes) ++ prefix_of a.net ++ a.bytes ≡ id_of a.net ∷ (compact_size (length bytes) ++ bytes) = ap (λ t. id_of a.net ∷ t) (append_assoc (compact_size (length bytes)) (prefix_of a.net) a.bytes) in
    let long = ap length parts in
    omega (arith, long, length-append (compact_size (length bytes)) bytes)

short_anchor : (e : Entry) → IsEntry e → length (anchor_text e) ≤ 61
unfolding anchor_text
short_anchor e is =
    let services = short_compact e.services in
    let addr = short_address e.peer.addr is.addr in
    let from_addr = address_text e.peer.addr ++ to_be_bytes w16 e.peer.port in
    omega (arith, length-append (compact_size e.services) from_addr, length-append (address_text e.peer.addr) (to_be_bytes w16 e.peer.port))

short_all : (es : List Entry) → All IsEntry es → length (flat_map anchor_text es) ≤ 61 * length es
short_all [] all = omega arith
short_all (e ∷ es) all =
    let one = short_anchor e (All-head IsEntry e es all) in
    let rest = short_all es (All-tail IsEntry e es all) in
    let more : 61 * suc (length es) ≡ 61 + 61 * length es = omega arith in
    omega (arith, length-append (anchor_text e) (flat_map anchor_text es))

pub short_file : (magic : List ℕ) (es : List Entry) → length magic ≡ 4 → length es ≤ 1000 → All IsEntry es → length (file_text magic es) < 1048576
unfolding file_text body_text
short_file magic es long few all =
    let count = short_compact (length es) in
    let anchors = short_all es all in
    let inside = compact_size (length es) ++ flat_map anchor_text es in
    omega (
      arith,
      count,
      anchors,
      long,
      length-sum (magic ++ inside),
      length-append (magic ++ inside) (double_sha256 (magic ++ inside)),
      length-append magic inside,
      length-append (compact_size (length es)) (flat_map anchor_text es),
    )

whole_file : (magic : List ℕ) (es : List Entry) → length magic ≡ 4 → length es ≤ 1000 → All IsEntry es → Whole magic (file_text magic es) (body_text es)
whole_file magic es long few all =
    let short = short_file magic es long few all in
    whole_of magic magic (body_text es) (double_sha256 (magic ++ body_text es)) (file_text magic es) long refl refl (file_parts magic es) (omega arith)

-- the written file is the file of its anchors
pub is_file : (magic : List ℕ) (es : List Entry) → length magic ≡ 4 → length es ≤ 1000 → All IsEntry es → IsFile magic (file_text magic es) es
is_file magic es long few all =
    let whole = whole_file magic es long few all in
    (whole.passes, subst (λ t. body.spells t es) (sym whole.inside) (of_body es few all).is)

abbrev read : List Entry × List ℕ → Result (List Entry × List ℕ) AnchorsFault
read x = Ok x

-- the written file has no fault
pub no_fault : (magic : List ℕ) (es : List Entry) → length magic ≡ 4 → length es ≤ 1000 → All IsEntry es → (f : AnchorsFault) → HasFileFault magic (file_text magic es) f → ⊥
no_fault magic es long few all f fault =
    ⊎_elim (λ early. none_or_some whole.passes early) (λ h. ⊎_elim (λ shown. ok_or_err (sym is_read ∙ Reads-body.first (between (file_text magic es)) f shown))
    (λ x. h_trailing x) h.1) fault
  where
    whole : Whole magic (file_text magic es) (body_text es)
    whole = whole_file magic es long few all

    is_read : body_at (between (file_text magic es)) ≡ Ok (es, [])
    is_read = Reads-body.only (between (file_text magic es)) es [] (record { front = between (file_text magic es); joined = sym (append-nil (between (file_text magic es))); spelled = (is_file magic es long few all).1 })

    none_or_some : {o : Option AnchorsFault} {e : AnchorsFault} → o ≡ None → o ≡ Some e → ⊥
    none_or_some {o = o} {e = e} none some = absurd cc

    ok_or_err : {x : List Entry × List ℕ} {e : AnchorsFault} → read x ≡ Err e → ⊥
    ok_or_err {x = x} {e = e} is = absurd cc

    same_read : {x y : List Entry × List ℕ} → read x ≡ read y → x ≡ y
    same_read {x = x} {y = y} is = cc

    h_trailing : (a : List Entry) × (rest : List ℕ) × Begins body (between (file_text magic es)) a rest × (rest ≢ []) × (f ≡ Trailing) → ⊥
    h_trailing x =
        let same = same_read (sym is_read ∙ Reads-body.only (between (file_text magic es)) x.0 x.1 x.2) in
        x.3 (sym (ap (λ (p : List Entry × List ℕ). p.1) same))
