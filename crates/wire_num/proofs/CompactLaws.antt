-- A CompactSize is read exactly as it is spelled.
use Rattle.std.proofs.Common.{◌≡◌, ℕ, suc, ◌*◌, ◌^◌, ◌<◌, ◌≤◌, leb, List, [], ◌∷◌, ◌++◌, length, take, drop, Result, Ok, Err, refl, sym, ap, subst, ◌∙◌, inl, inr, arith, lit≤, ◌↔◌}
use Rattle.std.specs.Prelude.{IfOk}
use Rattle.std.specs.Int.{Width, w16, w32, w64, byte_len, to_le_bytes, from_le_bytes}
use Rattle.std.proofs.lemmas.Bool.{cases_lt, ne_eqb, lt-ltb, le-ltb, leb-true, leb-false, le-leb, lt-leb}
use Rattle.std.proofs.lemmas.List.{append-nil, append_cancel_right, take-append-drop, length-append, length-drop}
use Rattle.wire_num.specs.declared.fault.WireFault.{WireFault}
use Rattle.wire_num.specs.declared.fault.WireFault.TheVariants.{Truncated, NonCanonical}
use Rattle.wire_num.specs.CompactSize.{compact_size, IsCut, IsLong, spelling_length}
use Rattle.wire_num.specs.Format.{Format, Begins, sequence, check}
use Rattle.wire_num.specs.Fields.{number, le, compact, CompactFault}
use Rattle.wire_num.specs.Readings.{le_at, wide_at, compact_at, GivesLength, check_at}
use Rattle.wire_num.proofs.ReadingLaws.{AreBytes, Reads, Reads-then, Reads-check, ok_is, err_is, apart}
use Rattle.wire_num.proofs.FieldLaws.{IsWide, le16, le32, le64, Reads-number}

-- a number of a width that is not below `least`
wide : Width → ℕ → Format WireFault ℕ
wide w least = sequence (le w) (λ n. check (leb least n) NonCanonical n)

Reads-wide : (w : Width) (least : ℕ) → IsWide w (to_le_bytes w) (from_le_bytes w) → Reads (wide w least) (wide_at w least)
unfolding wide
Reads-wide w least is_wide =
    Reads-then (le w) (λ n. check (leb least n) NonCanonical n) (le_at w) (λ n. check_at (leb least n) NonCanonical n) (Reads-number w (to_le_bytes w) (from_le_bytes w) is_wide) (λ n. Reads-check (leb least n) NonCanonical n)

record IsIn (w : Width) (least : ℕ) (bytes : List ℕ) (n : ℕ) : Type 0 where
  enough : least ≤ n
  fits : n < 2 ^ (8 * byte_len w)
  spelled : bytes ≡ to_le_bytes w n

wide_is : (w : Width) (least : ℕ) (bytes : List ℕ) (n : ℕ) → (wide w least).spells bytes n → IsIn w least bytes n
unfolding wide sequence check number
wide_is w least bytes n h =
    let same : h.0 ≡ n = h.3.2 in
    let joined : bytes ≡ h.2.front = h.2.joined ∙ ap (λ (t : List ℕ). h.2.front ++ t) h.3.1 ∙ append-nil h.2.front in
    record {
      enough = subst (λ (m : ℕ). least ≤ m) same (leb-true least h.0 h.3.0);
      fits = subst (λ (m : ℕ). m < 2 ^ (8 * byte_len w)) same h.2.spelled.0;
      spelled = joined ∙ h.2.spelled.1 ∙ ap (to_le_bytes w) same;
    }

of_wide : (w : Width) (least n : ℕ) → least ≤ n → n < 2 ^ (8 * byte_len w) → (wide w least).spells (to_le_bytes w n) n
unfolding wide sequence check number
of_wide w least n h fits = (n, [], record { front = to_le_bytes w n; joined = sym (append-nil (to_le_bytes w n)); spelled = (fits, refl) }, (le-leb least n h, refl, refl))

-- ---- the four lengths of a spelling

size_1 : (n : ℕ) → n < 253 → compact_size n ≡ n ∷ []
unfolding compact_size
size_1 n h = rw (lt-ltb n 253 h) refl

size_3 : (n : ℕ) → 253 ≤ n → n < 2 ^ 16 → compact_size n ≡ 253 ∷ to_le_bytes w16 n
unfolding compact_size
size_3 n h k = rw (le-ltb n 253 h, lt-ltb n (2 ^ 16) k) refl

size_5 : (n : ℕ) → 2 ^ 16 ≤ n → n < 2 ^ 32 → compact_size n ≡ 254 ∷ to_le_bytes w32 n
unfolding compact_size
size_5 n h k = rw (le-ltb n 253 (omega arith), le-ltb n (2 ^ 16) h, lt-ltb n (2 ^ 32) k) refl

size_9 : (n : ℕ) → 2 ^ 32 ≤ n → compact_size n ≡ 255 ∷ to_le_bytes w64 n
unfolding compact_size
size_9 n h = rw (le-ltb n 253 (omega arith), le-ltb n (2 ^ 16) (omega arith), le-ltb n (2 ^ 32) h) refl

at_1 : (b : ℕ) (rest : List ℕ) → b < 253 → compact_at (b ∷ rest) ≡ Ok (b, rest)
unfolding compact_at
at_1 b rest h = rw (lt-ltb b 253 h) refl

at_3 : (rest : List ℕ) → compact_at (253 ∷ rest) ≡ wide_at w16 253 rest
unfolding compact_at
at_3 rest = refl

at_5 : (rest : List ℕ) → compact_at (254 ∷ rest) ≡ wide_at w32 (2 ^ 16) rest
unfolding compact_at
at_5 rest = refl

at_9 : (rest : List ℕ) → compact_at (255 ∷ rest) ≡ wide_at w64 (2 ^ 32) rest
unfolding compact_at
at_9 rest = refl

-- a first byte
data First (b : ℕ) : Type 0 where
  short : b < 253 → First b
  is_253 : b ≡ 253 → First b
  is_254 : b ≡ 254 → First b
  is_255 : b ≡ 255 → First b

first_of_byte : (b : ℕ) → b < 256 → First b
first_of_byte b h =
    elim (cases_lt b 253) [
      | inl lt ↦ short lt
      | inr le ↦ elim (cases_lt b 254) [
        | inl lt ↦ is_253 (omega arith)
        | inr le' ↦ elim (cases_lt b 255) [
          | inl lt ↦ is_254 (omega arith)
          | inr le'' ↦ is_255 (omega arith)
        ]
      ]
    ]

-- ---- what is read is spelled so

found_in : (w : Width) (least first : ℕ) (rest : List ℕ) (n : ℕ) (after : List ℕ) → IsWide w (to_le_bytes w) (from_le_bytes w) → AreBytes rest → wide_at w least rest ≡ Ok (n, after)
    → ((m : ℕ) → least ≤ m → m < 2 ^ (8 * byte_len w) → (m < 2 ^ 64) × (compact_size m ≡ first ∷ to_le_bytes w m)) → Begins compact (first ∷ rest) n after
unfolding compact
found_in w least first rest n after is_wide fits e size =
    let one = (Reads-wide w least is_wide).found rest n after fits e in
    let is = wide_is w least one.front n one.spelled in
    let sized = size n is.enough is.fits in
    record { front = compact_size n; joined = ap (λ (t : List ℕ). first ∷ t) (one.joined ∙ ap (λ (t : List ℕ). t ++ after) is.spelled) ∙ ap (λ (t : List ℕ). t ++ after) (sym sized.1); spelled = (sized.0, refl) }

Found : List ℕ → ℕ → Type 0
Found rest b = AreBytes rest → (n : ℕ) (after : List ℕ) → compact_at (b ∷ rest) ≡ Ok (n, after) → Begins compact (b ∷ rest) n after

found_by : (b : ℕ) (rest : List ℕ) → First b → Found rest b
unfolding Found compact
found_by b rest (short lt) = λ fits n after e.
    let same = ok_is {F = WireFault} (b, rest) (n, after) (sym (at_1 b rest lt) ∙ e) in
    record { front = b ∷ []; joined = ap (λ (p : ℕ × List ℕ). b ∷ p.1) same; spelled = (omega (arith, ap (λ (p : ℕ × List ℕ). p.0) same), ap (λ (p : ℕ × List ℕ). p.0 ∷ []) same ∙ sym (size_1 n (omega (arith, ap (λ (p : ℕ × List ℕ). p.0) same)))) }
found_by b rest (is_253 is) = subst (Found rest) (sym is) (λ fits n after e. found_in w16 253 253 rest n after le16 fits (sym (at_3 rest) ∙ e) (λ m h k. (omega arith, size_3 m h k)))
found_by b rest (is_254 is) = subst (Found rest) (sym is) (λ fits n after e. found_in w32 (2 ^ 16) 254 rest n after le32 fits (sym (at_5 rest) ∙ e) (λ m h k. (omega arith, size_5 m h k)))
found_by b rest (is_255 is) = subst (Found rest) (sym is) (λ fits n after e. found_in w64 (2 ^ 32) 255 rest n after le64 fits (sym (at_9 rest) ∙ e) (λ m h k. (k, size_9 m h)))

compact_found : (bytes : List ℕ) (n : ℕ) (after : List ℕ) → AreBytes bytes → compact_at bytes ≡ Ok (n, after) → Begins compact bytes n after
unfolding compact_at Found
compact_found [] n after fits e = absurd cc
compact_found (b ∷ rest) n after fits e = found_by b rest (first_of_byte b (fits 0)) (λ i. fits (suc i)) n after e

-- ---- what is spelled so is read

only_in : (w : Width) (least first n : ℕ) (after : List ℕ) → IsWide w (to_le_bytes w) (from_le_bytes w) → least ≤ n → n < 2 ^ (8 * byte_len w) → wide_at w least (to_le_bytes w n ++ after) ≡ Ok (n, after)
only_in w least first n after is_wide h fits = (Reads-wide w least is_wide).only (to_le_bytes w n ++ after) n after (record { front = to_le_bytes w n; joined = refl; spelled = of_wide w least n h fits })

pub compact_again : (n : ℕ) (after : List ℕ) → n < 2 ^ 64 → compact_at (compact_size n ++ after) ≡ Ok (n, after)
compact_again n after fits =
    elim (cases_lt n 253) [
      | inl lt ↦ ap (λ (t : List ℕ). compact_at (t ++ after)) (size_1 n lt) ∙ at_1 n after lt
      | inr le ↦ elim (cases_lt n (2 ^ 16)) [
        | inl lt ↦ ap (λ (t : List ℕ). compact_at (t ++ after)) (size_3 n le lt) ∙ at_3 (to_le_bytes w16 n ++ after) ∙ only_in w16 253 253 n after le16 le lt
        | inr le' ↦ elim (cases_lt n (2 ^ 32)) [
          | inl lt ↦ ap (λ (t : List ℕ). compact_at (t ++ after)) (size_5 n le' lt) ∙ at_5 (to_le_bytes w32 n ++ after) ∙ only_in w32 (2 ^ 16) 254 n after le32 le' lt
          | inr le'' ↦ ap (λ (t : List ℕ). compact_at (t ++ after)) (size_9 n le'') ∙ at_9 (to_le_bytes w64 n ++ after) ∙ only_in w64 (2 ^ 32) 255 n after le64 le'' fits
        ]
      ]
    ]

-- ---- why nothing is read

-- a field that is cut, or a number that is not as large as its spelling
data NotIn (w : Width) (least : ℕ) (rest : List ℕ) (f : WireFault) : Type 0 where
  is_cut : length rest < byte_len w → f ≡ Truncated → NotIn w least rest f
  is_long : (n : ℕ) (after : List ℕ) → n < least → rest ≡ to_le_bytes w n ++ after → f ≡ NonCanonical → NotIn w least rest f

cause_in : (w : Width) (least : ℕ) (rest : List ℕ) (f : WireFault) → IsWide w (to_le_bytes w) (from_le_bytes w) → AreBytes rest → wide_at w least rest ≡ Err f → NotIn w least rest f
unfolding wide sequence check number
cause_in w least rest f is_wide fits e =
    elim ((Reads-wide w least is_wide).cause rest f fits e) [
      | inl shown ↦ is_cut shown.0 shown.1
      | inr x ↦ is_long x.0 x.1 (leb-false least x.0 x.3.0) (x.2.joined ∙ ap (λ (t : List ℕ). t ++ x.1) x.2.spelled.1) x.3.1
    ]

first_in : (w : Width) (least : ℕ) (rest : List ℕ) (f : WireFault) → IsWide w (to_le_bytes w) (from_le_bytes w) → least ≤ 2 ^ (8 * byte_len w) → NotIn w least rest f → wide_at w least rest ≡ Err f
unfolding wide sequence check number
first_in w least rest f is_wide h (is_cut lt is) = (Reads-wide w least is_wide).first rest f (inl (lt, is))
first_in w least rest f is_wide h (is_long n after lt joined is) =
    (Reads-wide w least is_wide).first rest f (inr (n, after, record { front = to_le_bytes w n; joined = joined; spelled = (omega arith, refl) }, (lt-leb least n lt, is)))

Cause : List ℕ → ℕ → Type 0
Cause rest b = AreBytes rest → (f : WireFault) → compact_at (b ∷ rest) ≡ Err f → CompactFault (b ∷ rest) f

cause_by : (b : ℕ) (rest : List ℕ) → First b → Cause rest b
unfolding Cause
cause_by b rest (short lt) = λ fits f e. let wrong = sym (at_1 b rest lt) ∙ e in absurd cc
cause_by b rest (is_253 is) = subst (Cause rest) (sym is) (λ fits f e.
    elim (cause_in w16 253 rest f le16 fits (sym (at_3 rest) ∙ e)) [
      | is_cut lt same ↦ subst (CompactFault (253 ∷ rest)) (sym same) (omega arith)
      | is_long n after lt joined same ↦ subst (CompactFault (253 ∷ rest)) (sym same) (inl (n, after, lt, ap (λ (t : List ℕ). 253 ∷ t) joined))
    ])
cause_by b rest (is_254 is) = subst (Cause rest) (sym is) (λ fits f e.
    elim (cause_in w32 (2 ^ 16) rest f le32 fits (sym (at_5 rest) ∙ e)) [
      | is_cut lt same ↦ subst (CompactFault (254 ∷ rest)) (sym same) (omega arith)
      | is_long n after lt joined same ↦ subst (CompactFault (254 ∷ rest)) (sym same) (inr (inl (n, after, lt, ap (λ (t : List ℕ). 254 ∷ t) joined)))
    ])
cause_by b rest (is_255 is) = subst (Cause rest) (sym is) (λ fits f e.
    elim (cause_in w64 (2 ^ 32) rest f le64 fits (sym (at_9 rest) ∙ e)) [
      | is_cut lt same ↦ subst (CompactFault (255 ∷ rest)) (sym same) (omega arith)
      | is_long n after lt joined same ↦ subst (CompactFault (255 ∷ rest)) (sym same) (inr (inr (n, after, lt, ap (λ (t : List ℕ). 255 ∷ t) joined)))
    ])

compact_cause : (bytes : List ℕ) (f : WireFault) → AreBytes bytes → compact_at bytes ≡ Err f → CompactFault bytes f
unfolding compact_at Cause
compact_cause [] f fits e = subst (CompactFault []) (err_is {A = ℕ × List ℕ} Truncated f e) tt
compact_cause (b ∷ rest) f fits e = cause_by b rest (first_of_byte b (fits 0)) (λ i. fits (suc i)) f e

-- ---- each fault is found if it is there

CutFirst : List ℕ → ℕ → Type 0
CutFirst rest b = IsCut (b ∷ rest) → compact_at (b ∷ rest) ≡ Err Truncated

cut_by : (b : ℕ) (rest : List ℕ) → First b → CutFirst rest b
unfolding CutFirst
cut_by b rest (short lt) = λ h. let one : spelling_length b ≡ 1 = rw (lt-ltb b 253 lt) refl in absurd (omega arith)
cut_by b rest (is_253 is) = subst (CutFirst rest) (sym is) (λ h. at_3 rest ∙ first_in w16 253 rest Truncated le16 (lit≤ tt) (is_cut (omega (arith, h)) refl))
cut_by b rest (is_254 is) = subst (CutFirst rest) (sym is) (λ h. at_5 rest ∙ first_in w32 (2 ^ 16) rest Truncated le32 (lit≤ tt) (is_cut (omega (arith, h)) refl))
cut_by b rest (is_255 is) = subst (CutFirst rest) (sym is) (λ h. at_9 rest ∙ first_in w64 (2 ^ 32) rest Truncated le64 (lit≤ tt) (is_cut (omega (arith, h)) refl))

-- what is above every byte begins a spelling as 255 does
at_more : (b : ℕ) (rest : List ℕ) → 255 ≤ b → compact_at (b ∷ rest) ≡ wide_at w64 (2 ^ 32) rest
unfolding compact_at
at_more b rest h = rw (le-ltb b 253 (omega arith), ne_eqb b 253 (λ e. omega arith), ne_eqb b 254 (λ e. omega arith)) refl

length_more : (b : ℕ) → 255 ≤ b → spelling_length b ≡ 9
length_more b h = rw (le-ltb b 253 (omega arith), ne_eqb b 253 (λ e. omega arith), ne_eqb b 254 (λ e. omega arith)) refl

cut_first : (b : ℕ) (rest : List ℕ) → IsCut (b ∷ rest) → compact_at (b ∷ rest) ≡ Err Truncated
unfolding CutFirst
cut_first b rest h =
    elim (cases_lt b 256) [
      | inl lt ↦ cut_by b rest (first_of_byte b lt) h
      | inr le ↦ at_more b rest (omega arith) ∙ first_in w64 (2 ^ 32) rest Truncated le64 (lit≤ tt) (is_cut (omega (arith, h, length_more b (omega arith))) refl)
    ]

long_first : (bytes : List ℕ) → IsLong bytes → compact_at bytes ≡ Err NonCanonical
long_first bytes (inl x) = ap compact_at x.3 ∙ at_3 (to_le_bytes w16 x.0 ++ x.1) ∙ first_in w16 253 (to_le_bytes w16 x.0 ++ x.1) NonCanonical le16 (lit≤ tt) (is_long x.0 x.1 x.2 refl refl)
long_first bytes (inr (inl x)) = ap compact_at x.3 ∙ at_5 (to_le_bytes w32 x.0 ++ x.1) ∙ first_in w32 (2 ^ 16) (to_le_bytes w32 x.0 ++ x.1) NonCanonical le32 (lit≤ tt) (is_long x.0 x.1 x.2 refl refl)
long_first bytes (inr (inr x)) = ap compact_at x.3 ∙ at_9 (to_le_bytes w64 x.0 ++ x.1) ∙ first_in w64 (2 ^ 32) (to_le_bytes w64 x.0 ++ x.1) NonCanonical le64 (lit≤ tt) (is_long x.0 x.1 x.2 refl refl)

compact_first : (bytes : List ℕ) (f : WireFault) → CompactFault bytes f → compact_at bytes ≡ Err f
unfolding compact_at
compact_first [] Truncated h = refl
compact_first (b ∷ rest) Truncated h = cut_first b rest h
compact_first bytes NonCanonical h = long_first bytes h

pub Reads-compact : Reads compact compact_at
unfolding compact
Reads-compact = record {
  found = λ bytes n rest fits e. compact_found bytes n rest fits e;
  only = λ bytes n rest h. ap compact_at (h.joined ∙ ap (λ (t : List ℕ). t ++ rest) h.spelled.1) ∙ compact_again n rest h.spelled.0;
  cause = λ bytes f fits e. compact_cause bytes f fits e;
  first = λ bytes f h. compact_first bytes f h;
}

-- ---- the answer with the number of bytes that were taken

pub answer_found : (bytes : List ℕ) (r : Result (ℕ × ℕ) WireFault) → AreBytes bytes → GivesLength r bytes (compact_at bytes) → IfOk r (λ x. (x.1 ≤ length bytes) × (take x.1 bytes ≡ compact_size x.0))
unfolding compact
answer_found bytes (Err f) fits given = tt
answer_found bytes (Ok x) fits given =
    let one = compact_found bytes x.0 (drop x.1 bytes) fits given.1 in
    let is : one.front ≡ compact_size x.0 = one.spelled.1 in
    let same : take x.1 bytes ++ drop x.1 bytes ≡ one.front ++ drop x.1 bytes = take-append-drop x.1 bytes ∙ one.joined in
    (given.0, append_cancel_right (take x.1 bytes) one.front (drop x.1 bytes) same ∙ is)

abbrev refusal : (A : Type 0) → WireFault → Result A WireFault
refusal A f = Err f

pub answer_only : (bytes : List ℕ) (r : Result (ℕ × ℕ) WireFault) → GivesLength r bytes (compact_at bytes) → (n : ℕ) (rest : List ℕ) → n < 2 ^ 64 → bytes ≡ compact_size n ++ rest → r ≡ Ok (n, length (compact_size n))
answer_only bytes (Err f) given n rest fits e = absurd (apart (n, rest) f (sym (compact_again n rest fits) ∙ ap compact_at (sym e) ∙ given))
answer_only bytes (Ok x) given n rest fits e =
    let same = ok_is {F = WireFault} (x.0, drop x.1 bytes) (n, rest) (sym given.1 ∙ ap compact_at e ∙ compact_again n rest fits) in
    let after : drop x.1 bytes ≡ rest = ap (λ (p : ℕ × List ℕ). p.1) same in
    let len : x.1 ≡ length (compact_size n) = omega (arith, given.0, ap length after, length-drop x.1 bytes, ap length e, length-append (compact_size n) rest) in
    let number : x.0 ≡ n = ap (λ (p : ℕ × List ℕ). p.0) same in
    λ i. Ok (number i, len i)

pub answer_cause : (bytes : List ℕ) (r : Result (ℕ × ℕ) WireFault) → AreBytes bytes → GivesLength r bytes (compact_at bytes) → (f : WireFault) → (r ≡ Err f) ↔ CompactFault bytes f
answer_cause bytes (Ok x) fits given f = (λ e. absurd cc, λ h. absurd (apart (x.0, drop x.1 bytes) f (sym given.1 ∙ compact_first bytes f h)))
answer_cause bytes (Err g) fits given f = (
  λ e. compact_cause bytes f fits (given ∙ ap (λ (t : WireFault). refusal (ℕ × List ℕ) t) (err_is {A = ℕ × ℕ} g f e)),
  λ h. ap (λ (t : WireFault). refusal (ℕ × ℕ) t) (err_is {A = ℕ × List ℕ} g f (sym given ∙ compact_first bytes f h)),
)
