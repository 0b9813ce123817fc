-- Each field is read exactly as it is spelled.
use Rattle.std.proofs.Common.{◌≡◌, ℕ, ◌*◌, ◌^◌, ◌<◌, ◌≤◌, Bool, true, false, cond, ltb, List, [], ◌∷◌, ◌++◌, length, take, drop, Result, Ok, Err, refl, sym, ap, subst, ◌∙◌, inl, inr, arith}
use Rattle.std.specs.Int.{Width, w16, w32, w64, byte_len, to_le_bytes, to_be_bytes, from_le_bytes, from_be_bytes}
use Rattle.std.proofs.lemmas.Bool.{cases_lt, ltb-true, ltb-false, lt-ltb, le-ltb}
use Rattle.std.proofs.lemmas.List.{take_at, drop_at, take-append-drop, length-append, length-take, get_or-take, get_or_past}
use Rattle.std.proofs.lemmas.Nat.{le_bytes_2, le_bytes_4, le_bytes_8, be_bytes_2, from_le_bytes-to_le_bytes_2, from_le_bytes-to_le_bytes_4, from_le_bytes-to_le_bytes_8, from_be_bytes-to_be_bytes_2}
use Rattle.wire_num.specs.declared.fault.WireFault.{WireFault}
use Rattle.wire_num.specs.declared.fault.WireFault.TheVariants.{Truncated}
use Rattle.wire_num.specs.Format.{Begins}
use Rattle.wire_num.specs.Fields.{some_bytes, byte, number, le}
use Rattle.wire_num.specs.Readings.{bytes_at, byte_at, number_at}
use Rattle.wire_num.proofs.ReadingLaws.{AreBytes, Reads, ok_is, err_is, apart}

abbrev given : {A : Type 0} → A → Result A WireFault
given x = Ok x

abbrev refused : (A : Type 0) → WireFault → Result A WireFault
refused A f = Err f

pub AreBytes-take : (n : ℕ) (bytes : List ℕ) → AreBytes bytes → AreBytes (take n bytes)
AreBytes-take n bytes h i =
    elim (cases_lt i n) [
      | inl lt ↦ rw (get_or-take n bytes i 0 lt) (h i)
      | inr le ↦ rw (get_or_past (take n bytes) i 0 (omega (arith, length-take n bytes))) (omega arith)
    ]

-- a test that passed, and one that refused
whole : {A : Type 0} (b : Bool) (f : WireFault) (x y : A) → cond b (Err f) (given x) ≡ Ok y → (b ≡ false) × (x ≡ y)
whole {A = A} true f x y e = let wrong : refused A f ≡ Ok y = e in absurd cc
whole false f x y e = (refl, ok_is {F = WireFault} x y e)

cut : {A : Type 0} (b : Bool) (f g : WireFault) (x : A) → cond b (Err f) (given x) ≡ Err g → (b ≡ true) × (g ≡ f)
cut {A = A} true f g x e = (refl, sym (err_is {A = A} f g e))
cut false f g x e = let wrong : given x ≡ Err g = e in absurd cc

refuses : {A : Type 0} (b : Bool) (f g : WireFault) (x : A) → b ≡ true → g ≡ f → cond b (Err f) (given x) ≡ Err g
refuses {A = A} b f g x e same = rw e (ap (refused A) (sym same))

-- as many bytes are taken as are asked for
pub bytes_at-length : (n : ℕ) (bytes x rest : List ℕ) → bytes_at n bytes ≡ Ok (x, rest) → length x ≡ n
bytes_at-length n bytes x rest e =
    let g = whole (ltb (length bytes) n) Truncated (take n bytes, drop n bytes) (x, rest) e in
    let long : n ≤ length bytes = ltb-false _ _ g.0 in
    ap (λ (p : List ℕ × List ℕ). length p.0) (sym g.1) ∙ omega (arith, length-take n bytes)

pub Reads-some_bytes : (n : ℕ) → Reads (some_bytes n) (bytes_at n)
unfolding some_bytes
Reads-some_bytes n = record {
  found = λ bytes x rest fits e.
      let g = whole (ltb (length bytes) n) Truncated (take n bytes, drop n bytes) (x, rest) e in
      let long : n ≤ length bytes = ltb-false _ _ g.0 in
      let same = g.1 in
      record {
        front = x;
        joined = sym (take-append-drop n bytes) ∙ ap (λ (p : List ℕ × List ℕ). p.0 ++ p.1) same;
        spelled = (bytes_at-length n bytes x rest e, refl);
      };
  only = λ bytes x rest h.
      let long : length h.front ≡ n = h.spelled.0 in
      let is : h.front ≡ x = h.spelled.1 in
      let enough : ltb (length (h.front ++ rest)) n ≡ false = le-ltb _ _ (omega (arith, length-append h.front rest)) in
      ap (bytes_at n) h.joined ∙ rw (enough, take_at h.front rest n long, drop_at h.front rest n long, is) refl;
  cause = λ bytes f fits e.
      let g = cut (ltb (length bytes) n) Truncated f (take n bytes, drop n bytes) e in
      (ltb-true _ _ g.0, g.1);
  first = λ bytes f h. refuses (ltb (length bytes) n) Truncated f (take n bytes, drop n bytes) (lt-ltb _ _ h.0) h.1;
}

byte_found : (bytes : List ℕ) (b : ℕ) (rest : List ℕ) → byte_at bytes ≡ Ok (b, rest) → Begins byte bytes b rest
unfolding byte
byte_found [] b rest e = let wrong : refused (ℕ × List ℕ) Truncated ≡ Ok (b, rest) = e in absurd cc
byte_found (x ∷ xs) b rest e =
    let same = ok_is {F = WireFault} (x, xs) (b, rest) e in
    record { front = b ∷ []; joined = ap (λ (p : ℕ × List ℕ). p.0 ∷ p.1) same; spelled = refl }

byte_cause : (bytes : List ℕ) (f : WireFault) → byte_at bytes ≡ Err f → (bytes ≡ []) × (f ≡ Truncated)
byte_cause [] f e = (refl, sym (err_is {A = ℕ × List ℕ} Truncated f e))
byte_cause (x ∷ xs) f e = absurd (apart (x, xs) f e)

pub Reads-byte : Reads byte byte_at
unfolding byte
Reads-byte = record {
  found = λ bytes b rest fits e. byte_found bytes b rest e;
  only = λ bytes b rest h. ap byte_at (h.joined ∙ ap (λ (t : List ℕ). t ++ rest) h.spelled);
  cause = λ bytes f fits e. byte_cause bytes f e;
  first = λ bytes f h. let is = h.1 in ap byte_at h.0 ∙ ap (refused (ℕ × List ℕ)) (sym is);
}

-- a width whose numbers and bytes lead back to each other
pub record IsWide (w : Width) (bytes_of : ℕ → List ℕ) (number_of : List ℕ → ℕ) : Type 0 where
  pub len : (n : ℕ) → length (bytes_of n) ≡ byte_len w
  pub back : (bytes : List ℕ) → length bytes ≡ byte_len w → AreBytes bytes → bytes_of (number_of bytes) ≡ bytes
  pub again : (n : ℕ) → n < 2 ^ (8 * byte_len w) → number_of (bytes_of n) ≡ n
  pub below : (bytes : List ℕ) → AreBytes bytes → number_of bytes < 2 ^ (8 * byte_len w)

pub le16 : IsWide w16 (to_le_bytes w16) (from_le_bytes w16)
le16 = record {
  len = λ n. refl;
  back = λ bytes len fits. le_bytes_2 bytes _ len fits refl;
  again = λ n lt. from_le_bytes-to_le_bytes_2 n lt;
  below = λ bytes fits. omega (arith, fits 0, fits 1);
}

pub be16 : IsWide w16 (to_be_bytes w16) (from_be_bytes w16)
be16 = record {
  len = λ n. refl;
  back = λ bytes len fits. be_bytes_2 bytes _ len fits refl;
  again = λ n lt. from_be_bytes-to_be_bytes_2 n lt;
  below = λ bytes fits. omega (arith, fits 0, fits 1);
}

pub le32 : IsWide w32 (to_le_bytes w32) (from_le_bytes w32)
le32 = record {
  len = λ n. refl;
  back = λ bytes len fits. le_bytes_4 bytes _ len fits refl;
  again = λ n lt. from_le_bytes-to_le_bytes_4 n lt;
  below = λ bytes fits. omega (arith, fits 0, fits 1, fits 2, fits 3);
}

pub le64 : IsWide w64 (to_le_bytes w64) (from_le_bytes w64)
le64 = record {
  len = λ n. refl;
  back = λ bytes len fits. le_bytes_8 bytes _ len fits refl;
  again = λ n lt. from_le_bytes-to_le_bytes_8 n lt;
  below = λ bytes fits. omega (arith, fits 0, fits 1, fits 2, fits 3, fits 4, fits 5, fits 6, fits 7);
}

pub Reads-number : (w : Width) (bytes_of : ℕ → List ℕ) (number_of : List ℕ → ℕ) → IsWide w bytes_of number_of → Reads (number w bytes_of) (number_at w number_of)
unfolding number
Reads-number w bytes_of number_of wide = record {
  found = λ bytes n rest fits e.
      let k = byte_len w in
      let g = whole (ltb (length bytes) k) Truncated (number_of (take k bytes), drop k bytes) (n, rest) e in
      let long : k ≤ length bytes = ltb-false _ _ g.0 in
      let is : number_of (take k bytes) ≡ n = ap (λ (p : ℕ × List ℕ). p.0) g.1 in
      let after : drop k bytes ≡ rest = ap (λ (p : ℕ × List ℕ). p.1) g.1 in
      let front_fits = AreBytes-take k bytes fits in
      let len : length (take k bytes) ≡ k = omega (arith, length-take k bytes) in
      record {
        front = take k bytes;
        joined = sym (take-append-drop k bytes) ∙ ap (λ (t : List ℕ). take k bytes ++ t) after;
        spelled = (subst (λ (m : ℕ). m < 2 ^ (8 * k)) is (wide.below (take k bytes) front_fits), sym (wide.back (take k bytes) len front_fits) ∙ ap bytes_of is);
      };
  only = λ bytes n rest h.
      let k = byte_len w in
      let is : h.front ≡ bytes_of n = h.spelled.1 in
      let len : length (bytes_of n) ≡ k = wide.len n in
      let enough : ltb (length (bytes_of n ++ rest)) k ≡ false = le-ltb _ _ (omega (arith, length-append (bytes_of n) rest)) in
      ap (number_at w number_of) (h.joined ∙ ap (λ (t : List ℕ). t ++ rest) is) ∙ rw (enough, take_at (bytes_of n) rest k len, drop_at (bytes_of n) rest k len, wide.again n h.spelled.0) refl;
  cause = λ bytes f fits e.
      let g = cut (ltb (length bytes) (byte_len w)) Truncated f (number_of (take (byte_len w) bytes), drop (byte_len w) bytes) e in
      (ltb-true _ _ g.0, g.1);
  first = λ bytes f h. refuses (ltb (length bytes) (byte_len w)) Truncated f (number_of (take (byte_len w) bytes), drop (byte_len w) bytes) (lt-ltb _ _ h.0) h.1;
}
