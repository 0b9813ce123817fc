-- A reading of bytes from the start and the format that it reads: they agree on the value, the rest
-- and the fault.
use Rattle.std.proofs.Common.{◌≡◌, ◌≢◌, ◌⊎◌, ℕ, zero, suc, ◌+◌, ◌<◌, Bool, true, false, cond, List, [], ◌∷◌, ◌++◌, length, get_or, All, Result, Ok, Err, refl, sym, ap, subst, ◌∙◌, append_assoc, inl, inr, lit<}
use Rattle.std.proofs.lemmas.Bool.{cases_lt}
use Rattle.std.proofs.lemmas.List.{get_or-append-add, get_or_past, append-nil}
use Rattle.wire_num.specs.Format.{Format, Begins, value, check, times, map_fault, HasFault, HasOneMeaning, sequence}
use Rattle.wire_num.specs.Readings.{◌>>=◌, value_at, check_at, then_at, times_at, map_fault_at, fault_as, last, all_of}

-- each element is a byte
abbrev pub AreBytes : List ℕ → Type 0
AreBytes bytes = (i : ℕ) → get_or bytes i 0 < 256

pub AreBytes-rest : (bytes front rest : List ℕ) → AreBytes bytes → bytes ≡ front ++ rest → AreBytes rest
AreBytes-rest bytes front rest fits e i = subst (λ (n : ℕ). n < 256) (ap (λ (xs : List ℕ). get_or xs (length front + i) 0) e ∙ get_or-append-add front rest i 0) (fits (length front + i))

pub AreBytes-all : (bytes : List ℕ) → All (λ b. b < 256) bytes → AreBytes bytes
AreBytes-all bytes all i =
    elim (cases_lt i (length bytes)) [
      | inl lt ↦ all i 0 lt
      | inr le ↦ subst (λ (n : ℕ). n < 256) (sym (get_or_past bytes i 0 le)) (lit< tt)
    ]

pub record Reads {F A : Type 0} (p : Format F A) (r : List ℕ → Result (A × List ℕ) F) : Type 0 where
  pub found : (bytes : List ℕ) (a : A) (rest : List ℕ) → AreBytes bytes → r bytes ≡ Ok (a, rest) → Begins p bytes a rest
  pub only : (bytes : List ℕ) (a : A) (rest : List ℕ) → Begins p bytes a rest → r bytes ≡ Ok (a, rest)
  pub cause : (bytes : List ℕ) (f : F) → AreBytes bytes → r bytes ≡ Err f → p.shows bytes f
  pub first : (bytes : List ℕ) (f : F) → p.shows bytes f → r bytes ≡ Err f

-- ---- results

abbrev done : {A F : Type 0} → A → Result A F
done x = Ok x

abbrev failed : {A F : Type 0} → F → Result A F
failed f = Err f

pub ok_is : {A F : Type 0} (x y : A) → done {A = A} {F = F} x ≡ done y → x ≡ y
ok_is x y e = cc

pub err_is : {A F : Type 0} (x y : F) → failed {A = A} {F = F} x ≡ failed y → x ≡ y
err_is x y e = cc

pub apart : {A F : Type 0} (x : A) (f : F) → done {A = A} {F = F} x ≡ failed f → ⊥
apart x f e = cc

pub ok_or_err : {A F : Type 0} (r : Result A F) → ((x : A) × (r ≡ Ok x)) ⊎ ((f : F) × (r ≡ Err f))
ok_or_err (Ok x) = inl (x, refl)
ok_or_err (Err f) = inr (f, refl)

pub bind_ok : {A B F : Type 0} (r : Result A F) (s : A → Result B F) (y : B) → (r >>= s) ≡ Ok y → (x : A) × (r ≡ Ok x) × (s x ≡ Ok y)
bind_ok (Ok x) s y e = (x, refl, e)
bind_ok (Err f) s y e = absurd cc

pub bind_err : {A B F : Type 0} (r : Result A F) (s : A → Result B F) (f : F) → (r >>= s) ≡ Err f → (r ≡ Err f) ⊎ ((x : A) × (r ≡ Ok x) × (s x ≡ Err f))
bind_err (Ok x) s f e = inr (x, refl, e)
bind_err {A = A} {B = B} {F = F} (Err g) s f e = let same : g ≡ f = cc in inl (ap (λ h. failed {A = A} {F = F} h) same)

-- ---- one format after another

pub Reads-then : {F A B : Type 0} (p : Format F A) (q : A → Format F B) (r : List ℕ → Result (A × List ℕ) F) (s : A → List ℕ → Result (B × List ℕ) F)
    → Reads p r → ((a : A) → Reads (q a) (s a)) → Reads (sequence p q) (then_at r s)
unfolding sequence
Reads-then {F = F} {A = A} {B = B} p q r s hp hq = record {
  found = λ bytes b rest fits e.
      let x = bind_ok (r bytes) (λ x. s x.0 x.1) (b, rest) e in
      let one = hp.found bytes x.0.0 x.0.1 fits x.1 in
      let two = (hq x.0.0).found x.0.1 b rest (AreBytes-rest bytes one.front x.0.1 fits one.joined) x.2 in
      record {
        front = one.front ++ two.front;
        joined = one.joined ∙ ap (λ (t : List ℕ). one.front ++ t) two.joined ∙ sym (append_assoc one.front two.front rest);
        spelled = (x.0.0, two.front, record { front = one.front; joined = refl; spelled = one.spelled }, two.spelled);
      };
  only = λ bytes b rest h.
      let a = h.spelled.0 in
      let y = h.spelled.1 in
      let one = h.spelled.2 in
      let joined : bytes ≡ one.front ++ (y ++ rest) = h.joined ∙ ap (λ (t : List ℕ). t ++ rest) one.joined ∙ append_assoc one.front y rest in
      let e1 = hp.only bytes a (y ++ rest) (record { front = one.front; joined = joined; spelled = one.spelled }) in
      let e2 = (hq a).only (y ++ rest) b rest (record { front = y; joined = refl; spelled = h.spelled.3 }) in
      ap (λ (t : Result (A × List ℕ) F). t >>= λ x. s x.0 x.1) e1 ∙ e2;
  cause = λ bytes f fits e.
      elim (bind_err (r bytes) (λ x. s x.0 x.1) f e) [
        | inl e1 ↦ inl (hp.cause bytes f fits e1)
        | inr x ↦
            let one = hp.found bytes x.0.0 x.0.1 fits x.1 in
            inr (x.0.0, x.0.1, one, (hq x.0.0).cause x.0.1 f (AreBytes-rest bytes one.front x.0.1 fits one.joined) x.2)
      ];
  first = λ bytes f h.
      elim h [
        | inl shown ↦ ap (λ (t : Result (A × List ℕ) F). t >>= λ x. s x.0 x.1) (hp.first bytes f shown)
        | inr x ↦ ap (λ (t : Result (A × List ℕ) F). t >>= λ x. s x.0 x.1) (hp.only bytes x.0 x.1 x.2) ∙ (hq x.0).first x.1 f x.3
      ];
}

-- the same, with what the format and the reading show left out
pub reads_next : {F A B : Type 0} {p : Format F A} {q : A → Format F B} {r : List ℕ → Result (A × List ℕ) F} {s : A → List ℕ → Result (B × List ℕ) F} → Reads p r → ((a : A) → Reads (q a) (s a)) → Reads (sequence p q) (then_at r s)
reads_next {p = p} {q = q} {r = r} {s = s} one two = Reads-then p q r s one two

-- ---- what takes no bytes

pub Reads-value : {F A : Type 0} (a : A) → Reads {F = F} (value a) (value_at a)
unfolding value
Reads-value {F = F} {A = A} a = record {
  found = λ bytes b rest fits e.
      let same = ok_is (a, bytes) (b, rest) e in
      record { front = []; joined = ap (λ (x : A × List ℕ). x.1) same; spelled = (refl, ap (λ (x : A × List ℕ). x.0) same) };
  only = λ bytes b rest h.
      let same : bytes ≡ rest = h.joined ∙ ap (λ (t : List ℕ). t ++ rest) h.spelled.0 in
      let is : a ≡ b = h.spelled.1 in
      ap (λ (t : List ℕ). done {A = A × List ℕ} {F = F} (a, t)) same ∙ ap (λ (t : A). done {A = A × List ℕ} {F = F} (t, rest)) is;
  cause = λ bytes f fits e. absurd cc;
  first = λ bytes f h. absurd h;
}

pub Reads-check : {F A : Type 0} (passes : Bool) (fault : F) (a : A) → Reads (check passes fault a) (check_at passes fault a)
unfolding check
Reads-check {F = F} {A = A} true fault a = record {
  found = λ bytes b rest fits e.
      let same = ok_is (a, bytes) (b, rest) e in
      record { front = []; joined = ap (λ (x : A × List ℕ). x.1) same; spelled = (refl, refl, ap (λ (x : A × List ℕ). x.0) same) };
  only = λ bytes b rest h.
      let same : bytes ≡ rest = h.joined ∙ ap (λ (t : List ℕ). t ++ rest) h.spelled.1 in
      let is : a ≡ b = h.spelled.2 in
      ap (λ (t : List ℕ). done {A = A × List ℕ} {F = F} (a, t)) same ∙ ap (λ (t : A). done {A = A × List ℕ} {F = F} (t, rest)) is;
  cause = λ bytes f fits e. absurd cc;
  first = λ bytes f h. let wrong = h.0 in absurd cc;
}
Reads-check {F = F} {A = A} false fault a = record {
  found = λ bytes b rest fits e. absurd cc;
  only = λ bytes b rest h. let wrong = h.spelled.0 in absurd cc;
  cause = λ bytes f fits e. (refl, sym (err_is {A = A × List ℕ} fault f e));
  first = λ bytes f h. let is = h.1 in ap (λ (t : F). failed {A = A × List ℕ} t) (sym is);
}

-- ---- some values, each by its index

pub Reads-times : {F A : Type 0} (i n : ℕ) (p : ℕ → Format F A) (r : ℕ → List ℕ → Result (A × List ℕ) F) → ((k : ℕ) → Reads (p k) (r k)) → Reads (times i n p) (times_at i n r)
unfolding times times_at
Reads-times i zero p r h = Reads-value []
Reads-times i (suc n) p r h =
    Reads-then (p i) (λ first. sequence (times (i + 1) n p) (λ others. value (first ∷ others))) (r i) (λ first. then_at (times_at (i + 1) n r) (λ others. value_at (first ∷ others))) (h i) (λ first.
    Reads-then (times (i + 1) n p) (λ others. value (first ∷ others)) (times_at (i + 1) n r) (λ others. value_at (first ∷ others)) (Reads-times (i + 1) n p r h) (λ others. Reads-value (first ∷ others)))

-- ---- a fault under another name

fault_as-ok : {E F A : Type 0} (name : E → F) (r : Result A E) (x : A) → fault_as name r ≡ Ok x → r ≡ Ok x
fault_as-ok {E = E} {F = F} name (Ok y) x e = ap (λ t. done {F = E} t) (ok_is {F = F} y x e)
fault_as-ok name (Err f) x e = absurd cc

fault_as-err : {E F A : Type 0} (name : E → F) (r : Result A E) (f : F) → fault_as name r ≡ Err f → (e : E) × (r ≡ Err e) × (f ≡ name e)
fault_as-err name (Ok y) f e = absurd cc
fault_as-err {E = E} {F = F} {A = A} name (Err d) f e = (d, refl, sym (err_is {A = A} (name d) f e))

pub Reads-map_fault : {E F A : Type 0} (name : E → F) (p : Format E A) (r : List ℕ → Result (A × List ℕ) E) → Reads p r → Reads (map_fault name p) (map_fault_at name r)
unfolding map_fault
Reads-map_fault {E = E} {F = F} {A = A} name p r h = record {
  found = λ bytes a rest fits e.
      let one = h.found bytes a rest fits (fault_as-ok name (r bytes) (a, rest) e) in
      record { front = one.front; joined = one.joined; spelled = one.spelled };
  only = λ bytes a rest b. ap (λ (t : Result (A × List ℕ) E). fault_as name t) (h.only bytes a rest (record { front = b.front; joined = b.joined; spelled = b.spelled }));
  cause = λ bytes f fits e.
      let x = fault_as-err name (r bytes) f e in
      (x.0, h.cause bytes x.0 fits x.1, x.2);
  first = λ bytes f x.
      let is = x.2 in
      ap (λ (t : Result (A × List ℕ) E). fault_as name t) (h.first bytes x.0 x.1) ∙ ap (λ (t : F). failed {A = A × List ℕ} t) (sym is);
}

-- ---- the same reading, written in another way

pub Reads-same : {F A : Type 0} (p : Format F A) (r s : List ℕ → Result (A × List ℕ) F) → Reads p r → ((bytes : List ℕ) → r bytes ≡ s bytes) → Reads p s
Reads-same p r s h same = record {
  found = λ bytes a rest fits e. h.found bytes a rest fits (same bytes ∙ e);
  only = λ bytes a rest b. sym (same bytes) ∙ h.only bytes a rest b;
  cause = λ bytes f fits e. h.cause bytes f fits (same bytes ∙ e);
  first = λ bytes f shown. sym (same bytes) ∙ h.first bytes f shown;
}

-- a test, and then a reading that depends on the value that passed
pub check-then : {F A B : Type 0} (passes : Bool) (fault : F) (a : A) (s : A → List ℕ → Result (B × List ℕ) F) (bytes : List ℕ) → then_at (check_at passes fault a) s bytes ≡ cond passes (s a bytes) (Err fault)
check-then true fault a s bytes = refl
check-then false fault a s bytes = refl

-- ---- all of the bytes

-- the reading of all of the bytes, and the two relations
pub record ReadsAll {F A : Type 0} (p : Format F A) (trailing : F) (r : List ℕ → Result (A × List ℕ) F) (bytes : List ℕ) : Type 0 where
  pub found : (a : A) → all_of r trailing bytes ≡ Ok a → p.spells bytes a
  pub only : (a : A) → p.spells bytes a → all_of r trailing bytes ≡ Ok a
  pub cause : (f : F) → all_of r trailing bytes ≡ Err f → HasFault p trailing bytes f
  pub first : (f : F) → HasFault p trailing bytes f → all_of r trailing bytes ≡ Err f

ended_ok : {F A : Type 0} (trailing : F) (a b : A) (rest : List ℕ) → last {F = F} trailing a rest ≡ Ok b → (rest ≡ []) × (a ≡ b)
ended_ok {F = F} trailing a b [] e = (refl, ok_is {F = F} a b e)
ended_ok {F = F} {A = A} trailing a b (x ∷ rest) e = let wrong : failed {A = A} trailing ≡ Ok b = e in absurd cc

ended_err : {F A : Type 0} (trailing : F) (a : A) (f : F) (rest : List ℕ) → last {F = F} trailing a rest ≡ Err f → (rest ≢ []) × (f ≡ trailing)
ended_err {F = F} {A = A} trailing a f [] e = let wrong : done {A = A} {F = F} a ≡ Err f = e in absurd cc
ended_err {F = F} {A = A} trailing a f (x ∷ rest) e = (λ (wrong : x ∷ rest ≡ []). cc, sym (err_is {A = A} trailing f e))

more_follows : {F A : Type 0} (trailing : F) (a : A) (rest : List ℕ) → rest ≢ [] → last {F = F} trailing a rest ≡ Err trailing
more_follows trailing a [] h = absurd (h refl)
more_follows trailing a (x ∷ rest) h = refl

pub reads_all : {F A : Type 0} (p : Format F A) (trailing : F) (r : List ℕ → Result (A × List ℕ) F) (bytes : List ℕ) → Reads p r → AreBytes bytes → ReadsAll p trailing r bytes
reads_all {F = F} {A = A} p trailing r bytes h fits = record {
  found = λ a e.
      let x = bind_ok (r bytes) (λ x. last trailing x.0 x.1) a e in
      let ended = ended_ok {F = F} trailing x.0.0 a x.0.1 x.2 in
      let one = h.found bytes x.0.0 x.0.1 fits x.1 in
      let whole : bytes ≡ one.front = one.joined ∙ ap (λ (t : List ℕ). one.front ++ t) ended.0 ∙ append-nil one.front in
      subst (λ (t : List ℕ). p.spells t a) (sym whole) (subst (λ (t : A). p.spells one.front t) ended.1 one.spelled);
  only = λ a spelled.
      ap (λ (t : Result (A × List ℕ) F). t >>= λ x. last trailing x.0 x.1) (h.only bytes a [] (record { front = bytes; joined = sym (append-nil bytes); spelled = spelled }));
  cause = λ f e.
      elim (bind_err (r bytes) (λ x. last trailing x.0 x.1) f e) [
        | inl e1 ↦ inl (h.cause bytes f fits e1)
        | inr x ↦
            let ended = ended_err trailing x.0.0 f x.0.1 x.2 in
            inr (x.0.0, x.0.1, h.found bytes x.0.0 x.0.1 fits x.1, ended.0, ended.1)
      ];
  first = λ f fault.
      elim fault [
        | inl shown ↦ ap (λ (t : Result (A × List ℕ) F). t >>= λ x. last trailing x.0 x.1) (h.first bytes f shown)
        | inr x ↦
            let is = x.4 in
            ap (λ (t : Result (A × List ℕ) F). t >>= λ x. last trailing x.0 x.1) (h.only bytes x.0 x.1 x.2) ∙ more_follows {F = F} trailing x.0 x.1 x.3 ∙ ap (λ (t : F). failed {A = A} t) (sym is)
      ];
}

pub one_meaning : {F A : Type 0} (p : Format F A) (trailing : F) (r : List ℕ → Result (A × List ℕ) F) (bytes : List ℕ) → Reads p r → AreBytes bytes → HasOneMeaning p trailing bytes
one_meaning {F = F} {A = A} p trailing r bytes h fits =
    let all = reads_all p trailing r bytes h fits in
    record {
      some = elim (ok_or_err (all_of r trailing bytes)) [
        | inl x ↦ inl (x.0, all.found x.0 x.1)
        | inr x ↦ inr (x.0, all.cause x.0 x.1)
      ];
      one_value = λ a b spelled other. ok_is {A = A} {F = F} a b (sym (all.only a spelled) ∙ all.only b other);
      one_fault = λ f g fault other. err_is {A = A} f g (sym (all.first f fault) ∙ all.first g other);
      never_both = λ a f spelled fault. let wrong = sym (all.only a spelled) ∙ all.first f fault in cc;
    }
