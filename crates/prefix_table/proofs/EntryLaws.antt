-- The parts of a row's line.
use Rattle.std.proofs.Common.{◌≡◌, ◌≢◌, ℕ, ◌<◌, ◌≤◌, ◌^◌, All, List, [], ◌∷◌, ◌++◌, get_or, drop, codes, decimal, refl, sym, ap, ◌∙◌, subst, arith, append_assoc}
use Rattle.std.specs.Int.{w32, to_be_bytes}
use Rattle.std.proofs.lemmas.Fmt.{decimal_is_IsNumeral}
use Rattle.std.proofs.lemmas.Str.Parse.{digit_at}
use Rattle.std.proofs.lemmas.List.Elements.{All-cons, All-head, All-tail, All-append, All-from_get_or}
use Rattle.net_addr.specs.Text.{ipv4_text}
use Rattle.host_io.specs.Lines.{IsPassedOver}
use Rattle.prefix_table.specs.Text.{IsRowAddress, IsNumber, IsRowEntry}
use Rattle.prefix_table.specs.declared.line.RowEntry.{RowEntry}

-- a byte that is there is found
pub not_without : (s : ℕ) (front back : List ℕ) → All (λ c. c ≢ s) (front ++ s ∷ back) → ⊥
not_without s [] back h = All-head (λ c. c ≢ s) s back h refl
not_without s (x ∷ front) back h = not_without s front back (All-tail (λ c. c ≢ s) x (front ++ s ∷ back) h)

-- the text before the last such byte and the text after it are known from the whole
pub around_last-unique : (s : ℕ) (a x b y : List ℕ) → a ++ s ∷ b ≡ x ++ s ∷ y → All (λ c. c ≢ s) b → All (λ c. c ≢ s) y → (a ≡ x) × (b ≡ y)
around_last-unique s [] [] b y e h k = (refl, ap (λ xs. drop 1 xs) e)
around_last-unique s [] (c ∷ x) b y e h k = absurd (not_without s x y (subst (All (λ c. c ≢ s)) (ap (λ xs. drop 1 xs) e) h))
around_last-unique s (c ∷ a) [] b y e h k = absurd (not_without s a b (subst (All (λ c. c ≢ s)) (sym (ap (λ xs. drop 1 xs) e)) k))
around_last-unique s (c ∷ a) (d ∷ x) b y e h k =
    let heads : c ≡ d = cc in
    let tails : a ++ s ∷ b ≡ x ++ s ∷ y = ap (λ xs. drop 1 xs) e in
    let rest = around_last-unique s a x b y tails h k in
    (λ i. heads i ∷ rest.0 i, rest.1)

-- digits are no other byte
pub decimal-no : (s n : ℕ) → n < 2 ^ 64 → s < 48 → All (λ c. c ≢ s) (decimal n)
decimal-no s n h low =
    All-from_get_or (λ c. c ≢ s) (decimal n) 0 λ i lt.
    let digit = digit_at (decimal n) i (decimal_is_IsNumeral n h).0.1 lt in
    omega arith

-- an IPv4 text has a dot
pub has_dot : (address : ℕ) → All (λ c. c ≢ 46) (ipv4_text (to_be_bytes w32 address)) → ⊥
has_dot address none = not_without 46 (decimal (get_or (to_be_bytes w32 address) 0 0)) _ none

-- the parts of a line round its last slash
pub parts_at_slash : (line before after : List ℕ) (entry : RowEntry) → line ≡ before ++ 47 ∷ after → All (λ c. c ≢ 47) after → IsRowEntry line entry → IsRowAddress entry.family before entry.address × (after ≡ decimal entry.len ++ 32 ∷ 65 ∷ 83 ∷ decimal entry.asn)
parts_at_slash line before after entry cut last is =
    let numbers = decimal entry.len ++ 32 ∷ 65 ∷ 83 ∷ decimal entry.asn in
    let whole : line ≡ is.address ++ 47 ∷ numbers =
    is.spelled ∙ ap (λ (a : List ℕ). is.address ++ codes "/" ++ is.len ++ codes " AS" ++ a) is.is_asn.1
    ∙ ap (λ (l : List ℕ). is.address ++ codes "/" ++ l ++ codes " AS" ++ decimal entry.asn) is.is_len.1
    ∙ regroup is.address (decimal entry.len) (decimal entry.asn) in
    let no_slash = All-append (λ c. c ≢ 47) (decimal entry.len) (32 ∷ 65 ∷ 83 ∷ decimal entry.asn) (decimal-no 47 entry.len (omega (arith, is.is_len.0)) (omega arith)) (All-cons (λ c. c ≢ 47) 32 (65 ∷ 83 ∷ decimal entry.asn) (λ e. omega (arith, e)) (All-cons (λ c. c ≢ 47) 65 (83 ∷ decimal entry.asn) (λ e. omega (arith, e)) (All-cons (λ c. c ≢ 47) 83 (decimal entry.asn) (λ e. omega (arith, e)) (decimal-no 47 entry.asn (omega (arith, is.is_asn.0)) (omega arith))))) in
    let parts = around_last-unique 47 before is.address after numbers (sym cut ∙ whole) last no_slash in
    (subst (λ text. IsRowAddress entry.family text entry.address) (sym parts.0) is.is_address, parts.1)
  where
    regroup : (a l n : List ℕ) → a ++ codes "/" ++ l ++ codes " AS" ++ n ≡ a ++ 47 ∷ (l ++ 32 ∷ 65 ∷ 83 ∷ n)
    regroup a l n = simp append_assoc

-- the numbers round the last space
pub parts_at_space : (after x y : List ℕ) (len asn : ℕ) → asn < 2 ^ 64 → after ≡ x ++ 32 ∷ y → All (λ c. c ≢ 32) y → after ≡ decimal len ++ 32 ∷ 65 ∷ 83 ∷ decimal asn → (x ≡ decimal len) × (y ≡ 65 ∷ 83 ∷ decimal asn)
parts_at_space after x y len asn small cut last is =
    let no_space = All-cons (λ c. c ≢ 32) 65 (83 ∷ decimal asn) (λ e. omega (arith, e)) (All-cons (λ c. c ≢ 32) 83 (decimal asn) (λ e. omega (arith, e)) (decimal-no 32 asn small (omega arith))) in
    around_last-unique 32 x (decimal len) y (65 ∷ 83 ∷ decimal asn) (sym cut ∙ is) last no_space

-- a row's line has a space after its slash
pub has_space : (line before after : List ℕ) (entry : RowEntry) → line ≡ before ++ 47 ∷ after → All (λ c. c ≢ 47) after → IsRowEntry line entry → All (λ c. c ≢ 32) after → ⊥
has_space line before after entry cut last is none =
    let parts = parts_at_slash line before after entry cut last is in
    not_without 32 (decimal entry.len) (65 ∷ 83 ∷ decimal entry.asn) (subst (All (λ c. c ≢ 32)) parts.1 none)

-- what the parts of a row's line are
pub record AreParts (address len asn : List ℕ) (entry : RowEntry) : Type 0 where
  pub is_address : IsRowAddress entry.family address entry.address
  pub is_len : len ≡ decimal entry.len
  pub small_len : entry.len ≤ 9999999999
  pub is_asn : asn ≡ codes "AS" ++ decimal entry.asn
  pub small_asn : entry.asn ≤ 9999999999

pub parts_of : (line address numbers len asn : List ℕ) (entry : RowEntry) → line ≡ address ++ 47 ∷ numbers → All (λ c. c ≢ 47) numbers → numbers ≡ len ++ 32 ∷ asn → All (λ c. c ≢ 32) asn → IsRowEntry line entry → AreParts address len asn entry
parts_of line address numbers len asn entry cut last cut' last' is =
    let at_slash = parts_at_slash line address numbers entry cut last is in
    let at_space = parts_at_space numbers len asn entry.len entry.asn (omega (arith, is.is_asn.0)) cut' last' at_slash.1 in
    record {
      is_address = at_slash.0;
      is_len = at_space.0;
      small_len = omega (arith, is.is_len.0);
      is_asn = at_space.1;
      small_asn = omega (arith, is.is_asn.0);
    }

-- parts of this form are a row's line
pub entry_from : (line address numbers len asn digits : List ℕ) (entry : RowEntry) → (IsPassedOver line → ⊥) → line ≡ address ++ 47 ∷ numbers → numbers ≡ len ++ 32 ∷ asn → asn ≡ codes "AS" ++ digits → IsRowAddress entry.family address entry.address → IsNumber len entry.len → IsNumber digits entry.asn → IsRowEntry line entry
entry_from line address numbers len asn digits entry not_passed cut cut' tag is_address is_len is_asn = record {
  not_passed_over = not_passed;
  address = address;
  len = len;
  asn = digits;
  is_address = is_address;
  is_len = is_len;
  is_asn = is_asn;
  spelled =
      cut ∙ ap (λ (n : List ℕ). address ++ 47 ∷ n) cut' ∙ ap (λ (a : List ℕ). address ++ 47 ∷ (len ++ 32 ∷ a)) tag
      ∙ sym (regroup address len digits);
}
  where
    regroup : (a l n : List ℕ) → a ++ codes "/" ++ l ++ codes " AS" ++ n ≡ a ++ 47 ∷ (l ++ 32 ∷ 65 ∷ 83 ∷ n)
    regroup a l n = simp append_assoc
