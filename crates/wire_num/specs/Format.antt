-- The meaning of bytes that are read from the start, field by field: the value that they encode, or
-- their first fault. One description says what is read and what is refused, so its lines read like
-- the table of a standard. A list of formats hands each index on, since a fault names its record.
use Rattle.std.specs.Prelude.{◌≡◌, ◌≢◌, ℕ, zero, suc, ◌+◌, List, [], ◌∷◌, ◌++◌, Bool, true, false, ◌⊎◌}

-- which bytes encode a value; and which bytes begin with fields without a fault, and then a field
-- that shows this one
pub record Format (F A : Type 0) : Type 1 where
  pub spells : List ℕ → A → Type 0
  pub shows : List ℕ → F → Type 0

-- the bytes begin with an encoding of the value, and have this rest
pub record Begins {F A : Type 0} (p : Format F A) (bytes : List ℕ) (a : A)
    (rest : List ℕ) : Type 0 where
  pub front : List ℕ
  pub joined : bytes ≡ front ++ rest
  pub spelled : p.spells front a

-- one format, and after it another that may depend on its value: the encodings are joined
unfoldable pub sequence : {F A B : Type 0} → Format F A → (A → Format F B) → Format F B
sequence p q = record {
  spells = λ bytes b. (a : _) × (rest : List ℕ) × Begins p bytes a rest × (q a).spells rest b;
  shows = λ bytes f. p.shows bytes f
      ⊎ ((a : _) × (rest : List ℕ) × Begins p bytes a rest × (q a).shows rest f);
}

infixl 10 ◌>>=◌
-- One format and then another, as `do` writes it.
abbrev pub ◌>>=◌ : {F A B : Type 0} → Format F A → (A → Format F B) → Format F B
p >>= q = sequence p q

-- no bytes, for a value that is known
unfoldable pub value : {F A : Type 0} → A → Format F A
value a = record { spells = λ bytes b. (bytes ≡ []) × (a ≡ b); shows = λ bytes f. ⊥ }

-- no bytes, for a value that passes a test: else they show the fault
unfoldable pub check : {F A : Type 0} → Bool → F → A → Format F A
check passes fault a = record {
  spells = λ bytes b. (passes ≡ true) × (bytes ≡ []) × (a ≡ b);
  shows = λ bytes f. (passes ≡ false) × (f ≡ fault);
}

-- n values, each of the format of its index: the indexes are i, i + 1, and so on
unfoldable pub times : {F A : Type 0} → ℕ → ℕ → (ℕ → Format F A) → Format F (List A)
times i zero p = value []
times i (suc n) p = do
  first ← p i
  others ← times (i + 1) n p
  value (first ∷ others)

-- the same bytes, with a fault under another name
unfoldable pub map_fault : {E F A : Type 0} → (E → F) → Format E A → Format F A
map_fault name p =
    record { spells = p.spells; shows = λ bytes f. (e : _) × p.shows bytes e × (f ≡ name e) }

-- the first fault of bytes that have to encode one value and end there
abbrev pub HasFault : {F A : Type 0} → Format F A → F → List ℕ → F → Type 0
HasFault p trailing bytes f =
    p.shows bytes f
    ⊎ ((a : _) × (rest : List ℕ) × Begins p bytes a rest × (rest ≢ []) × (f ≡ trailing))

-- the bytes encode one value or have one fault, and never both
pub record HasOneMeaning {F A : Type 0} (p : Format F A) (trailing : F)
    (bytes : List ℕ) : Type 0 where
  pub some : ((a : A) × p.spells bytes a) ⊎ ((f : F) × HasFault p trailing bytes f)
  pub one_value : (a b : A) → p.spells bytes a → p.spells bytes b → a ≡ b
  pub one_fault : (f g : F) → HasFault p trailing bytes f → HasFault p trailing bytes g → f ≡ g
  pub never_both : (a : A) (f : F) → p.spells bytes a → HasFault p trailing bytes f → ⊥
