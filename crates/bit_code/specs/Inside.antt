-- Definitions for the private contracts: some bits of a file as a number, and what they begin with.
use Rattle.std.specs.Prelude.{◌≡◌, ℕ, ◌+◌, ◌*◌, ◌<◌, ◌≤◌, Bool, true, false, List, [], ◌∷◌, ◌++◌, drop, slice_index}
use Prim.Native.Nat.{zero, suc}
use Rattle.std.specs.List.{range_with_len}
use Rattle.bit_code.specs.Coder.{has_bit, low_digits, file_bits, least, sizes}
use Rattle.bit_code.specs.declared.coder.Classes.{Classes}
use Rattle.bit_code.specs.declared.coder.Coder.{Coder}
use Rattle.bit_code.specs.declared.coder.Coder.TheVariants.{Kind, Asn, Match, Jump}

-- the low 57 digits of a number, low digit first, are the bits from an offset on; any bits may
-- follow the last one
pub record IsWindow (bits : List Bool) (at window : ℕ) : Type 0 where
  pub more : List Bool
  pub after : List Bool
  pub shown : drop at bits ++ after ≡ low_digits 57 window ++ more

-- the bits from byte q on are the digits of a word, low digit first, and then more; any bits may
-- follow the last one
pub record IsWord (bytes : List ℕ) (q word : ℕ) : Type 0 where
  pub more : List Bool
  pub after : List Bool
  pub shown : file_bits (drop q bytes) ++ after ≡ low_digits 64 word ++ more

-- how many bits the longest encoding of a coder has
abbrev pub longest : Coder → ℕ
longest Kind = 3
longest Asn = 33
longest Match = 15
longest Jump = 55

-- the coder has these classes, whose sizes rise by one
pub record HasClasses (coder : Coder) (classes : Classes) : Type 0 where
  pub least : classes.least ≡ least coder
  pub sizes : sizes coder ≡ range_with_len classes.first (classes.last + 1)
  pub longest : classes.first + 2 * classes.last ≡ longest coder
  pub some : 0 < classes.first
  pub fits : classes.first + classes.last ≤ 30
  pub short : classes.first + 2 * classes.last ≤ 55
  pub low : classes.least < 32

-- the bits before the digits of a value of a class, by the class and the last class
abbrev pub class_head : ℕ → ℕ → List Bool
class_head zero zero = []
class_head zero (suc last) = false ∷ []
class_head (suc class) zero = []
class_head (suc class) (suc last) = true ∷ class_head class last

-- the low digits of a number before this one are set, and it is not, or it is that of the last
-- class
pub record IsClass (n class last : ℕ) : Type 0 where
  pub within : class ≤ last
  pub ones : (i : ℕ) → i < class → has_bit n i ≡ true
  pub stop : class < last → has_bit n class ≡ false

-- bytes, each below 256
abbrev pub AreBytes : List ℕ → Type 0
AreBytes bytes = (i : ℕ) → slice_index bytes i < 256

-- eight bytes from byte q on
abbrev pub eight : List ℕ → ℕ → List ℕ
eight bytes q =
    slice_index bytes q ∷ slice_index bytes (q + 1)
    ∷ slice_index bytes (q + 2) ∷ slice_index bytes (q + 3)
    ∷ slice_index bytes (q + 4) ∷ slice_index bytes (q + 5)
    ∷ slice_index bytes (q + 6) ∷ slice_index bytes (q + 7) ∷ []
