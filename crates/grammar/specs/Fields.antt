-- The kinds of the fields of a line, and the value of the text of a field. Hexadecimal digits are
-- those of RFC 4648, section 8. Seeded words are those of xoshiro256++ by Blackman and Vigna, with
-- `seed_from_u64` of rand_xoshiro.
use Rattle.std.specs.Prelude.{◌≡◌, ◌⊎◌, ◌≢◌, ℕ, ◌<◌, ◌≤◌, ◌^◌, List, [], ◌∷◌, ◌++◌, map, fold, length, All, AllPairs, Bool, true, false, ◌-◌, Ok, codes, decimal}
use Rattle.std.specs.List.{join_with_byte}
use Rattle.hex.specs.Hex.{decode_of}
use Rattle.net_addr.specs.Address.{Address}
use Rattle.net_addr.specs.NetSet.{all, none, with_net}
use Rattle.net_addr.specs.Text.{net_name, IsAddrText, IsPeerText}
use Rattle.net_addr.specs.declared.net.Net.{Net}
use Rattle.net_addr.specs.declared.net.Net.TheVariants.{Unroutable}
use Rattle.net_addr.specs.declared.peer.Peer.{Peer}
use Rattle.random_words.specs.Seeded.{seeded_words}
use Rattle.grammar.specs.declared.fault.LineFault.{LineFault}
use Rattle.grammar.specs.declared.fault.LineFault.TheVariants as fault
use Rattle.grammar.specs.declared.random.TheConstants.{MAX_SEEDED}

-- A kind of field: a decimal number between two bounds; an address; a peer; bytes in hexadecimal
-- digits; random words; one of two keywords; a set of networks; and a set of classes of addresses.
pub data Kind : Type 0 where
  Number : (least most : ℕ) → Kind
  OfAddr : Kind
  OfPeer : Kind
  Hex : Kind
  Random : Kind
  Either : (first second : List ℕ) → Kind
  Nets : Kind
  Classes : Kind

-- The field of a number of 32 bits.
abbrev pub u32_field : Kind
u32_field = Number 0 (2 ^ 32 - 1)

-- The field of a number of 64 bits.
abbrev pub u64_field : Kind
u64_field = Number 0 (2 ^ 64 - 1)

-- the value of a field
pub data Value : Type 0 where
  TheNumber : (n : ℕ) → Value
  TheAddr : (a : Address) → Value
  ThePeer : (p : Peer) → Value
  TheBytes : (bytes : List ℕ) → Value
  TheWords : (words : List ℕ) → Value
  TheChoice : (is_first : Bool) → Value
  TheNets : (nets : List ℕ) → Value

-- `-` for no bytes, or hexadecimal digits, two a byte and in either case
abbrev pub IsHex : List ℕ → List ℕ → Type 0
IsHex text bytes = ((text ≡ codes "-") × (bytes ≡ [])) ⊎ ((text ≢ []) × (decode_of text ≡ Ok bytes))

-- numbers below 2^64 with commas between them
abbrev pub AreNumbers : List ℕ → List ℕ → Type 0
AreNumbers text words =
    (words ≢ []) × All (λ w. w < 2 ^ 64) words × (text ≡ join_with_byte 44 (map decimal words))

-- `@S:N`, the first N words of the generator that the seed S gives, at most `MAX_SEEDED`
abbrev pub AreSeeded : List ℕ → List ℕ → Type 0
AreSeeded text words =
    (seed : ℕ) × (count : ℕ) × (seed < 2 ^ 64) × (count ≤ MAX_SEEDED)
    × (text ≡ codes "@" ++ decimal seed ++ codes ":" ++ decimal count)
    × (words ≡ seeded_words seed count)

-- `-` for no words, numbers, or a seed
abbrev pub AreWords : List ℕ → List ℕ → Type 0
AreWords text words =
    ((text ≡ codes "-") × (words ≡ [])) ⊎ (AreNumbers text words ⊎ AreSeeded text words)

-- the names, at least one and each once, in any order and separated by commas
pub record AreNames (text : List ℕ) (nets : List Net) : Type 0 where
  pub some : nets ≢ []
  pub once : AllPairs (λ a b. a ≢ b) nets
  pub names : text ≡ join_with_byte 44 (map net_name nets)

-- the set of the networks that are named
abbrev pub set_of : List Net → List ℕ
set_of nets = fold with_net none nets

-- `all`, or the names of classes of addresses
abbrev pub AreClasses : List ℕ → List ℕ → Type 0
AreClasses text set =
    ((text ≡ codes "all") × (set ≡ all))
    ⊎ ((nets : List Net) × AreNames text nets × (set ≡ set_of nets))

-- `all`, or the names of networks, of which `unroutable` is none
abbrev pub AreNets : List ℕ → List ℕ → Type 0
AreNets text set =
    ((text ≡ codes "all") × (set ≡ all))
    ⊎ ((nets : List Net) × AreNames text nets × All (λ net. net ≢ Unroutable) nets
    × (set ≡ set_of nets))

-- The first of two words if true, and the second if false.
abbrev pub choice : List ℕ → List ℕ → Bool → List ℕ
choice first second true = first
choice first second false = second

-- the text is of the kind and has the value
abbrev pub Means : Kind → List ℕ → Value → Type 0
Means (Number least most) text v =
    (n : ℕ) × (v ≡ TheNumber n) × (least ≤ n) × (n ≤ most) × (text ≡ decimal n)
Means OfAddr text v = (a : Address) × (v ≡ TheAddr a) × IsAddrText text a
Means OfPeer text v = (p : Peer) × (v ≡ ThePeer p) × IsPeerText text p
Means Hex text v = (bytes : List ℕ) × (v ≡ TheBytes bytes) × IsHex text bytes
Means Random text v = (words : List ℕ) × (v ≡ TheWords words) × AreWords text words
Means (Either first second) text v = (b : Bool) × (v ≡ TheChoice b) × (text ≡ choice first second b)
Means Nets text v = (set : List ℕ) × (v ≡ TheNets set) × AreNets text set
Means Classes text v = (set : List ℕ) × (v ≡ TheNets set) × AreClasses text set

-- the text is of the kind
abbrev pub IsInForm : Kind → List ℕ → Type 0
IsInForm kind text = (v : Value) × Means kind text v

-- the kind has texts of at most one value each: its numbers have 64 bits, its two keywords differ
abbrev pub IsDefinite : Kind → Type 0
IsDefinite (Number least most) = most < 2 ^ 64
IsDefinite (Either first second) = first ≢ second
IsDefinite OfAddr = Unit {0}
IsDefinite OfPeer = Unit {0}
IsDefinite Hex = Unit {0}
IsDefinite Random = Unit {0}
IsDefinite Nets = Unit {0}
IsDefinite Classes = Unit {0}

-- the fault of a field that is not of its kind
abbrev pub fault_of : Kind → LineFault
fault_of (Number least most) = fault.Number
fault_of OfAddr = fault.Peer
fault_of OfPeer = fault.Peer
fault_of Hex = fault.Hex
fault_of Random = fault.Words
fault_of (Either first second) = fault.Word
fault_of Nets = fault.Word
fault_of Classes = fault.Word

-- the texts are of the kinds, in order, and have the values
abbrev pub AllMean : List Kind → List (List ℕ) → List Value → Type 0
AllMean [] [] [] = Unit {0}
AllMean (kind ∷ kinds) (text ∷ texts) (v ∷ vs) = Means kind text v × AllMean kinds texts vs
AllMean [] [] (v ∷ vs) = ⊥
AllMean [] (text ∷ texts) vs = ⊥
AllMean (kind ∷ kinds) [] vs = ⊥
AllMean (kind ∷ kinds) (text ∷ texts) [] = ⊥

-- the text is not of the kind, and this is its fault
abbrev pub IsFieldFault : Kind → List ℕ → LineFault → Type 0
IsFieldFault kind text f = ¬ IsInForm kind text × (f ≡ fault_of kind)

-- the fault of the first text that is not of its kind
abbrev pub IsFirstFault : List Kind → List (List ℕ) → LineFault → Type 0
IsFirstFault (kind ∷ kinds) (text ∷ texts) f =
    IsFieldFault kind text f ⊎ (IsInForm kind text × IsFirstFault kinds texts f)
IsFirstFault [] texts f = ⊥
IsFirstFault (kind ∷ kinds) [] f = ⊥

-- what is wrong in the fields: how many they are, or else the first that is not of its kind
abbrev pub AreAtFault : List Kind → List (List ℕ) → LineFault → Type 0
AreAtFault kinds texts f =
    ((length texts ≢ length kinds) × (f ≡ fault.Fields))
    ⊎ ((length texts ≡ length kinds) × IsFirstFault kinds texts f)
