-- What the colours of a picture show, and the arguments after it.
use Rattle.std.proofs.Common.{◌≡◌, ℕ, List, [], ◌∷◌, codes, find, get_or, Option, Some, inl, inr, refl, sym, ap, subst, ◌∙◌, arith}
use Rattle.std.specs.Prelude.{bytes_eq, unwrap_or}
use Rattle.std.proofs.lemmas.Slice.Eq.{bytes_eq-Decides}
use Rattle.peers_file.specs.declared.chain.Chain.{Chain}
use Rattle.placing.specs.declared.sum.SumRule.{SumRule}
use Rattle.placing.specs.declared.sum.SumRule.TheVariants.{Bytes}
use Rattle.arguments.specs.Inside.{Begins}
use Rattle.arguments.specs.Options.{HasRule, IsAfterColouring, IsFileOptions, IsMarked, IsNet, IsRaw, colouring_word}
use Rattle.arguments.specs.declared.colouring.Colouring.{Colouring}
use Rattle.arguments.specs.declared.colouring.Colouring.TheVariants.{Network, Source, Group, Age}
use Rattle.arguments.specs.declared.colouring.TheConstants.{COLOURINGS}
use Rattle.arguments.specs.declared.colours.Colours.{Colours}
use Rattle.arguments.specs.declared.colours.Colours.TheVariants as colours
use Rattle.arguments.specs.declared.file_kind.FileKind.{FileKind}
use Rattle.arguments.specs.declared.marks.Marks.{Marks}
use Rattle.arguments.proofs.Choosing.{one_net, same_start, third_of_net, third_of_none, third_of_raw}
use Rattle.arguments.proofs.Marking.{net_or_marked, one_marked, third_at_most, third_of_marked}
use Rattle.arguments.proofs.Names.{passes}
use Rattle.arguments.proofs.WithCore.{apart_net, not_read}

-- the one that a word is found to be
abbrev pub found_by : List ℕ → Option Colouring
found_by word = find (λ k. bytes_eq (colouring_word k) word) COLOURINGS

found_colouring : (by : Colouring) → found_by (colouring_word by) ≡ Some by
found_colouring Network = refl
found_colouring Source = refl
found_colouring Group = refl
found_colouring Age = refl

word_found : (word : List ℕ) (by : Colouring) → word ≡ colouring_word by → found_by word ≡ Some by
word_found word by is = subst (λ w. found_by w ≡ Some by) (sym is) (found_colouring by)

-- the word of the one that was found
pub colour_read : (word : List ℕ) (found : Option Colouring) (by : Colouring) → found ≡ found_by word → found ≡ Some by → word ≡ colouring_word by
colour_read word found by searched some = sym ((bytes_eq-Decides (colouring_word by) word).0 (passes (λ k. bytes_eq (colouring_word k) word) COLOURINGS by (sym searched ∙ some)))

one_colouring : (a b : Colouring) → colouring_word a ≡ colouring_word b → a ≡ b
one_colouring a b is = ap (λ o. unwrap_or o a) (sym (found_colouring a) ∙ word_found (colouring_word a) b is)

-- WHAT COMES FIRST

third_of_by : (value : List ℕ) (rest words : List (List ℕ)) → Begins (codes "--by") value rest words → get_or (get_or words 0 []) 2 0 ≡ 98
third_of_by value rest words (inl is) = ap (λ ws. get_or (get_or ws 0 []) 2 0) is
third_of_by value rest words (inr is) = ap (λ ws. get_or (get_or ws 0 []) 2 0) is

-- words that choose a chain don't begin with `--by`
not_net : (value : List ℕ) (rest words : List (List ℕ)) (chain : Chain) → Begins (codes "--by") value rest words → IsNet words chain → ⊥
not_net value rest words chain begins (inl none) = omega (arith, third_of_by value rest words begins, third_of_none words none.0)
not_net value rest words chain begins (inr (option, next, means, is)) = omega (arith, third_of_by value rest words begins, third_of_net option next [] words is)

-- nor do those with sets
not_marked : (value : List ℕ) (rest words : List (List ℕ)) (marks : Marks) (chain : Chain) → Begins (codes "--by") value rest words → IsMarked marks words chain → ⊥
not_marked value rest words marks chain begins marked = omega (arith, third_of_by value rest words begins, (third_of_marked marks words chain marked).0)

-- WHAT IS READ

-- after `--by` its word, and then a chain
pub only_by : (texts rest : List (List ℕ)) (word : List ℕ) (found : Option Colouring) → Begins (codes "--by") word rest texts → found ≡ found_by word
    → (x : Colours) (chain : Chain) → IsAfterColouring x texts chain → (by : Colouring) × (x ≡ colours.By by) × (found ≡ Some by) × IsNet rest chain
only_by texts rest word found begins searched colours.Plain chain net = absurd (not_net word rest texts chain begins net)
only_by texts rest word found begins searched (colours.Marks marks) chain marked = absurd (not_marked word rest texts marks chain begins marked)
only_by texts rest word found begins searched (colours.By by) chain (left, also, net) =
    let same = same_start (codes "--by") word (colouring_word by) rest left texts begins also in
    (by, refl, searched ∙ word_found word by same.0, subst (λ ts. IsNet ts chain) (sym same.1) net)

-- without it sets, or only a chain
pub only_marks : (texts : List (List ℕ)) (marks : Marks) (other : Chain) → IsMarked marks texts other → ((value : List ℕ) (rest : List (List ℕ)) → Begins (codes "--by") value rest texts → ⊥)
    → (x : Colours) (chain : Chain) → IsAfterColouring x texts chain → (colours.Marks marks ≡ x) × (other ≡ chain)
only_marks texts marks other marked off colours.Plain chain net = absurd (net_or_marked texts marks chain other net marked)
only_marks texts marks other marked off (colours.By by) chain (rest, begins, net) = absurd (off (colouring_word by) rest begins)
only_marks texts marks other marked off (colours.Marks more) chain also =
    let same = one_marked texts marks more other chain marked also in
    (ap colours.Marks same.0, same.1)

pub only_net : (texts : List (List ℕ)) (r : Option Chain) → ((value : List ℕ) (rest : List (List ℕ)) → Begins (codes "--by") value rest texts → ⊥)
    → ((marks : Marks) (chain : Chain) → IsMarked marks texts chain → ⊥) → ((chain : Chain) → IsNet texts chain → r ≡ Some chain)
    → (x : Colours) (chain : Chain) → IsAfterColouring x texts chain → (colours.Plain ≡ x) × (r ≡ Some chain)
only_net texts r off none only colours.Plain chain net = (refl, only chain net)
only_net texts r off none only (colours.By by) chain (rest, begins, net) = absurd (off (colouring_word by) rest begins)
only_net texts r off none only (colours.Marks marks) chain marked = absurd (none marks chain marked)

-- `--core` OR `--raw -` BEFORE IT

pub one_colours : (texts : List (List ℕ)) (x y : Colours) (a b : Chain) → IsAfterColouring x texts a → IsAfterColouring y texts b → (x ≡ y) × (a ≡ b)
one_colours texts colours.Plain colours.Plain a b p q = (refl, one_net texts a b p q)
one_colours texts colours.Plain (colours.By y) a b p (rest, begins, net) = absurd (not_net (colouring_word y) rest texts a begins p)
one_colours texts colours.Plain (colours.Marks y) a b p q = absurd (net_or_marked texts y a b p q)
one_colours texts (colours.By x) colours.Plain a b (rest, begins, net) q = absurd (not_net (colouring_word x) rest texts b begins q)
one_colours texts (colours.By x) (colours.By y) a b (rest, begins, net) (left, also, other) =
    let same = same_start (codes "--by") (colouring_word x) (colouring_word y) rest left texts begins also in
    (ap colours.By (one_colouring x y same.0), one_net left a b (subst (λ ts. IsNet ts a) same.1 net) other)
one_colours texts (colours.By x) (colours.Marks y) a b (rest, begins, net) q = absurd (not_marked (colouring_word x) rest texts y b begins q)
one_colours texts (colours.Marks x) colours.Plain a b p q = absurd (net_or_marked texts x b a q p)
one_colours texts (colours.Marks x) (colours.By y) a b p (rest, begins, net) = absurd (not_marked (colouring_word y) rest texts x a begins p)
one_colours texts (colours.Marks x) (colours.Marks y) a b p q =
    let same = one_marked texts x y a b p q in
    (ap colours.Marks same.0, same.1)

pub apart_colours : (x : Colours) (texts rest : List (List ℕ)) (chain : Chain) → texts ≡ codes "--core" ∷ rest → IsAfterColouring x texts chain → ⊥
apart_colours colours.Plain texts rest chain is net = apart_net texts rest chain is net
apart_colours (colours.By by) texts rest chain is (left, begins, net) = omega (arith, third_of_by (colouring_word by) left texts begins, ap (λ ts. get_or (get_or ts 0 []) 2 0) is)
apart_colours (colours.Marks marks) texts rest chain is marked = omega (arith, (third_of_marked marks texts chain marked).0, ap (λ ts. get_or (get_or ts 0 []) 2 0) is)

pub raw_or_colours : (x : Colours) (texts rest : List (List ℕ)) (chain : Chain) → IsRaw rest texts → IsAfterColouring x texts chain → ⊥
raw_or_colours colours.Plain texts rest chain raw (inl none) = omega (arith, third_of_raw rest texts raw, third_of_none texts none.0)
raw_or_colours colours.Plain texts rest chain raw (inr (by, value, means, option)) = omega (arith, third_of_raw rest texts raw, third_at_most by value [] texts option)
raw_or_colours (colours.By by) texts rest chain raw (left, begins, net) = omega (arith, third_of_raw rest texts raw, third_of_by (colouring_word by) left texts begins)
raw_or_colours (colours.Marks marks) texts rest chain raw marked = omega (arith, third_of_raw rest texts raw, (third_of_marked marks texts chain marked).1)

pub no_colours_kind : (words rest : List (List ℕ)) (r : SumRule) → HasRule r rest words → (r ≡ Bytes → (tail : List (List ℕ)) → words ≡ codes "--core" ∷ tail → ⊥)
    → ((x : Colours) (c : Chain) → IsAfterColouring x rest c → ⊥) → (x : Colours) (kind : FileKind) → IsFileOptions (IsAfterColouring x) words kind → ⊥
no_colours_kind words rest r h none never x kind is = not_read IsAfterColouring one_colours apart_colours words rest r h none never x kind is
