-- What makes records one group, or `-` for sets, and the arguments after it.
use Rattle.std.proofs.Common.{◌≡◌, ℕ, List, [], ◌∷◌, codes, drop, find, get_or, Option, Some, None, refl, sym, ap, subst, ◌∙◌, arith}
use Rattle.std.specs.Prelude.{bytes_eq, unwrap_or}
use Rattle.peers_file.specs.declared.chain.Chain.{Chain}
use Rattle.placing.specs.declared.sum.SumRule.{SumRule}
use Rattle.placing.specs.declared.sum.SumRule.TheVariants.{Bytes}
use Rattle.arguments.specs.Options.{HasRule, IsAfterDash, IsAfterGrouping, IsAfterWord, IsFileOptions, IsNet, IsRaw, grouping_word}
use Rattle.arguments.specs.declared.file_kind.FileKind.{FileKind}
use Rattle.arguments.specs.declared.grouping.Grouping.{Grouping}
use Rattle.arguments.specs.declared.grouping.Grouping.TheVariants.{Source, Peer, Network}
use Rattle.arguments.specs.declared.grouping.TheConstants.{GROUPINGS}
use Rattle.arguments.proofs.Choosing.{one_after_word, one_net, third_of_raw}
use Rattle.arguments.proofs.WithCore.{not_file, not_read}

-- the one that a word is found to be
abbrev pub found_by : List ℕ → Option Grouping
found_by word = find (λ k. bytes_eq (grouping_word k) word) GROUPINGS

-- what comes after `risk`: what makes records one group, or `-`
abbrev choice_word : Option Grouping → List ℕ
choice_word (Some by) = grouping_word by
choice_word None = codes "-"

abbrev pub IsAfterChoice : Option Grouping → List (List ℕ) → Chain → Type 0
IsAfterChoice choice options chain = IsAfterWord (choice_word choice) options chain

found_choice : (choice : Option Grouping) → found_by (choice_word choice) ≡ choice
found_choice (Some Source) = refl
found_choice (Some Peer) = refl
found_choice (Some Network) = refl
found_choice None = refl

word_found : (word : List ℕ) (by : Grouping) → word ≡ grouping_word by → found_by word ≡ Some by
word_found word by is = ap found_by is ∙ found_choice (Some by)

one_choice : (a b : Option Grouping) → choice_word a ≡ choice_word b → a ≡ b
one_choice a b is = sym (found_choice a) ∙ ap found_by is ∙ found_choice b

-- WHAT IS READ

-- the chain is read after the word
pub only_after : (texts rest : List (List ℕ)) (word : List ℕ) (found : Option Grouping) (by : Grouping) (r : Option Chain) → texts ≡ word ∷ rest → found ≡ found_by word → found ≡ Some by
    → ((chain : Chain) → IsNet rest chain → r ≡ Some chain) → (other : Grouping) (chain : Chain) → IsAfterGrouping other texts chain → (by ≡ other) × (r ≡ Some chain)
only_after texts rest word found by r is searched some only other chain (left, begins, net) = (
  ap (λ o. unwrap_or o by) (sym some ∙ searched ∙ word_found word other (ap (λ ts. get_or ts 0 []) (sym is ∙ begins))),
  only chain (subst (λ ts. IsNet ts chain) (ap (drop 1) (sym begins ∙ is)) net),
)

-- `--core` BEFORE IT

pub one_after : (texts : List (List ℕ)) (x y : Option Grouping) (a b : Chain) → IsAfterChoice x texts a → IsAfterChoice y texts b → (x ≡ y) × (a ≡ b)
one_after texts x y a b (rest, is, net) (other, same, also) = (
  one_choice x y (ap (λ ts. get_or ts 0 []) (sym is ∙ same)),
  one_net other a b (subst (λ ts. IsNet ts a) (ap (drop 1) (sym is ∙ same)) net) also,
)

-- neither is `--core`
no_core : (choice : Option Grouping) → choice_word choice ≡ codes "--core" → ⊥
no_core (Some Source) is = omega (arith, ap (λ t. get_or t 0 0) is)
no_core (Some Peer) is = omega (arith, ap (λ t. get_or t 0 0) is)
no_core (Some Network) is = omega (arith, ap (λ t. get_or t 0 0) is)
no_core None is = omega (arith, ap (λ t. get_or t 1 0) is)

pub apart_after : (choice : Option Grouping) (texts rest : List (List ℕ)) (chain : Chain) → texts ≡ codes "--core" ∷ rest → IsAfterChoice choice texts chain → ⊥
apart_after choice texts rest chain is (left, begins, net) = no_core choice (ap (λ ts. get_or ts 0 []) (sym begins ∙ is))

-- neither begins as `--raw` does
no_third : (choice : Option Grouping) → get_or (choice_word choice) 2 0 ≡ 114 → ⊥
no_third (Some Source) is = omega (arith, is)
no_third (Some Peer) is = omega (arith, is)
no_third (Some Network) is = omega (arith, is)
no_third None is = omega (arith, is)

pub raw_or_choice : (choice : Option Grouping) (texts rest : List (List ℕ)) (chain : Chain) → IsRaw rest texts → IsAfterChoice choice texts chain → ⊥
raw_or_choice choice texts rest chain raw (left, begins, net) = no_third choice (ap (λ ws. get_or (get_or ws 0 []) 2 0) (sym begins) ∙ third_of_raw rest texts raw)

one_grouping : (texts : List (List ℕ)) (x y : Grouping) (a b : Chain) → IsAfterGrouping x texts a → IsAfterGrouping y texts b → (x ≡ y) × (a ≡ b)
one_grouping texts x y a b h k = let same = one_after texts (Some x) (Some y) a b h k in (ap (λ o. unwrap_or o x) same.0, same.1)

pub no_grouping_kind : (words rest : List (List ℕ)) (r : SumRule) → HasRule r rest words → (r ≡ Bytes → (tail : List (List ℕ)) → words ≡ codes "--core" ∷ tail → ⊥)
    → ((by : Grouping) (c : Chain) → IsAfterGrouping by rest c → ⊥) → (by : Grouping) (kind : FileKind) → IsFileOptions (IsAfterGrouping by) words kind → ⊥
no_grouping_kind words rest r h none never by kind is =
    not_read IsAfterGrouping one_grouping (λ x ts left c same asks. apart_after (Some x) ts left c same asks) words rest r h none never by kind is

pub no_sets_kind : (words rest : List (List ℕ)) (r : SumRule) → HasRule r rest words → (r ≡ Bytes → (tail : List (List ℕ)) → words ≡ codes "--core" ∷ tail → ⊥)
    → ((c : Chain) → IsAfterDash rest c → ⊥) → (kind : FileKind) → IsFileOptions IsAfterDash words kind → ⊥
no_sets_kind words rest r h none never kind is =
    not_file IsAfterDash (one_after_word (codes "-")) (λ ts left c same asks. apart_after None ts left c same asks) words rest r h none never kind is
