-- `--raw -` before the other options, which do not begin with it.
use Rattle.std.proofs.Common.{◌≡◌, ℕ, List, [], ◌∷◌, codes, Option, Some, None, inl, inr, refl, sym, ap, subst, ◌∙◌, arith}
use Rattle.std.specs.Prelude.{⊤, unwrap_or}
use Rattle.std.proofs.lemmas.Option.{none-some}
use Rattle.peers_file.specs.declared.chain.Chain.{Chain}
use Rattle.placing.specs.declared.sum.SumRule.{SumRule}
use Rattle.placing.specs.declared.sum.SumRule.TheVariants.{Bytes, Bits}
use Rattle.arguments.specs.Options.{HasRule, IsAfterColouring, IsAfterDash, IsAfterGrouping, IsFileOptions, IsNet, IsRaw, IsTables}
use Rattle.arguments.specs.Table.{Coloured, Grouped, HasNoValues, Network, Reads, Tables, TheGroups, TheKind, Values}
use Rattle.arguments.specs.declared.colours.Colours.{Colours}
use Rattle.arguments.specs.declared.file_kind.FileKind.{FileKind}
use Rattle.arguments.specs.declared.grouping.Grouping.{Grouping}
use Rattle.arguments.specs.declared.tables_from.TablesFrom.{TablesFrom}
use Rattle.arguments.specs.declared.tables_from.TablesFrom.TheVariants.{File, Listing}
use Rattle.arguments.proofs.Choosing.{one_net, same_start, third_of_none, third_of_raw}
use Rattle.arguments.proofs.Colourings.{apart_colours, one_colours, raw_or_colours}
use Rattle.arguments.proofs.Groupings.{IsAfterChoice, apart_after, one_after, raw_or_choice}
use Rattle.arguments.proofs.Marking.{third_at_most, third_byte}
use Rattle.arguments.proofs.WithCore.{apart_net, one_kind}

raw_or_net : (texts rest : List (List ℕ)) (chain : Chain) → IsRaw rest texts → IsNet texts chain → ⊥
raw_or_net texts rest chain raw (inl none) = omega (arith, third_of_raw rest texts raw, third_of_none texts none.0)
raw_or_net texts rest chain raw (inr (by, value, means, option)) = omega (arith, third_of_raw rest texts raw, third_at_most by value [] texts option)

-- the other options choose one thing and one chain, and begin neither with `--core` nor `--raw -`
module _ {X : Type 0} (IsChosen : X → List (List ℕ) → Chain → Type 0)
    (one : (texts : List (List ℕ)) (x y : X) (a b : Chain) → IsChosen x texts a → IsChosen y texts b → (x ≡ y) × (a ≡ b))
    (apart : (x : X) (texts rest : List (List ℕ)) (chain : Chain) → texts ≡ codes "--core" ∷ rest → IsChosen x texts chain → ⊥)
    (raw_or : (x : X) (texts rest : List (List ℕ)) (chain : Chain) → IsRaw rest texts → IsChosen x texts chain → ⊥) where
  raw_or_by : (texts rest left : List (List ℕ)) (rule : SumRule) (x : X) (chain : Chain) → IsRaw rest texts → HasRule rule left texts → IsChosen x left chain → ⊥
  raw_or_by texts rest left Bytes x chain raw has p = raw_or x left rest chain (subst (IsRaw rest) has raw) p
  raw_or_by texts rest left Bits x chain raw has p = omega (arith, third_of_raw rest texts raw, ap third_byte has)

  pub raw_or_file : (texts rest : List (List ℕ)) (x : X) (kind : FileKind) → IsRaw rest texts → IsFileOptions (IsChosen x) texts kind → ⊥
  raw_or_file texts rest x kind raw (left, has, p) = raw_or_by texts rest left kind.rule x kind.chain raw has p

  pub one_tables : (texts : List (List ℕ)) (x y : X) (a b : TablesFrom) → IsTables (IsChosen x) texts a → IsTables (IsChosen y) texts b → (x ≡ y) × (a ≡ b)
  one_tables texts x y (File a) (File b) h k = let same = one_kind IsChosen one apart texts x y a b h k in (same.0, ap File same.1)
  one_tables texts x y (File a) (Listing d) h (rest, raw, q) = absurd (raw_or_file texts rest x a raw h)
  one_tables texts x y (Listing c) (File b) (rest, raw, p) k = absurd (raw_or_file texts rest y b raw k)
  one_tables texts x y (Listing c) (Listing d) (rest, raw, p) (left, also, q) =
      let rests = (same_start (codes "--raw") (codes "-") (codes "-") rest left texts raw also).1 in
      let same = one left x y c d (subst (λ ts. IsChosen x ts c) rests p) q in
      (same.0, ap Listing same.1)

  -- after `--raw -` the others choose nothing
  pub not_listed : (texts rest : List (List ℕ)) → IsRaw rest texts → ((x : X) (c : Chain) → IsChosen x rest c → ⊥) → (x : X) (from : TablesFrom) → IsTables (IsChosen x) texts from → ⊥
  not_listed texts rest raw never x (File kind) h = raw_or_file texts rest x kind raw h
  not_listed texts rest raw never x (Listing c) (left, also, p) =
      never x c (subst (λ ts. IsChosen x ts c) (same_start (codes "--raw") (codes "-") (codes "-") left rest texts also raw).1 p)

-- without it a file is chosen
pub not_filed : {X : Type 0} (IsChosen : X → List (List ℕ) → Chain → Type 0) (texts : List (List ℕ)) → ((rest : List (List ℕ)) → IsRaw rest texts → ⊥)
    → ((x : X) (kind : FileKind) → IsFileOptions (IsChosen x) texts kind → ⊥) → (x : X) (from : TablesFrom) → IsTables (IsChosen x) texts from → ⊥
not_filed IsChosen texts off never x (File kind) h = never x kind h
not_filed IsChosen texts off never x (Listing c) (rest, raw, p) = off rest raw

-- WHAT IS READ

-- only a chain is chosen
abbrev only_chain : ⊤ → List (List ℕ) → Chain → Type 0
only_chain x texts chain = IsNet texts chain

one_only : (texts : List (List ℕ)) (x y : ⊤) (a b : Chain) → IsNet texts a → IsNet texts b → (x ≡ y) × (a ≡ b)
one_only texts x y a b h k = (refl, one_net texts a b h k)

pub one_net_tables : (texts : List (List ℕ)) (a b : TablesFrom) → IsTables IsNet texts a → IsTables IsNet texts b → a ≡ b
one_net_tables texts a b h k =
    (one_tables only_chain one_only (λ x ts rest c is p. apart_net ts rest c is p) (λ x ts rest c raw p. raw_or_net ts rest c raw p) texts tt tt a b h k).1

pub no_listed_net : (texts rest : List (List ℕ)) (r : Option Chain) → IsRaw rest texts → r ≡ None → ((chain : Chain) → IsNet rest chain → r ≡ Some chain) → HasNoValues Tables texts
unfolding HasNoValues
no_listed_net texts rest r raw none only v (from, is, tables) =
    not_listed only_chain one_only (λ x ts left c same p. apart_net ts left c same p) (λ x ts left c also p. raw_or_net ts left c also p) texts rest raw
    (λ x c net. none-some c (sym none ∙ only c net)) tt from tables

pub no_filed_net : (texts : List (List ℕ)) → ((rest : List (List ℕ)) → IsRaw rest texts → ⊥) → HasNoValues Network texts → HasNoValues Tables texts
unfolding HasNoValues
no_filed_net texts off none v (from, is, tables) = not_filed only_chain texts off (λ x kind h. none (TheKind kind) (kind, refl, h)) tt from tables

-- the colours of a picture are chosen, too
pub one_colours_tables : (texts : List (List ℕ)) (x y : Colours) (a b : TablesFrom) → IsTables (IsAfterColouring x) texts a → IsTables (IsAfterColouring y) texts b → (x ≡ y) × (a ≡ b)
one_colours_tables texts x y a b h k = one_tables IsAfterColouring one_colours apart_colours raw_or_colours texts x y a b h k

pub no_listed_colours : (texts rest : List (List ℕ)) (r : Option (Colours × Chain)) → IsRaw rest texts → r ≡ None
    → ((x : Colours) (chain : Chain) → IsAfterColouring x rest chain → r ≡ Some (x, chain)) → HasNoValues Coloured texts
unfolding HasNoValues
no_listed_colours texts rest r raw none only v (x, from, is, tables) =
    not_listed IsAfterColouring one_colours apart_colours raw_or_colours texts rest raw (λ y c chosen. none-some (y, c) (sym none ∙ only y c chosen)) x from tables

pub no_filed_colours : (texts : List (List ℕ)) → ((rest : List (List ℕ)) → IsRaw rest texts → ⊥)
    → ((x : Colours) (kind : FileKind) → IsFileOptions (IsAfterColouring x) texts kind → ⊥) → HasNoValues Coloured texts
unfolding HasNoValues
no_filed_colours texts off none v (x, from, is, tables) = not_filed IsAfterColouring texts off none x from tables

-- what comes after `risk` is chosen, too
pub one_choice_tables : (texts : List (List ℕ)) (x y : Option Grouping) (a b : TablesFrom) → IsTables (IsAfterChoice x) texts a → IsTables (IsAfterChoice y) texts b → (x ≡ y) × (a ≡ b)
one_choice_tables texts x y a b h k = one_tables IsAfterChoice one_after apart_after raw_or_choice texts x y a b h k

pub one_risk : (texts : List (List ℕ)) (v w : Values) → Reads Grouped texts v → Reads Grouped texts w → v ≡ w
one_risk texts v w (inl h) (inl k) =
    let same = one_choice_tables texts (Some h.0) (Some k.0) h.1 k.1 h.3 k.3 in
    h.2 ∙ (λ i. TheGroups (unwrap_or (same.0 i) h.0) (same.1 i)) ∙ sym k.2
one_risk texts v w (inl h) (inr k) = absurd (none-some h.0 (sym (one_choice_tables texts (Some h.0) None h.1 (File k.0) h.3 k.2).0))
one_risk texts v w (inr h) (inl k) = absurd (none-some k.0 (one_choice_tables texts None (Some k.0) (File h.0) k.1 h.2 k.3).0)
one_risk texts v w (inr h) (inr k) = h.1 ∙ ap TheKind (one_kind IsAfterChoice one_after apart_after texts None None h.0 k.0 h.2 k.2).1 ∙ sym k.1

pub no_listed_grouping : (texts rest : List (List ℕ)) (r : Option (Grouping × Chain)) → IsRaw rest texts → r ≡ None
    → ((by : Grouping) (chain : Chain) → IsAfterGrouping by rest chain → r ≡ Some (by, chain)) → HasNoValues Grouped texts
unfolding HasNoValues
no_listed_grouping texts rest r raw none only v (inl (by, File kind, is, tables)) = raw_or_file IsAfterChoice one_after apart_after raw_or_choice texts rest (Some by) kind raw tables
no_listed_grouping texts rest r raw none only v (inl (by, Listing chain, is, (left, also, p))) =
    none-some (by, chain) (sym none ∙ only by chain (subst (λ ts. IsAfterGrouping by ts chain) (same_start (codes "--raw") (codes "-") (codes "-") left rest texts also raw).1 p))
no_listed_grouping texts rest r raw none only v (inr (kind, is, tables)) = raw_or_file IsAfterChoice one_after apart_after raw_or_choice texts rest None kind raw tables

pub no_filed_grouping : (texts : List (List ℕ)) → ((rest : List (List ℕ)) → IsRaw rest texts → ⊥) → ((kind : FileKind) → IsFileOptions IsAfterDash texts kind → ⊥)
    → ((by : Grouping) (kind : FileKind) → IsFileOptions (IsAfterGrouping by) texts kind → ⊥) → HasNoValues Grouped texts
unfolding HasNoValues
no_filed_grouping texts off no_sets none v (inl (by, from, is, tables)) = not_filed IsAfterGrouping texts off none by from tables
no_filed_grouping texts off no_sets none v (inr (kind, is, tables)) = no_sets kind tables
