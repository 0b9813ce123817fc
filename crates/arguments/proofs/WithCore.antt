-- `--core` before the other options, which do not begin with it.
use Rattle.std.proofs.Common.{◌≡◌, ℕ, Bool, true, false, List, [], ◌∷◌, ◌++◌, codes, drop, get_or, length, Option, Some, None, inl, inr, ap, sym, subst, arith, ◌∙◌, refl}
use Rattle.std.specs.Prelude.{⊤}
use Rattle.peers_file.specs.declared.chain.Chain.{Chain}
use Rattle.placing.specs.declared.sum.SumRule.{SumRule}
use Rattle.placing.specs.declared.sum.SumRule.TheVariants.{Bytes, Bits}
use Rattle.arguments.specs.Options.{HasRule, IsAfterPeers, IsFileOptions, IsListingOptions, IsNet, IsOpeningOptions, IsPeersOption}
use Rattle.arguments.specs.declared.file_kind.FileKind.{FileKind}
use Rattle.arguments.proofs.Choosing.{Chooses, chosen, one_after_word, one_listing, one_net, one_opening, third_of_net, third_of_none}
use Rattle.arguments.proofs.Choosing.Chooses.{neither, key_first, net_first}

third_is : (texts rest : List (List ℕ)) → texts ≡ codes "--core" ∷ rest → get_or (get_or texts 0 []) 2 0 ≡ 99
third_is texts rest is = ap (λ ts. get_or (get_or ts 0 []) 2 0) is

-- THE OTHER OPTIONS

pub apart_net : (texts rest : List (List ℕ)) (chain : Chain) → texts ≡ codes "--core" ∷ rest → IsNet texts chain → ⊥
apart_net texts rest chain is (inl none) = omega (arith, third_is texts rest is, third_of_none texts none.0)
apart_net texts rest chain is (inr (by, value, means, option)) = omega (arith, third_is texts rest is, third_of_net by value [] texts option)

apart_choice : (texts rest : List (List ℕ)) (key : Option (List ℕ)) (chain : Chain) → texts ≡ codes "--core" ∷ rest → Chooses texts key chain → ⊥
apart_choice texts rest key chain is (neither none k c) = omega (arith, third_is texts rest is, third_of_none texts none)
apart_choice texts rest key chain is (key_first digits left k e read (inl begin) net) = omega (arith, third_is texts rest is, ap (λ ts. get_or (get_or ts 0 []) 2 0) begin)
apart_choice texts rest key chain is (key_first digits left k e read (inr begin) net) = omega (arith, third_is texts rest is, ap (λ ts. get_or (get_or ts 0 []) 2 0) begin)
apart_choice texts rest key chain is (net_first by value left means begin keys) = omega (arith, third_is texts rest is, third_of_net by value left texts begin)

apart_opening : (key : Option (List ℕ)) (texts rest : List (List ℕ)) (chain : Chain) → texts ≡ codes "--core" ∷ rest → IsOpeningOptions key texts chain → ⊥
apart_opening key texts rest chain is opening = apart_choice texts rest key chain is (chosen texts key chain opening)

apart_last : (texts rest left : List (List ℕ)) (chain : Chain) → texts ≡ codes "--core" ∷ rest → texts ≡ left ++ codes "--no-key" ∷ [] → IsNet left chain → ⊥
apart_last texts rest [] chain is last net = omega (arith, third_is texts rest is, ap (λ ts. get_or (get_or ts 0 []) 2 0) last)
apart_last texts rest (word ∷ left) chain is last net =
    apart_net (word ∷ left) left chain (ap (λ ts. get_or ts 0 [] ∷ left) (sym last ∙ is)) net

apart_listing : (keyed : Bool) (texts rest : List (List ℕ)) (chain : Chain) → texts ≡ codes "--core" ∷ rest → IsListingOptions keyed texts chain → ⊥
apart_listing true texts rest chain is net = apart_net texts rest chain is net
apart_listing false texts rest chain is (left, inl first, net) = omega (arith, third_is texts rest is, ap (λ ts. get_or (get_or ts 0 []) 2 0) first)
apart_listing false texts rest chain is (left, inr last, net) = apart_last texts rest left chain is last net

apart_peers : (texts rest : List (List ℕ)) (chain : Chain) → texts ≡ codes "--core" ∷ rest → IsAfterPeers texts chain → ⊥
apart_peers texts rest chain is (left, peers, net) = omega (arith, third_is texts rest is, ap (λ ts. get_or (get_or ts 0 []) 2 0) peers)

-- ONE KIND

-- the other options choose one thing and one chain, and do not begin with `--core`
module _ {X : Type 0} (IsChosen : X → List (List ℕ) → Chain → Type 0)
    (one : (texts : List (List ℕ)) (x y : X) (a b : Chain) → IsChosen x texts a → IsChosen y texts b → (x ≡ y) × (a ≡ b))
    (apart : (x : X) (texts rest : List (List ℕ)) (chain : Chain) → texts ≡ codes "--core" ∷ rest → IsChosen x texts chain → ⊥) where
  one_by : (texts rest left : List (List ℕ)) (r s : SumRule) (x y : X) (a b : Chain) → HasRule r rest texts → HasRule s left texts → IsChosen x rest a → IsChosen y left b
      → (r ≡ s) × (x ≡ y) × (a ≡ b)
  one_by texts rest left Bytes Bytes x y a b h k p q =
      let same = one left x y a b (subst (λ ts. IsChosen x ts a) (sym h ∙ k) p) q in
      (refl, same.0, same.1)
  one_by texts rest left Bytes Bits x y a b h k p q = absurd (apart x rest left a (sym h ∙ k) p)
  one_by texts rest left Bits Bytes x y a b h k p q = absurd (apart y left rest b (sym k ∙ h) q)
  one_by texts rest left Bits Bits x y a b h k p q =
      let same = one left x y a b (subst (λ ts. IsChosen x ts a) (ap (drop 1) (sym h ∙ k)) p) q in
      (refl, same.0, same.1)

  pub one_kind : (texts : List (List ℕ)) (x y : X) (a b : FileKind) → IsFileOptions (IsChosen x) texts a → IsFileOptions (IsChosen y) texts b → (x ≡ y) × (a ≡ b)
  one_kind texts x y a b (rest, h, p) (left, k, q) =
      let same = one_by texts rest left a.rule b.rule x y a.chain b.chain h k p q in
      (same.1, λ i. record { chain = same.2 i; rule = same.0 i })

  not_by : (words rest left : List (List ℕ)) (r s : SumRule) (x : X) (chain : Chain) → HasRule r rest words → (r ≡ Bytes → (tail : List (List ℕ)) → words ≡ codes "--core" ∷ tail → ⊥)
      → ((y : X) (c : Chain) → IsChosen y rest c → ⊥) → HasRule s left words → IsChosen x left chain → ⊥
  not_by words rest left Bytes Bytes x chain h none never k p = never x chain (subst (λ ts. IsChosen x ts chain) (sym k ∙ h) p)
  not_by words rest left Bytes Bits x chain h none never k p = none refl left k
  not_by words rest left Bits Bytes x chain h none never k p = apart x left rest chain (sym k ∙ h) p
  not_by words rest left Bits Bits x chain h none never k p = never x chain (subst (λ ts. IsChosen x ts chain) (ap (drop 1) (sym k ∙ h)) p)

  -- if the others choose nothing, all choose nothing
  pub not_read : (words rest : List (List ℕ)) (r : SumRule) → HasRule r rest words → (r ≡ Bytes → (tail : List (List ℕ)) → words ≡ codes "--core" ∷ tail → ⊥)
      → ((y : X) (c : Chain) → IsChosen y rest c → ⊥) → (x : X) (kind : FileKind) → IsFileOptions (IsChosen x) words kind → ⊥
  not_read words rest r h none never x kind (left, k, p) = not_by words rest left r kind.rule x kind.chain h none never k p

-- THE FORMS

pub one_opening_kind : (texts : List (List ℕ)) (k l : Option (List ℕ)) (a b : FileKind) → IsFileOptions (IsOpeningOptions k) texts a → IsFileOptions (IsOpeningOptions l) texts b → (k ≡ l) × (a ≡ b)
one_opening_kind texts k l a b h j = one_kind IsOpeningOptions one_opening apart_opening texts k l a b h j

pub no_opening_kind : (words rest : List (List ℕ)) (r : SumRule) → HasRule r rest words → (r ≡ Bytes → (tail : List (List ℕ)) → words ≡ codes "--core" ∷ tail → ⊥)
    → ((key : Option (List ℕ)) (c : Chain) → IsOpeningOptions key rest c → ⊥) → (key : Option (List ℕ)) (kind : FileKind) → IsFileOptions (IsOpeningOptions key) words kind → ⊥
no_opening_kind words rest r h none never key kind is = not_read IsOpeningOptions one_opening apart_opening words rest r h none never key kind is

pub one_listing_kind : (texts : List (List ℕ)) (k l : Bool) (a b : FileKind) → IsFileOptions (IsListingOptions k) texts a → IsFileOptions (IsListingOptions l) texts b → (k ≡ l) × (a ≡ b)
one_listing_kind texts k l a b h j = one_kind IsListingOptions one_listing apart_listing texts k l a b h j

pub no_listing_kind : (words rest : List (List ℕ)) (r : SumRule) → HasRule r rest words → (r ≡ Bytes → (tail : List (List ℕ)) → words ≡ codes "--core" ∷ tail → ⊥)
    → ((keyed : Bool) (c : Chain) → IsListingOptions keyed rest c → ⊥) → (keyed : Bool) (kind : FileKind) → IsFileOptions (IsListingOptions keyed) words kind → ⊥
no_listing_kind words rest r h none never keyed kind is = not_read IsListingOptions one_listing apart_listing words rest r h none never keyed kind is

-- the others choose a chain, and nothing else
module _ (IsChosen : List (List ℕ) → Chain → Type 0) (one : (texts : List (List ℕ)) (a b : Chain) → IsChosen texts a → IsChosen texts b → a ≡ b)
    (apart : (texts rest : List (List ℕ)) (chain : Chain) → texts ≡ codes "--core" ∷ rest → IsChosen texts chain → ⊥) where
  one_file : (texts : List (List ℕ)) (a b : FileKind) → IsFileOptions IsChosen texts a → IsFileOptions IsChosen texts b → a ≡ b
  one_file texts a b h k = (one_kind {X = ⊤} (λ x ts c. IsChosen ts c) (λ ts x y c d p q. (refl, one ts c d p q)) (λ x ts rest c is p. apart ts rest c is p) texts tt tt a b h k).1

  pub not_file : (words rest : List (List ℕ)) (r : SumRule) → HasRule r rest words → (r ≡ Bytes → (tail : List (List ℕ)) → words ≡ codes "--core" ∷ tail → ⊥)
      → ((c : Chain) → IsChosen rest c → ⊥) → (kind : FileKind) → IsFileOptions IsChosen words kind → ⊥
  not_file words rest r h none never kind is =
      not_read {X = ⊤} (λ x ts c. IsChosen ts c) (λ ts x y c d p q. (refl, one ts c d p q)) (λ x ts left c e p. apart ts left c e p) words rest r h none (λ x c p. never c p) tt kind is

pub one_file_kind : (texts : List (List ℕ)) (a b : FileKind) → IsFileOptions IsNet texts a → IsFileOptions IsNet texts b → a ≡ b
one_file_kind texts a b h k = one_file IsNet one_net apart_net texts a b h k

pub no_file_kind : (words rest : List (List ℕ)) (r : SumRule) → HasRule r rest words → (r ≡ Bytes → (tail : List (List ℕ)) → words ≡ codes "--core" ∷ tail → ⊥)
    → ((c : Chain) → IsNet rest c → ⊥) → (kind : FileKind) → IsFileOptions IsNet words kind → ⊥
no_file_kind words rest r h none never kind is = not_file IsNet one_net apart_net words rest r h none never kind is

-- options begin with an argument
some_options : (texts : List (List ℕ)) (r : SumRule) (rest : List (List ℕ)) (chain : Chain) → texts ≡ [] → HasRule r rest texts → IsAfterPeers rest chain → ⊥
some_options texts Bytes rest chain none is (left, peers, net) = omega (arith, ap length (sym none ∙ is ∙ peers))
some_options texts Bits rest chain none is after = omega (arith, ap length (sym none ∙ is))

pub one_peers : (texts : List (List ℕ)) (a b : Option FileKind) → IsPeersOption texts a → IsPeersOption texts b → a ≡ b
one_peers texts None None h k = refl
one_peers texts None (Some b) h (rest, is, after) = absurd (some_options texts b.rule rest b.chain h is after)
one_peers texts (Some a) None (rest, is, after) k = absurd (some_options texts a.rule rest a.chain k is after)
one_peers texts (Some a) (Some b) h k = ap Some (one_file IsAfterPeers (one_after_word (codes "--peers")) apart_peers texts a b h k)

pub no_peers : (words rest : List (List ℕ)) (r : SumRule) → (words ≡ [] → ⊥) → HasRule r rest words → (r ≡ Bytes → (tail : List (List ℕ)) → words ≡ codes "--core" ∷ tail → ⊥)
    → ((c : Chain) → IsAfterPeers rest c → ⊥) → (peers : Option FileKind) → IsPeersOption words peers → ⊥
no_peers words rest r some h none never None is = some is
no_peers words rest r some h none never (Some kind) is = not_file IsAfterPeers (one_after_word (codes "--peers")) apart_peers words rest r h none never kind is
