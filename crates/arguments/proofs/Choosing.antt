-- What the arguments that open tables begin with, and what they choose then.
use Rattle.std.proofs.Common.{◌≡◌, ℕ, ◌≤◌, cond, Bool, true, false, List, [], ◌∷◌, ◌++◌, drop, get_or, length, codes, Option, Some, None, inl, inr, ap, sym, subst, arith, ◌∙◌, append_assoc, refl}
use Rattle.std.specs.Prelude.{IfSome, ◌==◌, unwrap_or, Result, Ok}
use Rattle.std.specs.Int.{w32, from_be_bytes, to_be_bytes}
use Rattle.std.specs.Result.{result_ok}
use Rattle.std.proofs.lemmas.List.{append_cancel_left, append_cancel_right, length-append, same_from_push}
use Rattle.std.proofs.lemmas.Nat.{from_be_bytes-to_be_bytes_4}
use Rattle.std.proofs.lemmas.Option.{none-some}
use Rattle.hex.proofs.OnLiterals.{hex_on_literals}
use Rattle.hex.specs.Hex.{decode_of}
use Rattle.hex.specs.declared.error.FromHexError.{FromHexError}
use Rattle.peers_file.specs.declared.chain.Chain.{Chain}
use Rattle.peers_file.specs.declared.chain.Chain.TheVariants.{Main, Test, Testnet4, Signet, Regtest, Other}
use Rattle.arguments.specs.Inside.{Begins}
use Rattle.arguments.specs.Options.{HasNoKey, IsAfterWord, IsChainValue, IsKey, IsKeyOption, IsListingOptions, IsMagic, IsName, IsNet, IsOpeningOptions, IsOption, IsRaw, chain_option}
use Rattle.arguments.specs.declared.chain_option.ChainOption.{ChainOption}
use Rattle.arguments.specs.declared.chain_option.ChainOption.TheVariants.{Net, Magic}

-- words choose a key and a chain: by no option, by a key first, or by a chain first
pub data Chooses (words : List (List ℕ)) (key : Option (List ℕ)) (chain : Chain) : Type 0 where
  neither : words ≡ [] → key ≡ None → chain ≡ Main → Chooses words key chain
  key_first : (digits : List ℕ) (rest : List (List ℕ)) (k : List ℕ) → key ≡ Some k → IsKey digits k → Begins (codes "--key") digits rest words → IsNet rest chain → Chooses words key chain
  net_first : (by : ChainOption) (value : List ℕ) (rest : List (List ℕ)) → IsChainValue by value chain → Begins (chain_option by) value rest words → IsKeyOption rest key
      → Chooses words key chain

begins : (name value : List ℕ) (own rest words : List (List ℕ)) → words ≡ own ++ rest → IsOption name value own → Begins name value rest words
begins name value own rest words is (inl two) = inl (is ∙ ap (λ ws. ws ++ rest) two)
begins name value own rest words is (inr one) = inr (is ∙ ap (λ ws. ws ++ rest) one)

-- a key first, or none
chosen_from_key : (first second words : List (List ℕ)) (key : Option (List ℕ)) (chain : Chain) → words ≡ first ++ second → IsKeyOption first key → IsNet second chain → Chooses words key chain
chosen_from_key first second words None chain is none (inl net) = neither (is ∙ ap (λ ws. ws ++ second) none ∙ net.0) refl net.1
chosen_from_key first second words None chain is none (inr (by, value, means, option)) =
    net_first by value [] means (subst (λ ws. Begins (chain_option by) value [] ws) (sym (is ∙ ap (λ ws. ws ++ second) none)) option) refl
chosen_from_key first second words (Some key) chain is (digits, read, option) net = key_first digits second key refl read (begins (codes "--key") digits first second words is option) net

-- a chain first, or none
chosen_from_net : (first second words : List (List ℕ)) (key : Option (List ℕ)) (chain : Chain) → words ≡ first ++ second → IsNet first chain → IsKeyOption second key → Chooses words key chain
chosen_from_net first second words key chain is (inr (by, value, means, option)) keys =
    net_first by value second means (begins (chain_option by) value first second words is option) keys
chosen_from_net first second words None chain is (inl net) none = neither (is ∙ ap (λ ws. ws ++ second) net.0 ∙ none) refl net.1
chosen_from_net first second words (Some key) chain is (inl net) (digits, read, option) =
    key_first digits [] key refl read (subst (λ ws. Begins (codes "--key") digits [] ws) (sym (is ∙ ap (λ ws. ws ++ second) net.0)) option) (inl (refl, net.1))

pub chosen : (words : List (List ℕ)) (key : Option (List ℕ)) (chain : Chain) → IsOpeningOptions key words chain → Chooses words key chain
chosen words key chain (first, second, is, inl (keys, net)) = chosen_from_key first second words key chain is keys net
chosen words key chain (first, second, is, inr (net, keys)) = chosen_from_net first second words key chain is net keys

option_of : (name value : List ℕ) (rest words : List (List ℕ)) → Begins name value rest words → (own : List (List ℕ)) × IsOption name value own × (words ≡ own ++ rest)
option_of name value rest words (inl two) = (name ∷ value ∷ [], inl refl, two)
option_of name value rest words (inr one) = ((name ++ codes "=" ++ value) ∷ [], inr refl, one)

-- words that begin with a key, and then choose a chain
chosen_by_key : (words rest : List (List ℕ)) (digits key : List ℕ) (chain : Chain) → Begins (codes "--key") digits rest words → IsKey digits key → IsNet rest chain
    → IsOpeningOptions (Some key) words chain
chosen_by_key words rest digits key chain b read net =
    let own = option_of (codes "--key") digits rest words b in
    (own.0, rest, own.2, inl ((digits, read, own.1), net))

-- words that begin with a chain, and then choose a key
chosen_by_net : (words rest : List (List ℕ)) (by : ChainOption) (value : List ℕ) (key : Option (List ℕ)) (chain : Chain) → Begins (chain_option by) value rest words
    → IsChainValue by value chain → IsKeyOption rest key → IsOpeningOptions key words chain
chosen_by_net words rest by value key chain b means keys =
    let own = option_of (chain_option by) value rest words b in
    (own.0, rest, own.2, inr (inr (by, value, means, own.1), keys))

-- ONE READING

-- an option's name and `=` are longer than its name
longer : (name value : List ℕ) → name ≡ name ++ 61 ∷ value → ⊥
longer name value e = omega (arith, ap length e, length-append name (61 ∷ value))

-- words begin with an option of a name in one way
pub same_start : (name value other : List ℕ) (rest left words : List (List ℕ)) → Begins name value rest words → Begins name other left words → (value ≡ other) × (rest ≡ left)
same_start name value other rest left words (inl a) (inl b) = (ap (λ ws. get_or ws 1 []) (sym a ∙ b), ap (drop 2) (sym a ∙ b))
same_start name value other rest left words (inl a) (inr b) = absurd (longer name other (ap (λ ws. get_or ws 0 []) (sym a ∙ b) ∙ append_assoc name (61 ∷ []) other))
same_start name value other rest left words (inr a) (inl b) = absurd (longer name value (ap (λ ws. get_or ws 0 []) (sym b ∙ a) ∙ append_assoc name (61 ∷ []) value))
same_start name value other rest left words (inr a) (inr b) =
    (ap (drop 1) (append_cancel_left name (61 ∷ value) (61 ∷ other) (sym (append_assoc name (61 ∷ []) value) ∙ ap (λ ws. get_or ws 0 []) (sym a ∙ b) ∙ append_assoc name (61 ∷ []) other)), ap (drop 1) (sym a ∙ b))

-- the third byte of the first word tells the options apart
third_of_key : (digits : List ℕ) (rest words : List (List ℕ)) → Begins (codes "--key") digits rest words → get_or (get_or words 0 []) 2 0 ≡ 107
third_of_key digits rest words (inl is) = ap (λ ws. get_or (get_or ws 0 []) 2 0) is
third_of_key digits rest words (inr is) = ap (λ ws. get_or (get_or ws 0 []) 2 0) is

unfoldable pub third : ChainOption → ℕ
third Net = 110
third Magic = 109

pub third_is : (by : ChainOption) (value : List ℕ) (rest words : List (List ℕ)) → Begins (chain_option by) value rest words → get_or (get_or words 0 []) 2 0 ≡ third by
unfolding third
third_is Net value rest words (inl is) = ap (λ ws. get_or (get_or ws 0 []) 2 0) is
third_is Net value rest words (inr is) = ap (λ ws. get_or (get_or ws 0 []) 2 0) is
third_is Magic value rest words (inl is) = ap (λ ws. get_or (get_or ws 0 []) 2 0) is
third_is Magic value rest words (inr is) = ap (λ ws. get_or (get_or ws 0 []) 2 0) is

pub third_of_net : (by : ChainOption) (value : List ℕ) (rest words : List (List ℕ)) → Begins (chain_option by) value rest words → 109 ≤ get_or (get_or words 0 []) 2 0
unfolding third
third_of_net Net value rest words b = omega (arith, third_is Net value rest words b)
third_of_net Magic value rest words b = omega (arith, third_is Magic value rest words b)

pub third_of_raw : (rest words : List (List ℕ)) → IsRaw rest words → get_or (get_or words 0 []) 2 0 ≡ 114
third_of_raw rest words (inl is) = ap (λ ws. get_or (get_or ws 0 []) 2 0) is
third_of_raw rest words (inr is) = ap (λ ws. get_or (get_or ws 0 []) 2 0) is

-- words begin with one of the options that choose a chain
one_option : (by other : ChainOption) (value next : List ℕ) (rest left words : List (List ℕ)) → Begins (chain_option by) value rest words → Begins (chain_option other) next left words
    → by ≡ other
unfolding third
one_option Net Net value next rest left words a b = refl
one_option Magic Magic value next rest left words a b = refl
one_option Net Magic value next rest left words a b = absurd (omega (arith, third_is Net value rest words a, third_is Magic next left words b))
one_option Magic Net value next rest left words a b = absurd (omega (arith, third_is Magic value rest words a, third_is Net next left words b))

-- in one way
pub same_chain : (by other : ChainOption) (value next : List ℕ) (rest left words : List (List ℕ)) → Begins (chain_option by) value rest words → Begins (chain_option other) next left words
    → (by ≡ other) × (value ≡ next) × (rest ≡ left)
same_chain by other value next rest left words a b =
    let option = one_option by other value next rest left words a b in
    let same = same_start (chain_option other) value next rest left words (subst (λ o. Begins (chain_option o) value rest words) option a) b in
    (option, same.0, same.1)

pub third_of_none : (words : List (List ℕ)) → words ≡ [] → get_or (get_or words 0 []) 2 0 ≡ 0
third_of_none words is = ap (λ ws. get_or (get_or ws 0 []) 2 0) is

-- what was read
abbrev Read : Type 0
Read = Option (Option (List ℕ) × Chain)

key_only : (words rest : List (List ℕ)) (digits : List ℕ) (r : Read) → Begins (codes "--key") digits rest words →
    ((key : List ℕ) (chain : Chain) → IsKey digits key → IsNet rest chain → r ≡ Some (Some key, chain)) →
    (key : Option (List ℕ)) (chain : Chain) → Chooses words key chain → r ≡ Some (key, chain)
key_only words rest digits r b only key chain (neither is k c) = absurd (omega (arith, third_of_none words is, third_of_key digits rest words b))
key_only words rest digits r b only key chain (net_first by value left means a keys) = absurd (omega (arith, third_of_key digits rest words b, third_of_net by value left words a))
key_only words rest digits r b only key chain (key_first other left k e read a net) =
    let same = same_start (codes "--key") other digits left rest words a b in
    only k chain (subst (λ ds. IsKey ds k) same.0 read) (subst (λ ws. IsNet ws chain) same.1 net) ∙ ap (λ (ks : Option (List ℕ)). Some (ks, chain)) (sym e)

-- the reading after a key is that of all words
pub only_by_key : (words rest : List (List ℕ)) (digits : List ℕ) (r : Read) → Begins (codes "--key") digits rest words →
    ((key : List ℕ) (chain : Chain) → IsKey digits key → IsNet rest chain → r ≡ Some (Some key, chain)) →
    (key : Option (List ℕ)) (chain : Chain) → IsOpeningOptions key words chain → r ≡ Some (key, chain)
only_by_key words rest digits r b only key chain opening = key_only words rest digits r b only key chain (chosen words key chain opening)

net_only : (words rest : List (List ℕ)) (by : ChainOption) (value : List ℕ) (r : Read) → Begins (chain_option by) value rest words →
    ((key : Option (List ℕ)) (chain : Chain) → IsChainValue by value chain → IsKeyOption rest key → r ≡ Some (key, chain)) →
    (key : Option (List ℕ)) (chain : Chain) → Chooses words key chain → r ≡ Some (key, chain)
net_only words rest by value r b only key chain (neither is k c) = absurd (omega (arith, third_of_none words is, third_of_net by value rest words b))
net_only words rest by value r b only key chain (key_first digits left k e read a net) = absurd (omega (arith, third_of_key digits left words a, third_of_net by value rest words b))
net_only words rest by value r b only key chain (net_first other next left means a keys) =
    let same = same_chain other by next value left rest words a b in
    only key chain (subst (λ v. IsChainValue by v chain) same.1 (subst (λ o. IsChainValue o next chain) same.0 means)) (subst (λ ws. IsKeyOption ws key) same.2 keys)

-- the reading after a chain is that of all words
pub only_by_net : (words rest : List (List ℕ)) (by : ChainOption) (value : List ℕ) (r : Read) → Begins (chain_option by) value rest words →
    ((key : Option (List ℕ)) (chain : Chain) → IsChainValue by value chain → IsKeyOption rest key → r ≡ Some (key, chain)) →
    (key : Option (List ℕ)) (chain : Chain) → IsOpeningOptions key words chain → r ≡ Some (key, chain)
only_by_net words rest by value r b only key chain opening = net_only words rest by value r b only key chain (chosen words key chain opening)

none_chosen : (words : List (List ℕ)) (key : Option (List ℕ)) (chain : Chain) → (words ≡ [] → ⊥) →
    ((value : List ℕ) (rest : List (List ℕ)) → Begins (codes "--key") value rest words → ⊥) →
    ((by : ChainOption) (value : List ℕ) (rest : List (List ℕ)) → Begins (chain_option by) value rest words → ⊥) → Chooses words key chain → ⊥
none_chosen words key chain some key_off net_off (neither is k c) = some is
none_chosen words key chain some key_off net_off (key_first digits rest k e read b net) = key_off digits rest b
none_chosen words key chain some key_off net_off (net_first by value rest means b keys) = net_off by value rest b

-- words that begin with none of the options are no options
pub no_options : (words : List (List ℕ)) (key : Option (List ℕ)) (chain : Chain) → (words ≡ [] → ⊥) →
    ((value : List ℕ) (rest : List (List ℕ)) → Begins (codes "--key") value rest words → ⊥) →
    ((by : ChainOption) (value : List ℕ) (rest : List (List ℕ)) → Begins (chain_option by) value rest words → ⊥) → IsOpeningOptions key words chain → ⊥
no_options words key chain some key_off net_off opening = none_chosen words key chain some key_off net_off (chosen words key chain opening)

-- no words choose no key, and main
pub none_is : (words : List (List ℕ)) → words ≡ [] → IsOpeningOptions None words Main
none_is words is = ([], [], is, inl (refl, inl (refl, refl)))

pub none_only : (words : List (List ℕ)) → words ≡ [] → (key : Option (List ℕ)) (chain : Chain) → IsOpeningOptions key words chain → ◌≡◌ {A = Read} (Some (None, Main)) (Some (key, chain))
none_only words is key chain opening = by (chosen words key chain opening)
  where
    by : Chooses words key chain → ◌≡◌ {A = Read} (Some (None, Main)) (Some (key, chain))
    by (neither none k c) = ap (λ (ks : Option (List ℕ)). Some (ks, Main)) (sym k) ∙ ap (λ c. Some (key, c)) (sym c)
    by (key_first digits rest k e read b net) = absurd (omega (arith, third_of_none words is, third_of_key digits rest words b))
    by (net_first option value rest means b keys) = absurd (omega (arith, third_of_none words is, third_of_net option value rest words b))

-- what was read after a key is chosen
pub found_by_key : (words rest : List (List ℕ)) (digits : List ℕ) (r : Read) → Begins (codes "--key") digits rest words →
    IfSome r (λ o. (key : List ℕ) × (o.0 ≡ Some key) × IsKey digits key × IsNet rest o.1) →
    IfSome r (λ o. IsOpeningOptions o.0 words o.1)
found_by_key words rest digits None b found = tt
found_by_key words rest digits (Some o) b (key, is, read, net) =
    subst (λ k. IsOpeningOptions k words o.1) (sym is) (chosen_by_key words rest digits key o.1 b read net)

-- what was read after a chain is chosen
pub found_by_net : (words rest : List (List ℕ)) (by : ChainOption) (value : List ℕ) (r : Read) → Begins (chain_option by) value rest words →
    IfSome r (λ o. IsChainValue by value o.1 × IsKeyOption rest o.0) → IfSome r (λ o. IsOpeningOptions o.0 words o.1)
found_by_net words rest by value None b found = tt
found_by_net words rest by value (Some o) b (means, keys) = chosen_by_net words rest by value o.0 o.1 b means keys

-- what was read of words that are one option chooses a chain
pub found_net : (words rest : List (List ℕ)) (by : ChainOption) (value : List ℕ) (r : Option Chain) → Begins (chain_option by) value rest words → rest ≡ [] →
    IfSome r (IsChainValue by value) → IfSome r (IsNet words)
found_net words rest by value None b none found = tt
found_net words rest by value (Some chain) b none found = inr (by, value, found, subst (λ ws. Begins (chain_option by) value ws words) none b)

-- and no other chain
pub only_net : (words rest : List (List ℕ)) (by : ChainOption) (value : List ℕ) (r : Option Chain) → Begins (chain_option by) value rest words →
    ((chain : Chain) → IsChainValue by value chain → r ≡ Some chain) → (chain : Chain) → IsNet words chain → r ≡ Some chain
only_net words rest by value r b only chain (inl none) = absurd (omega (arith, third_of_none words none.0, third_of_net by value rest words b))
only_net words rest by value r b only chain (inr (other, next, means, option)) =
    let same = same_chain other by next value [] rest words option b in
    only chain (subst (λ v. IsChainValue by v chain) same.1 (subst (λ o. IsChainValue o next chain) same.0 means))

-- words that are more than one option choose none
pub more_words : (words rest : List (List ℕ)) (by : ChainOption) (value : List ℕ) → Begins (chain_option by) value rest words → (rest ≡ [] → ⊥) → (chain : Chain) → IsNet words chain → ⊥
more_words words rest by value b some chain (inl none) = omega (arith, third_of_none words none.0, third_of_net by value rest words b)
more_words words rest by value b some chain (inr (other, next, means, option)) = some (sym (same_chain other by next value [] rest words option b).2)

-- nor do words that begin with no option
pub no_option : (words : List (List ℕ)) → (words ≡ [] → ⊥) → ((by : ChainOption) (value : List ℕ) (rest : List (List ℕ)) → Begins (chain_option by) value rest words → ⊥)
    → (chain : Chain) → IsNet words chain → ⊥
no_option words some off chain (inl none) = some none.0
no_option words some off chain (inr (by, value, means, option)) = off by value [] option

-- ONE CHOICE

one_key : (digits k l : List ℕ) → IsKey digits k → IsKey digits l → k ≡ l
one_key digits k l h j = ap (λ o. unwrap_or o k) (ap result_ok (sym h.0 ∙ j.0))

-- the chain whose name begins with a letter, and is long or short
chain_by : List ℕ → Chain
chain_by name = cond (get_or name 0 0 == 109) Main (cond (get_or name 0 0 == 116) (cond (length name == 4) Test Testnet4) (cond (get_or name 0 0 == 115) Signet Regtest))

chain_back : (name : List ℕ) (c : Chain) → IsName name c → chain_by name ≡ c
unfolding chain_by
chain_back name Main is = ap chain_by is
chain_back name Test is = ap chain_by is
chain_back name Testnet4 is = ap chain_by is
chain_back name Signet is = ap chain_by is
chain_back name Regtest is = ap chain_by is
chain_back name (Other magic) is = absurd is

number_of : Result (List ℕ) FromHexError → Chain
number_of r = Other (from_be_bytes w32 (unwrap_or (result_ok r) []))

magic_back : (digits : List ℕ) (c : Chain) → IsMagic digits c → number_of (decode_of digits) ≡ c
unfolding number_of
magic_back digits (Other magic) is = ap number_of is.0 ∙ ap Other (from_be_bytes-to_be_bytes_4 magic is.1)
magic_back digits other is = absurd is

one_chain : (by : ChainOption) (value : List ℕ) (a b : Chain) → IsChainValue by value a → IsChainValue by value b → a ≡ b
one_chain Net value a b h k = sym (chain_back value a h) ∙ chain_back value b k
one_chain Magic value a b h k = sym (magic_back value a h) ∙ magic_back value b k

-- options that begin words choose one chain
pub same_choice : (by other : ChainOption) (value next : List ℕ) (rest left words : List (List ℕ)) (a b : Chain) → Begins (chain_option by) value rest words → Begins (chain_option other) next left words
    → IsChainValue by value a → IsChainValue other next b → a ≡ b
same_choice by other value next rest left words a b begin start h k =
    let same = same_chain by other value next rest left words begin start in
    one_chain other next a b (subst (λ v. IsChainValue other v a) same.1 (subst (λ o. IsChainValue o value a) same.0 h)) k

-- texts choose one chain
pub one_net : (texts : List (List ℕ)) (a b : Chain) → IsNet texts a → IsNet texts b → a ≡ b
one_net texts a b (inl h) (inl k) = h.1 ∙ sym k.1
one_net texts a b (inl h) (inr (by, value, means, option)) = absurd (omega (arith, third_of_none texts h.0, third_of_net by value [] texts option))
one_net texts a b (inr (by, value, means, option)) (inl k) = absurd (omega (arith, third_of_none texts k.0, third_of_net by value [] texts option))
one_net texts a b (inr (by, value, means, option)) (inr (other, next, is, start)) = same_choice by other value next [] [] texts a b option start means is

pub one_after_word : (word : List ℕ) (texts : List (List ℕ)) (a b : Chain) → IsAfterWord word texts a → IsAfterWord word texts b → a ≡ b
one_after_word word texts a b h k = one_net k.0 a b (subst (λ ts. IsNet ts a) (ap (drop 1) (sym h.1 ∙ k.1)) h.2) k.2

pub only_after_word : (texts : List (List ℕ)) (word first : List ℕ) (rest : List (List ℕ)) (r : Option Chain) → texts ≡ first ∷ rest → ((chain : Chain) → IsNet rest chain → r ≡ Some chain)
    → (chain : Chain) → IsAfterWord word texts chain → r ≡ Some chain
only_after_word texts word first rest r is only chain asks = only chain (subst (λ ts. IsNet ts chain) (ap (drop 1) (sym asks.1 ∙ is)) asks.2)

-- or one key
one_key_option : (texts : List (List ℕ)) (k l : Option (List ℕ)) → IsKeyOption texts k → IsKeyOption texts l → k ≡ l
one_key_option texts None None h j = refl
one_key_option texts None (Some l) h j = absurd (omega (arith, third_of_none texts h, third_of_key j.0 [] texts j.2))
one_key_option texts (Some k) None h j = absurd (omega (arith, third_of_none texts j, third_of_key h.0 [] texts h.2))
one_key_option texts (Some k) (Some l) h j =
    let same = (same_start (codes "--key") h.0 j.0 [] [] texts h.2 j.2).0 in
    ap Some (one_key j.0 k l (subst (λ ds. IsKey ds k) same h.1) j.1)

one_choice : (texts : List (List ℕ)) (k l : Option (List ℕ)) (a b : Chain) → Chooses texts k a → Chooses texts l b → (k ≡ l) × (a ≡ b)
one_choice texts k l a b (neither h i j) (neither m n o) = (i ∙ sym n, j ∙ sym o)
one_choice texts k l a b (neither h i j) (key_first ds rest key e read begin net) = absurd (omega (arith, third_of_none texts h, third_of_key ds rest texts begin))
one_choice texts k l a b (neither h i j) (net_first by value rest means begin keys) = absurd (omega (arith, third_of_none texts h, third_of_net by value rest texts begin))
one_choice texts k l a b (key_first ds rest key e read begin net) (neither h i j) = absurd (omega (arith, third_of_none texts h, third_of_key ds rest texts begin))
one_choice texts k l a b (net_first by value rest means begin keys) (neither h i j) = absurd (omega (arith, third_of_none texts h, third_of_net by value rest texts begin))
one_choice texts k l a b (key_first ds rest key e read begin net) (net_first by value left means start keys) = absurd (omega (arith, third_of_key ds rest texts begin, third_of_net by value left texts start))
one_choice texts k l a b (net_first by value left means start keys) (key_first ds rest key e read begin net) = absurd (omega (arith, third_of_key ds rest texts begin, third_of_net by value left texts start))
one_choice texts k l a b (key_first ds rest key e read begin net) (key_first es left other f reads start nets) =
    let same = same_start (codes "--key") ds es rest left texts begin start in
    let keys = one_key es key other (subst (λ digits. IsKey digits key) same.0 read) reads in
    (e ∙ ap Some keys ∙ sym f, one_net left a b (subst (λ ts. IsNet ts a) same.1 net) nets)
one_choice texts k l a b (net_first by value rest means begin keys) (net_first other next left is start others) =
    let same = same_chain by other value next rest left texts begin start in
    (one_key_option left k l (subst (λ ts. IsKeyOption ts k) same.2 keys) others, same_choice by other value next rest left texts a b begin start means is)

-- texts choose one key, or none, and one chain
pub one_opening : (texts : List (List ℕ)) (k l : Option (List ℕ)) (a b : Chain) → IsOpeningOptions k texts a → IsOpeningOptions l texts b → (k ≡ l) × (a ≡ b)
one_opening texts k l a b h j = one_choice texts k l a b (chosen texts k a h) (chosen texts l b j)

-- THE KEY IN A LISTING

-- an option that chooses a chain is not `--no-key`
no_key_first : (texts rest : List (List ℕ)) (chain : Chain) → texts ≡ codes "--no-key" ∷ rest → IsNet texts chain → ⊥
no_key_first texts rest chain is (inl none) = omega (arith, ap length (sym is ∙ none.0))
no_key_first texts rest chain is (inr (Net, value, means, inl option)) = omega (arith, ap (λ ts. get_or (get_or ts 0 []) 3 0) (sym is ∙ option))
no_key_first texts rest chain is (inr (Net, value, means, inr option)) = omega (arith, ap (λ ts. get_or (get_or ts 0 []) 3 0) (sym is ∙ option))
no_key_first texts rest chain is (inr (Magic, value, means, inl option)) = omega (arith, ap (λ ts. get_or (get_or ts 0 []) 2 0) (sym is ∙ option))
no_key_first texts rest chain is (inr (Magic, value, means, inr option)) = omega (arith, ap (λ ts. get_or (get_or ts 0 []) 2 0) (sym is ∙ option))

no_digits : (magic : ℕ) → decode_of (codes "--no-key") ≡ Ok (to_be_bytes w32 magic) → ⊥
unfolding hex_on_literals
no_digits magic is = cc

-- nor is the name of a chain, or a magic
no_chain_value : (by : ChainOption) (chain : Chain) → IsChainValue by (codes "--no-key") chain → ⊥
no_chain_value Net Main is = omega (arith, ap (λ t. get_or t 0 0) is)
no_chain_value Net Test is = omega (arith, ap (λ t. get_or t 0 0) is)
no_chain_value Net Testnet4 is = omega (arith, ap (λ t. get_or t 0 0) is)
no_chain_value Net Signet is = omega (arith, ap (λ t. get_or t 0 0) is)
no_chain_value Net Regtest is = omega (arith, ap (λ t. get_or t 0 0) is)
no_chain_value Net (Other magic) is = is
no_chain_value Magic (Other magic) is = no_digits magic is.0
no_chain_value Magic other is = is

no_key_last : (rest texts : List (List ℕ)) (chain : Chain) → texts ≡ rest ++ codes "--no-key" ∷ [] → IsNet texts chain → ⊥
no_key_last [] texts chain is net = no_key_first texts [] chain is net
no_key_last (first ∷ []) texts chain is (inl none) = omega (arith, ap length (sym is ∙ none.0))
no_key_last (first ∷ []) texts chain is (inr (by, value, means, inl option)) =
    no_chain_value by chain (subst (λ v. IsChainValue by v chain) (ap (λ ts. get_or ts 1 []) (sym option ∙ is)) means)
no_key_last (first ∷ []) texts chain is (inr (by, value, means, inr option)) = omega (arith, ap length (sym is ∙ option))
no_key_last (first ∷ second ∷ rest) texts chain is (inl none) = omega (arith, ap length (sym is ∙ none.0))
no_key_last (first ∷ second ∷ rest) texts chain is (inr (by, value, means, inl option)) =
    omega (arith, ap length (sym is ∙ option), length-append rest (codes "--no-key" ∷ []))
no_key_last (first ∷ second ∷ rest) texts chain is (inr (by, value, means, inr option)) = omega (arith, ap length (sym is ∙ option))

pub no_key_apart : (rest texts : List (List ℕ)) (chain : Chain) → HasNoKey rest texts → IsNet texts chain → ⊥
no_key_apart rest texts chain (inl is) net = no_key_first texts rest chain is net
no_key_apart rest texts chain (inr is) net = no_key_last rest texts chain is net

-- `--no-key` at both ends is one argument, or the others choose no chain
first_or_last : (rest left texts : List (List ℕ)) (chain : Chain) → texts ≡ codes "--no-key" ∷ rest → texts ≡ left ++ codes "--no-key" ∷ [] → IsNet rest chain → rest ≡ left
first_or_last rest [] texts chain first last net = ap (drop 1) (sym first ∙ last)
first_or_last rest (word ∷ left) texts chain first last net = absurd (no_key_last left rest chain (ap (drop 1) (sym first ∙ last)) net)

last_or_first : (rest left texts : List (List ℕ)) (chain : Chain) → texts ≡ rest ++ codes "--no-key" ∷ [] → texts ≡ codes "--no-key" ∷ left → IsNet rest chain → rest ≡ left
last_or_first [] left texts chain last first net = ap (drop 1) (sym last ∙ first)
last_or_first (word ∷ rest) left texts chain last first net =
    absurd (no_key_first (word ∷ rest) rest chain (λ i. get_or ((sym last ∙ first) i) 0 [] ∷ rest) net)

-- the others are those that choose the chain
pub same_rest : (rest left texts : List (List ℕ)) (chain : Chain) → HasNoKey rest texts → HasNoKey left texts → IsNet rest chain → rest ≡ left
same_rest rest left texts chain (inl a) (inl b) net = ap (drop 1) (sym a ∙ b)
same_rest rest left texts chain (inl a) (inr b) net = first_or_last rest left texts chain a b net
same_rest rest left texts chain (inr a) (inl b) net = last_or_first rest left texts chain a b net
same_rest rest left texts chain (inr a) (inr b) net = append_cancel_right rest left (codes "--no-key" ∷ []) (sym a ∙ b)

-- texts choose one chain, and whether the key is listed
pub one_listing : (texts : List (List ℕ)) (k l : Bool) (a b : Chain) → IsListingOptions k texts a → IsListingOptions l texts b → (k ≡ l) × (a ≡ b)
one_listing texts true true a b h j = (refl, one_net texts a b h j)
one_listing texts true false a b h (rest, has, net) = absurd (no_key_apart rest texts a has h)
one_listing texts false true a b (rest, has, net) j = absurd (no_key_apart rest texts b has j)
one_listing texts false false a b (rest, has, net) (left, is, other) =
    (refl, one_net left a b (subst (λ ts. IsNet ts a) (same_rest rest left texts a has is net) net) other)

-- what was read of the arguments beside `--no-key`, or of all
pub found_without : (texts rest : List (List ℕ)) (r : Option (Bool × Chain)) → HasNoKey rest texts → IfSome r (λ o. (o.0 ≡ false) × IsNet rest o.1) → IfSome r (λ o. IsListingOptions o.0 texts o.1)
found_without texts rest None has found = tt
found_without texts rest (Some o) has (is, net) = subst (λ k. IsListingOptions k texts o.1) (sym is) (rest, has, net)

pub only_without : (texts rest : List (List ℕ)) (r : Option (Bool × Chain)) → HasNoKey rest texts → ((chain : Chain) → IsNet rest chain → r ≡ Some (false, chain))
    → (keyed : Bool) (chain : Chain) → IsListingOptions keyed texts chain → r ≡ Some (keyed, chain)
only_without texts rest r has only true chain net = absurd (no_key_apart rest texts chain has net)
only_without texts rest r has only false chain (left, is, net) = only chain (subst (λ ts. IsNet ts chain) (same_rest left rest texts chain is has net) net)

pub only_with : (texts : List (List ℕ)) (r : Option (Bool × Chain)) → ((rest : List (List ℕ)) → HasNoKey rest texts → ⊥) → ((chain : Chain) → IsNet texts chain → r ≡ Some (true, chain))
    → (keyed : Bool) (chain : Chain) → IsListingOptions keyed texts chain → r ≡ Some (keyed, chain)
only_with texts r none only true chain net = only chain net
only_with texts r none only false chain (rest, has, net) = absurd (none rest has)

-- a last argument that is not `--no-key`, or none
pub not_last : (texts rest other : List (List ℕ)) (last : List ℕ) → texts ≡ rest ++ last ∷ [] → (last ≡ codes "--no-key" → ⊥) → texts ≡ other ++ codes "--no-key" ∷ [] → ⊥
not_last texts rest other last is off same = off (same_from_push rest other last (codes "--no-key") (sym is ∙ same)).1

pub none_last : (texts other : List (List ℕ)) → texts ≡ [] → texts ≡ other ++ codes "--no-key" ∷ [] → ⊥
none_last texts other is same = omega (arith, ap length (sym is ∙ same), length-append other (codes "--no-key" ∷ []))

-- words that begin with neither option begin with none that chooses a chain
pub no_chain : (words : List (List ℕ)) → ((value : List ℕ) (rest : List (List ℕ)) → Begins (codes "--net") value rest words → ⊥) →
    ((value : List ℕ) (rest : List (List ℕ)) → Begins (codes "--magic") value rest words → ⊥) →
    (by : ChainOption) (value : List ℕ) (rest : List (List ℕ)) → Begins (chain_option by) value rest words → ⊥
no_chain words net_off magic_off Net value rest b = net_off value rest b
no_chain words net_off magic_off Magic value rest b = magic_off value rest b

pub no_key_none : (texts : List (List ℕ)) → ((rest : List (List ℕ)) → texts ≡ codes "--no-key" ∷ rest → ⊥) → ((rest : List (List ℕ)) → texts ≡ rest ++ codes "--no-key" ∷ [] → ⊥) →
    (rest : List (List ℕ)) → HasNoKey rest texts → ⊥
no_key_none texts first last rest (inl is) = first rest is
no_key_none texts first last rest (inr is) = last rest is

-- digits that write no four bytes are no magic
pub none_magic : (digits : List ℕ) (r : Option (List ℕ)) → r ≡ None → ((bytes : List ℕ) → decode_of digits ≡ Ok bytes → length bytes ≡ 4 → r ≡ Some bytes) →
    (chain : Chain) → IsMagic digits chain → ⊥
none_magic digits r none only (Other magic) is = none-some (to_be_bytes w32 magic) (sym none ∙ only (to_be_bytes w32 magic) is.0 refl)
none_magic digits r none only other is = is
