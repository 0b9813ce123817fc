-- Words have one meaning by a table: one keyword with its values, or one fault.
use Rattle.std.proofs.Common.{◌≡◌, ◌<◌, ℕ, Bool, true, false, cond, List, [], ◌∷◌, length, get_or, drop, Option, Some, None, map, find, refl, sym, ap, subst, ◌∙◌, inl, inr, arith}
use Rattle.std.specs.Prelude.{bytes_eq, ltb, not, ◌^◌}
use Rattle.std.proofs.lemmas.Bool.{and_parts, ltb-true}
use Rattle.std.proofs.lemmas.Slice.Eq.{bytes_eq-Decides}
use Rattle.std.specs.Option.{option_map, option_map_or}
use Rattle.grammar.specs.declared.fault.LineFault.{LineFault}
use Rattle.grammar.specs.Fields.{Kind, Number, OfAddr, OfPeer, Hex, Random, Either, Nets, Classes, Value, IsDefinite, AllMean, IsFirstFault}
use Rattle.grammar.specs.Reading.{Says}
use Rattle.grammar.specs.Table.{Table, kinds_after, ValuesAfter, FaultAfter, begin_with_letters, is_definite, all_definite, are_definite}
use Rattle.grammar.proofs.Values.{one_value}

-- ---- fields

differ : (a b : List ℕ) (c : Bool) → bytes_eq a b ≡ c → not c ≡ true → a ≡ b → ⊥
differ a b true is h e = cc
differ a b false is h e = let same = (bytes_eq-Decides a b).1 e in cc

definite_kind : (kind : Kind) → is_definite kind ≡ true → IsDefinite kind
definite_kind (Number least most) h = ltb-true most (2 ^ 64) h
definite_kind (Either first second) h = differ first second (bytes_eq first second) refl h
definite_kind OfAddr h = tt
definite_kind OfPeer h = tt
definite_kind Hex h = tt
definite_kind Random h = tt
definite_kind Nets h = tt
definite_kind Classes h = tt

pub one_list : (kinds : List Kind) (texts : List (List ℕ)) (xs ys : List Value) →
    all_definite kinds ≡ true → AllMean kinds texts xs → AllMean kinds texts ys → xs ≡ ys
one_list [] [] [] [] definite h k = refl
one_list (kind ∷ kinds) (text ∷ texts) (x ∷ xs) (y ∷ ys) definite h k =
    let parts = and_parts (is_definite kind) (all_definite kinds) definite in
    let heads = one_value kind text x y (definite_kind kind parts.0) h.0 k.0 in
    let tails = one_list kinds texts xs ys parts.1 h.1 k.1 in
    λ i. heads i ∷ tails i
one_list [] [] (x ∷ xs) ys definite h k = absurd h
one_list [] [] [] (y ∷ ys) definite h k = absurd k
one_list [] (text ∷ texts) xs ys definite h k = absurd h
one_list (kind ∷ kinds) [] xs ys definite h k = absurd h
one_list (kind ∷ kinds) (text ∷ texts) [] ys definite h k = absurd h
one_list (kind ∷ kinds) (text ∷ texts) (x ∷ xs) [] definite h k = absurd k

same_length : (kinds : List Kind) (texts : List (List ℕ)) (vs : List Value) → AllMean kinds texts vs → length texts ≡ length kinds
same_length [] [] [] h = refl
same_length [] [] (w ∷ vs) h = absurd h
same_length [] (text ∷ texts) vs h = absurd h
same_length (kind ∷ kinds) [] vs h = absurd h
same_length (kind ∷ kinds) (text ∷ texts) [] h = absurd h
same_length (kind ∷ kinds) (text ∷ texts) (w ∷ vs) h = omega (arith, same_length kinds texts vs h.1)

no_first : (kinds : List Kind) (texts : List (List ℕ)) (vs : List Value) (f : LineFault) →
    AllMean kinds texts vs → IsFirstFault kinds texts f → ⊥
no_first [] texts vs f h e = e
no_first (kind ∷ kinds) [] vs f h e = e
no_first (kind ∷ kinds) (text ∷ texts) [] f h e = h
no_first (kind ∷ kinds) (text ∷ texts) (w ∷ vs) f h (inl here) = here.0 (w, h.0)
no_first (kind ∷ kinds) (text ∷ texts) (w ∷ vs) f h (inr later) = no_first kinds texts vs f h.1 later.1

same_first : (kinds : List Kind) (texts : List (List ℕ)) (f g : LineFault) →
    IsFirstFault kinds texts f → IsFirstFault kinds texts g → f ≡ g
same_first [] texts f g h k = absurd h
same_first (kind ∷ kinds) [] f g h k = absurd h
same_first (kind ∷ kinds) (text ∷ texts) f g (inl h) (inl k) = h.1 ∙ sym k.1
same_first (kind ∷ kinds) (text ∷ texts) f g (inl h) (inr k) = absurd (h.0 k.0)
same_first (kind ∷ kinds) (text ∷ texts) f g (inr h) (inl k) = absurd (k.0 h.0)
same_first (kind ∷ kinds) (text ∷ texts) f g (inr h) (inr k) = same_first kinds texts f g h.1 k.1

-- ---- after a first word

-- whichever way the search for the word goes
by_row : (b : Bool) (kinds : List Kind) (others : Option (List Kind)) (texts : List (List ℕ)) (xs ys : List Value) → all_definite kinds ≡ true →
    (ValuesAfter others texts xs → ValuesAfter others texts ys → xs ≡ ys) →
    ValuesAfter (cond b (Some kinds) others) texts xs → ValuesAfter (cond b (Some kinds) others) texts ys → xs ≡ ys
by_row true kinds others texts xs ys definite more h k = one_list kinds texts xs ys definite h k
by_row false kinds others texts xs ys definite more h k = more h k

pub one_values_after : (table : Table) (word : List ℕ) (texts : List (List ℕ)) (xs ys : List Value) → are_definite table ≡ true →
    ValuesAfter (kinds_after table word) texts xs → ValuesAfter (kinds_after table word) texts ys → xs ≡ ys
one_values_after [] word texts xs ys definite h k = absurd h
one_values_after (row ∷ rows) word texts xs ys definite h k =
    let parts = and_parts (all_definite row.1) (are_definite rows) definite in
    by_row (bytes_eq row.0 word) row.1 (kinds_after rows word) texts xs ys parts.0 (one_values_after rows word texts xs ys parts.1) h k

pub one_fault_after : (after : Option (List Kind)) (texts : List (List ℕ)) (f g : LineFault) →
    FaultAfter after texts f → FaultAfter after texts g → f ≡ g
one_fault_after None texts f g h k = h ∙ sym k
one_fault_after (Some kinds) texts f g (inl h) (inl k) = h.1 ∙ sym k.1
one_fault_after (Some kinds) texts f g (inl h) (inr k) = absurd (h.0 k.0)
one_fault_after (Some kinds) texts f g (inr h) (inl k) = absurd (k.0 h.0)
one_fault_after (Some kinds) texts f g (inr h) (inr k) = same_first kinds texts f g h.1 k.1

pub no_fault_after : (after : Option (List Kind)) (texts : List (List ℕ)) (vs : List Value) (f : LineFault) →
    ValuesAfter after texts vs → FaultAfter after texts f → ⊥
no_fault_after None texts vs f h k = h
no_fault_after (Some kinds) texts vs f h (inl count) = count.0 (same_length kinds texts vs h)
no_fault_after (Some kinds) texts vs f h (inr first) = no_first kinds texts vs f h first.1

-- ---- words

-- two readings of the same words are of the same first word and the same texts after it
pub of_same : {A B : Type 0} {C : A → B → Type 0} (P : List ℕ → List (List ℕ) → A → Type 0) (Q : List ℕ → List (List ℕ) → B → Type 0) →
    ((word : List ℕ) (texts : List (List ℕ)) (a : A) (b : B) → P word texts a → Q word texts b → C a b) → (words : List (List ℕ)) (a : A) (b : B) → Says P words a → Says Q words b → C a b
of_same P Q law words a b h k =
    let heads = ap (λ ts. get_or ts 0 []) (sym k.2 ∙ h.2) in
    let tails = ap (λ ts. drop 1 ts) (sym k.2 ∙ h.2) in
    law h.0 h.1 a b h.3 (subst (λ w. Q w h.1 b) heads (subst (λ ts. Q k.0 ts b) tails k.3))

-- ---- a table by verbs

-- what a search for a word's verb finds says which kinds are after it
pub kinds_of_found : {W : Type 0} (word_of : W → List ℕ) (kinds_of : W → List Kind) (verbs : List W) (word : List ℕ) →
    kinds_after (map (λ v. (word_of v, kinds_of v)) verbs) word ≡ option_map kinds_of (find (λ v. bytes_eq (word_of v) word) verbs)
kinds_of_found word_of kinds_of [] word = refl
kinds_of_found {W} word_of kinds_of (v ∷ vs) word = by (bytes_eq (word_of v) word) (kinds_of_found word_of kinds_of vs word)
  where
    by : (b : Bool) → kinds_after (map (λ w. (word_of w, kinds_of w)) vs) word ≡ option_map kinds_of (find (λ w. bytes_eq (word_of w) word) vs) →
        cond b (Some (kinds_of v)) (kinds_after (map (λ w. (word_of w, kinds_of w)) vs) word) ≡ option_map kinds_of (cond b (Some v) (find (λ w. bytes_eq (word_of w) word) vs))
    by true more = refl
    by false more = more

-- the keyword that the search finds is the word
pub found_word : {W : Type 0} (word_of : W → List ℕ) (verbs : List W) (word : List ℕ) (verb : W) → find (λ v. bytes_eq (word_of v) word) verbs ≡ Some verb → word ≡ word_of verb
found_word word_of [] word verb found = absurd (cc)
found_word {W} word_of (v ∷ vs) word verb found = by (bytes_eq (word_of v) word) refl (found_word word_of vs word verb) found
  where
    by : (b : Bool) → bytes_eq (word_of v) word ≡ b → (find (λ w. bytes_eq (word_of w) word) vs ≡ Some verb → word ≡ word_of verb) →
        cond b (Some v) (find (λ w. bytes_eq (word_of w) word) vs) ≡ Some verb → word ≡ word_of verb
    by true same more e = sym ((bytes_eq-Decides (word_of v) word).0 same) ∙ ap (λ o. option_map_or word_of o word) e
    by false same more e = more e

-- ---- tests that compute

-- a word with kinds after it begins with a letter
pub letter_first : (table : Table) (word : List ℕ) (kinds : List Kind) → begin_with_letters table ≡ true → kinds_after table word ≡ Some kinds → 96 < get_or word 0 0
letter_first [] word kinds letters found = absurd (cc)
letter_first (row ∷ rows) word kinds letters found = by (bytes_eq row.0 word) refl (letter_first rows word kinds (and_parts (ltb 96 (get_or row.0 0 0)) (begin_with_letters rows) letters).1) found
  where
    by : (b : Bool) → bytes_eq row.0 word ≡ b → (kinds_after rows word ≡ Some kinds → 96 < get_or word 0 0) → cond b (Some row.1) (kinds_after rows word) ≡ Some kinds → 96 < get_or word 0 0
    by true same more e = subst (λ w. 96 < get_or w 0 0) ((bytes_eq-Decides row.0 word).0 same) (ltb-true 96 (get_or row.0 0 0) (and_parts (ltb 96 (get_or row.0 0 0)) (begin_with_letters rows) letters).0)
    by false same more e = more e

-- and so does a word with values after it
pub letter_of_values : (table : Table) (word : List ℕ) (texts : List (List ℕ)) (values : List Value) → begin_with_letters table ≡ true → ValuesAfter (kinds_after table word) texts values → 96 < get_or word 0 0
letter_of_values table word texts values letters h = by (kinds_after table word) refl h
  where
    by : (after : Option (List Kind)) → kinds_after table word ≡ after → ValuesAfter after texts values → 96 < get_or word 0 0
    by None none v = absurd v
    by (Some kinds) found v = letter_first table word kinds letters found
