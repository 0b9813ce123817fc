-- What is left of an input after a piece of it was read.
use Rattle.std.proofs.Common.{◌≡◌, ℕ, ◌+◌, ◌≤◌, List, [], ◌++◌, length, take, drop, refl, sym, ap, ◌∙◌, subst, append_assoc, arith}
use Rattle.std.specs.Prelude.{◌↔◌, IfSome, Option, Some, None, unwrap_or}
use Rattle.std.proofs.lemmas.List.{append-nil, drop-drop, drop_at, length-append, take-append-drop}
use Rattle.host_io.specs.Reading.{MovesBytes, TakesAtMost}
use Rattle.raw_file.specs.Input.{IsInput, IsLong}

some_is : (x y : List ℕ) → Some x ≡ Some y → x ≡ y
some_is x y e = ap (λ o. unwrap_or o x) e

dropped : (xs rest text : List ℕ) → xs ≡ text ++ rest → rest ≡ drop (length text) xs
dropped xs rest text is =
    sym (drop_at text rest (length text) refl) ∙ sym (ap (drop (length text)) is)

pub moved_none : (a : Option (List ℕ)) (text : List ℕ) → text ≡ [] → MovesBytes a a [] text
moved_none a text none bytes is = (bytes, is, ap (λ t. t ++ bytes) (sym none))

-- a piece more was read
pub moved_more : (a b c : Option (List ℕ)) (text longer : List ℕ) (n : ℕ) → MovesBytes a b [] text → IfSome b (λ l. longer ≡ text ++ take n l) → IfSome b (λ l. c ≡ Some (drop n l)) → MovesBytes a c [] longer
moved_more a b c text longer n moved appended left bytes is =
    let p = moved bytes is in
    let rest = p.0 in
    let text_is : longer ≡ text ++ take n rest = subst (λ o. IfSome o (λ l. longer ≡ text ++ take n l)) p.1 appended in
    let left_is : c ≡ Some (drop n rest) = subst (λ o. IfSome o (λ l. c ≡ Some (drop n l))) p.1 left in
    let whole : bytes ≡ longer ++ drop n rest =
    p.2 ∙ ap (λ r. text ++ r) (sym (take-append-drop n rest)) ∙ sym (append_assoc text (take n rest) (drop n rest)) ∙ ap (λ t. t ++ drop n rest) (sym text_is) in
    (drop n rest, left_is, whole)

-- so many bytes were taken at most
pub takes : (a b : Option (List ℕ)) (text : List ℕ) (most : ℕ) → MovesBytes a b [] text → length text ≤ most → TakesAtMost a b most
takes None b text most moved few = tt
takes (Some bytes) b text most moved few =
    let p = moved bytes refl in
    (length text, few, p.1 ∙ ap Some (dropped bytes p.0 text p.2))

pub takes_more : (a b c : Option (List ℕ)) (text : List ℕ) (more most : ℕ) → MovesBytes a b [] text → TakesAtMost b c more → length text + more ≤ most → TakesAtMost a c most
takes_more None b c text more most moved taken few = tt
takes_more (Some bytes) b c text more most moved taken few =
    let p = moved bytes refl in
    let rest_is = dropped bytes p.0 text p.2 in
    let t : (n : ℕ) × (n ≤ more) × (c ≡ Some (drop n p.0)) = subst (λ o. IfSome o (λ l. (n : ℕ) × (n ≤ more) × (c ≡ Some (drop n l)))) p.1 taken in
    (length text + t.0, omega (arith, t.1, few), t.2 ∙ ap (λ l. Some (drop t.0 l)) rest_is ∙ ap Some (drop-drop t.0 (length text) bytes))

-- nothing was taken
pub takes_none : (a b : Option (List ℕ)) (most : ℕ) → b ≡ a → TakesAtMost a b most
takes_none None b most same = tt
takes_none (Some bytes) b most same = (0, omega arith, same)

-- a read that gives nothing is the end
pub ended : (a b c : Option (List ℕ)) (text longer : List ℕ) (n limit : ℕ) → MovesBytes a b [] text → MovesBytes a c [] longer → IfSome b (λ l. (n ≡ 0) ↔ (l ≡ [])) → n ≡ 0 → IfSome b (λ l. c ≡ Some (drop n l)) → length longer ≤ limit → IsInput limit a c longer
ended None b c text longer n limit before after end zero left few = (few, tt)
ended (Some bytes) b c text longer n limit before after end zero left few =
    let p = before bytes refl in
    let q = after bytes refl in
    let rest_is : p.0 ≡ [] = (subst (λ o. IfSome o (λ l. (n ≡ 0) ↔ (l ≡ []))) p.1 end).0 zero in
    let left_is : c ≡ Some (drop n p.0) = subst (λ o. IfSome o (λ l. c ≡ Some (drop n l))) p.1 left in
    let none : c ≡ Some [] = left_is ∙ (λ i. Some (drop (zero i) (rest_is i))) in
    let nothing : q.0 ≡ [] = some_is q.0 [] (sym q.1 ∙ none) in
    (few, (q.2 ∙ ap (λ r. longer ++ r) nothing ∙ append-nil longer, none))

-- more than the limit was read
pub is_long : (a b : Option (List ℕ)) (text : List ℕ) (limit : ℕ) → MovesBytes a b [] text → length text ≡ limit + 1 → IsLong limit a b
is_long None b text limit moved many = tt
is_long (Some bytes) b text limit moved many =
    let p = moved bytes refl in (
      omega (arith, many, ap length p.2, length-append text p.0),
      p.1 ∙ ap Some (dropped bytes p.0 text p.2) ∙ ap (λ n. Some (drop n bytes)) many,
    )
