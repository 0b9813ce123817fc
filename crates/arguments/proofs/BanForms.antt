-- The arguments for a list of bans: `--core` or not, and then as many as the command has.
use Rattle.std.proofs.Common.{◌≡◌, ◌≢◌, ◌≤◌, ◌<◌, ℕ, true, List, [], ◌∷◌, length, drop, get_or, decimal, Option, Some, None, refl, sym, ap, subst, ◌∙◌, arith}
use Rattle.std.proofs.lemmas.Fmt.{decimal_injective}
use Rattle.std.proofs.lemmas.Option.{none-some}
use Rattle.ban_list.proofs.Named.{one_subnet_by}
use Rattle.ban_list.specs.BanFile.{max_time}
use Rattle.ban_list.specs.SubnetText.{IsSubnetTextBy}
use Rattle.ban_list.specs.declared.ban.BanRule.{BanRule}
use Rattle.ban_list.specs.declared.ban.BanRule.TheVariants.{Labels, Names}
use Rattle.ban_list.specs.declared.subnet.Subnet.{Subnet}
use Rattle.grammar.specs.Fields.{AllMean, Kind, Value}
use Rattle.grammar.specs.Table.{all_definite}
use Rattle.grammar.proofs.TableLemmas.{one_list}
use Rattle.arguments.specs.Options.{HasBanRule}
use Rattle.arguments.specs.Table.{Fields, ForBans, HasNoValues, OfSubnet, Period, Reads, TheBanFields, TheFields, ThePeriod, TheSubnet, Values}

-- THE RULE

-- by their number, arguments begin with `--core` or do not
pub one_rule : (texts rest left : List (List ℕ)) (r s : BanRule) → HasBanRule r rest texts → HasBanRule s left texts → length rest ≡ length left → (r ≡ s) × (rest ≡ left)
one_rule texts rest left Labels Labels h k same = (refl, sym h ∙ k)
one_rule texts rest left Labels Names h k same = absurd (omega (arith, ap length (sym h ∙ k), same))
one_rule texts rest left Names Labels h k same = absurd (omega (arith, ap length (sym k ∙ h), same))
one_rule texts rest left Names Names h k same = (refl, ap (drop 1) (sym h ∙ k))

-- ONE READING

length_of : (kinds : List Kind) (texts : List (List ℕ)) (vs : List Value) → AllMean kinds texts vs → length texts ≡ length kinds
length_of [] [] [] h = refl
length_of [] [] (w ∷ vs) h = absurd h
length_of [] (text ∷ texts) vs h = absurd h
length_of (kind ∷ kinds) [] vs h = absurd h
length_of (kind ∷ kinds) (text ∷ texts) [] h = absurd h
length_of (kind ∷ kinds) (text ∷ texts) (w ∷ vs) h = omega (arith, length_of kinds texts vs h.1)

pub one_ban_fields : (kinds : List Kind) (texts : List (List ℕ)) (v w : Values) → all_definite kinds ≡ true → Reads (ForBans kinds) texts v → Reads (ForBans kinds) texts w → v ≡ w
one_ban_fields kinds texts v w definite (r, rest, xs, is, has, all) (s, left, ys, same, too, more) =
    let one = one_rule texts rest left r s has too (length_of kinds rest xs all ∙ sym (length_of kinds left ys more)) in
    let values = one_list kinds left xs ys definite (subst (λ ts. AllMean kinds ts xs) one.1 all) more in
    is ∙ (λ i. TheBanFields (one.0 i) (values i)) ∙ sym same

pub one_subnet_in : (texts : List (List ℕ)) (v w : Values) → Reads OfSubnet texts v → Reads OfSubnet texts w → v ≡ w
one_subnet_in texts v w (r, rest, a, is, has, (text, only, means)) (s, left, b, same, too, (other, alone, says)) =
    let one = one_rule texts rest left r s has too (ap length only ∙ sym (ap length alone)) in
    let texts_are = ap (λ ts. get_or ts 0 []) (sym only ∙ one.1 ∙ alone) in
    let subnets = one_subnet_by s other a b (subst (λ t. IsSubnetTextBy s t a) texts_are (subst (λ q. IsSubnetTextBy q text a) one.0 means)) says in
    is ∙ (λ i. TheSubnet (one.0 i) (subnets i)) ∙ sym same

pub one_period : (texts : List (List ℕ)) (v w : Values) → Reads Period texts v → Reads Period texts w → v ≡ w
one_period texts v w (r, rest, a, n, u, is, has, (text, all, means, less, most)) (s, left, b, m, t, same, too, (other, more, says, lesser, least)) =
    let one = one_rule texts rest left r s has too (ap length all ∙ sym (ap length more)) in
    let e = sym all ∙ one.1 ∙ more in
    let subnets = one_subnet_by s other a b (subst (λ x. IsSubnetTextBy s x a) (ap (λ ts. get_or ts 0 []) e) (subst (λ q. IsSubnetTextBy q text a) one.0 means)) says in
    let nows = decimal_injective n m (omega (arith, less, most)) (omega (arith, lesser, least)) (ap (λ ts. get_or ts 1 []) e) in
    let untils = decimal_injective u t (omega (arith, most)) (omega (arith, least)) (ap (λ ts. get_or ts 2 []) e) in
    is ∙ (λ i. ThePeriod (one.0 i) (subnets i) (nows i) (untils i)) ∙ sym same

-- WHAT IS READ

-- the arguments that are left for a number of them
module _ (texts rest : List (List ℕ)) (rule : BanRule) (count : ℕ) (has : HasBanRule rule rest texts)
    (only : (other : BanRule) (left : List (List ℕ)) → HasBanRule other left texts → length left ≡ count → (other ≡ rule) × (left ≡ rest)) where
  pub no_ban_fields : (kinds : List Kind) → length kinds ≡ count → HasNoValues (Fields kinds) rest → HasNoValues (ForBans kinds) texts
  unfolding HasNoValues
  no_ban_fields kinds many none v (other, left, values, is, too, all) =
      let same = only other left too (length_of kinds left values all ∙ many) in
      none (TheFields values) (values, refl, subst (λ ts. AllMean kinds ts values) same.1 all)

  pub no_word : count ≡ 1 → ((word : List ℕ) → rest ≡ word ∷ [] → ⊥) → HasNoValues OfSubnet texts
  unfolding HasNoValues
  no_word many none v (other, left, subnet, is, too, (text, alone, means)) =
      none text (sym (only other left too (ap length alone ∙ sym many)).1 ∙ alone)

  pub no_subnet : count ≡ 1 → (word : List ℕ) (r : Option Subnet) → rest ≡ word ∷ [] → ((s : Subnet) → IsSubnetTextBy rule word s → r ≡ Some s) → r ≡ None → HasNoValues OfSubnet texts
  unfolding HasNoValues
  no_subnet many word r first one none v (other, left, subnet, is, too, (text, alone, means)) =
      let same = only other left too (ap length alone ∙ sym many) in
      let texts_are = ap (λ ts. get_or ts 0 []) (sym alone ∙ same.1 ∙ first) in
      none-some subnet (sym none ∙ one subnet (subst (λ t. IsSubnetTextBy rule t subnet) texts_are (subst (λ q. IsSubnetTextBy q text subnet) same.0 means)))

  pub no_words : count ≡ 3 → ((a b d : List ℕ) → rest ≡ a ∷ b ∷ d ∷ [] → ⊥) → HasNoValues Period texts
  unfolding HasNoValues
  no_words many none v (other, left, subnet, n, u, is, too, (text, all, means, less, most)) =
      none text (decimal n) (decimal u) (sym (only other left too (ap length all ∙ sym many)).1 ∙ all)

  pub no_period : count ≡ 3 → (a b d : List ℕ) (r : Option (Subnet × ℕ × ℕ)) → rest ≡ a ∷ b ∷ d ∷ [] →
      ((s : Subnet) (n u : ℕ) → IsSubnetTextBy rule a s → b ≡ decimal n → d ≡ decimal u → n < u → u ≤ max_time → r ≢ None) → r ≡ None → HasNoValues Period texts
  unfolding HasNoValues
  no_period many a b d r first never none v (other, left, subnet, n, u, is, too, (text, all, means, less, most)) =
      let same = only other left too (ap length all ∙ sym many) in
      let e = sym first ∙ sym same.1 ∙ all in
      never subnet n u (subst (λ t. IsSubnetTextBy rule t subnet) (ap (λ ts. get_or ts 0 []) (sym e)) (subst (λ q. IsSubnetTextBy q text subnet) same.0 means))
      (ap (λ ts. get_or ts 1 []) e) (ap (λ ts. get_or ts 2 []) e) less most none
