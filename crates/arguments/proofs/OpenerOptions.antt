-- The options of an opener that choose rules of Bitcoin Core, before those that open its tables.
use Rattle.std.proofs.Common.{◌≡◌, ℕ, ◌≤◌, ◌-◌, ◌^◌, ◌⊎◌, Bool, true, false, List, [], ◌∷◌, codes, decimal, drop, get_or, Option, Some, None, inl, inr, refl, sym, ap, subst, ◌∙◌, arith}
use Rattle.std.proofs.lemmas.Option.{none-some}
use Rattle.grammar.proofs.Values.{one_value}
use Rattle.grammar.specs.Fields.{IsDefinite, IsInForm, Kind, Means, Nets, TheNets, TheNumber, Value, u64_field}
use Rattle.peer_open.specs.declared.rules.OpenRules.{OpenRules}
use Rattle.peers_file.specs.declared.chain.Chain.{Chain}
use Rattle.placing.specs.declared.sum.SumRule.{SumRule}
use Rattle.placing.specs.declared.sum.SumRule.TheVariants.{Bytes, Bits}
use Rattle.arguments.specs.Inside.{Begins, HasNoValue}
use Rattle.arguments.specs.Options.{HasOption, HasPortRule, HasRule, IsFileOptions, IsOpenerOptions, IsOpeningOptions, IsPortOptions, IsServiceOptions}
use Rattle.arguments.specs.Table.{HasNoValues, Opening, Outgoing, TheOpening}
use Rattle.arguments.specs.declared.file_kind.FileKind.{FileKind}
use Rattle.arguments.proofs.Choosing.{Chooses, chosen, same_start, third_of_net, third_of_none}
use Rattle.arguments.proofs.Choosing.Chooses.{neither, key_first, net_first}
use Rattle.arguments.proofs.Marking.{third_at_most, third_byte}
use Rattle.arguments.proofs.WithCore.{one_opening_kind}

-- AN OPTION AND THE REST

-- the rest after an option, which does not begin with it
module _ (name : List ℕ) (kind : Kind) (without : Value) where
  pub one_option : (v w : Value) (rest left words : List (List ℕ)) → IsDefinite kind → HasOption name kind without v rest words → HasOption name kind without w left words
      → ((text : List ℕ) (tail : List (List ℕ)) → Begins name text tail rest → ⊥) → ((text : List ℕ) (tail : List (List ℕ)) → Begins name text tail left → ⊥) → (v ≡ w) × (rest ≡ left)
  one_option v w rest left words definite (inl (is, same)) (inl (also, other)) off away = (same ∙ sym other, sym is ∙ also)
  one_option v w rest left words definite (inl (is, same)) (inr (text, means, begins)) off away = absurd (off text left (subst (Begins name text left) is begins))
  one_option v w rest left words definite (inr (text, means, begins)) (inl (also, other)) off away = absurd (away text rest (subst (Begins name text rest) also begins))
  one_option v w rest left words definite (inr (text, means, begins)) (inr (next, is, also)) off away =
      let same = same_start name text next rest left words begins also in
      (one_value kind next v w definite (subst (λ t. Means kind t v) same.0 means) is, same.1)

  -- a reading has the rest that was cut off
  pub same_rest : (v w : Value) (rest left words : List (List ℕ)) → HasOption name kind without v rest words
      → ((text : List ℕ) (tail : List (List ℕ)) → Begins name text tail words → tail ≡ rest) → HasOption name kind without w left words
      → ((text : List ℕ) (tail : List (List ℕ)) → Begins name text tail left → ⊥) → left ≡ rest
  same_rest v w rest left words has cut (inr (text, means, begins)) away = cut text left begins
  same_rest v w rest left words (inl (is, same)) cut (inl (also, other)) away = sym also ∙ is
  same_rest v w rest left words (inr (text, means, begins)) cut (inl (also, other)) away = absurd (away text rest (subst (Begins name text rest) also begins))

  -- a wrong value is read as none
  pub no_value : (v : Value) (left words : List (List ℕ)) → HasNoValue name kind words → HasOption name kind without v left words
      → ((text : List ℕ) (tail : List (List ℕ)) → Begins name text tail left → ⊥) → ⊥
  no_value v left words (text, rest, begins, wrong) (inl (is, same)) away = away text rest (subst (Begins name text rest) is begins)
  no_value v left words (text, rest, begins, wrong) (inr (next, means, also)) away =
      wrong (v, subst (λ t. Means kind t v) (same_start name next text left rest words also begins).0 means)

-- CUTTING AN OPTION OFF

-- what comes after an option comes after it in one way
pub rest_after : (name value : List ℕ) (rest words : List (List ℕ)) → Begins name value rest words → (text : List ℕ) (tail : List (List ℕ)) → Begins name text tail words → tail ≡ rest
rest_after name value rest words begins text tail also = (same_start name text value tail rest words also begins).1

pub found_number : (text : List ℕ) (n : ℕ) → n ≤ 2 ^ 64 - 1 → text ≡ decimal n → Means u64_field text (TheNumber n)
found_number text n few is = (n, refl, omega arith, few, is)

pub no_number : (text : List ℕ) (r : Option ℕ) → r ≡ None → ((n : ℕ) → n ≤ 2 ^ 64 - 1 → text ≡ decimal n → r ≡ Some n) → ¬ IsInForm u64_field text
no_number text r none only (v, (n, is, least, most, says)) = none-some n (sym none ∙ only n most says)

-- THE FIRST BYTES

fourth_byte : List (List ℕ) → ℕ
fourth_byte texts = get_or (get_or texts 0 []) 3 0

third_of_exempt : (text : List ℕ) (rest words : List (List ℕ)) → Begins (codes "--exempt") text rest words → third_byte words ≡ 101
third_of_exempt text rest words (inl is) = ap third_byte is
third_of_exempt text rest words (inr is) = ap third_byte is

third_of_services : (text : List ℕ) (rest words : List (List ℕ)) → Begins (codes "--services") text rest words → third_byte words ≡ 115
third_of_services text rest words (inl is) = ap third_byte is
third_of_services text rest words (inr is) = ap third_byte is

fourth_of_services : (text : List ℕ) (rest words : List (List ℕ)) → Begins (codes "--services") text rest words → fourth_byte words ≡ 101
unfolding fourth_byte
fourth_of_services text rest words (inl is) = ap fourth_byte is
fourth_of_services text rest words (inr is) = ap fourth_byte is

-- the options that open tables begin in other ways
abbrev IsOther : List (List ℕ) → Type 0
IsOther texts = (third_byte texts ≤ 99) ⊎ ((107 ≤ third_byte texts) × (third_byte texts ≤ 110))

third_of_choice : (key : Option (List ℕ)) (texts : List (List ℕ)) (chain : Chain) → Chooses texts key chain → IsOther texts
third_of_choice key texts chain (neither none k c) = inl (omega (arith, third_of_none texts none))
third_of_choice key texts chain (key_first digits left k e read (inl begin) net) = inr (omega (arith, ap third_byte begin), omega (arith, ap third_byte begin))
third_of_choice key texts chain (key_first digits left k e read (inr begin) net) = inr (omega (arith, ap third_byte begin), omega (arith, ap third_byte begin))
third_of_choice key texts chain (net_first by value left means begin keys) = inr (omega (arith, third_of_net by value left texts begin), third_at_most by value left texts begin)

third_by_rule : (rule : SumRule) (key : Option (List ℕ)) (texts rest : List (List ℕ)) (chain : Chain) → HasRule rule rest texts → IsOpeningOptions key rest chain → IsOther texts
third_by_rule Bytes key texts rest chain is opening = subst IsOther (sym is) (third_of_choice key rest chain (chosen rest key chain opening))
third_by_rule Bits key texts rest chain is opening = inl (omega (arith, ap third_byte is))

third_of_opening : (key : Option (List ℕ)) (texts : List (List ℕ)) (kind : FileKind) → IsFileOptions (IsOpeningOptions key) texts kind → IsOther texts
third_of_opening key texts kind (rest, has, opening) = third_by_rule kind.rule key texts rest kind.chain has opening

no_third : (n : ℕ) (texts : List (List ℕ)) → IsOther texts → third_byte texts ≡ n → (n ≡ 101) ⊎ (n ≡ 115) → ⊥
no_third n texts (inl few) is (inl a) = omega (arith, few, is, a)
no_third n texts (inl few) is (inr a) = omega (arith, few, is, a)
no_third n texts (inr (least, most)) is (inl a) = omega (arith, least, is, a)
no_third n texts (inr (least, most)) is (inr a) = omega (arith, most, is, a)

-- the options after `--skip-bad-ports` don't begin with it
ports_away : (key : Option (List ℕ)) (texts rest : List (List ℕ)) (kind : FileKind) → texts ≡ codes "--skip-bad-ports" ∷ rest → IsFileOptions (IsOpeningOptions key) texts kind → ⊥
ports_away key texts rest kind is opening = no_third 115 texts (third_of_opening key texts kind opening) (ap third_byte is) (inr refl)

-- those after `--services` don't begin with that
services_away : (skips : Bool) (key : Option (List ℕ)) (words : List (List ℕ)) (kind : FileKind) → IsPortOptions skips key words kind
    → (text : List ℕ) (tail : List (List ℕ)) → Begins (codes "--services") text tail words → ⊥
unfolding fourth_byte
services_away true key words kind (rest, is, opening) text tail begins = omega (arith, fourth_of_services text tail words begins, ap fourth_byte is)
services_away false key words kind (rest, is, opening) text tail begins =
    no_third 115 rest (third_of_opening key rest kind opening) (ap third_byte (sym is) ∙ third_of_services text tail words begins) (inr refl)

ports_not_exempt : (skips : Bool) (key : Option (List ℕ)) (words : List (List ℕ)) (kind : FileKind) → IsPortOptions skips key words kind
    → (text : List ℕ) (tail : List (List ℕ)) → Begins (codes "--exempt") text tail words → ⊥
ports_not_exempt true key words kind (rest, is, opening) text tail begins = omega (arith, third_of_exempt text tail words begins, ap third_byte is)
ports_not_exempt false key words kind (rest, is, opening) text tail begins =
    no_third 101 rest (third_of_opening key rest kind opening) (ap third_byte (sym is) ∙ third_of_exempt text tail words begins) (inl refl)

-- and those after `--exempt` not with that
exempt_away : (services : ℕ) (skips : Bool) (key : Option (List ℕ)) (words : List (List ℕ)) (kind : FileKind) → IsServiceOptions services skips key words kind
    → (text : List ℕ) (tail : List (List ℕ)) → Begins (codes "--exempt") text tail words → ⊥
exempt_away services skips key words kind (rest, inl (is, same), ports) text tail begins =
    ports_not_exempt skips key rest kind ports text tail (subst (Begins (codes "--exempt") text tail) is begins)
exempt_away services skips key words kind (rest, inr (next, means, also), ports) text tail begins =
    omega (arith, third_of_exempt text tail words begins, third_of_services next rest words also)

-- ONE READING

nets_in : Value → List ℕ
nets_in (TheNets nets) = nets
nets_in other = []

number_in : Value → ℕ
number_in (TheNumber n) = n
number_in other = 0

one_ports : (texts : List (List ℕ)) (s t : Bool) (k l : Option (List ℕ)) (a b : FileKind) → IsPortOptions s k texts a → IsPortOptions t l texts b → (s ≡ t) × (k ≡ l) × (a ≡ b)
one_ports texts true true k l a b (rest, is, opening) (left, also, other) =
    let same = one_opening_kind left k l a b (subst (λ ts. IsFileOptions (IsOpeningOptions k) ts a) (ap (drop 1) (sym is ∙ also)) opening) other in
    (refl, same.0, same.1)
one_ports texts true false k l a b (rest, is, opening) (left, also, other) = absurd (ports_away l left rest b (sym also ∙ is) other)
one_ports texts false true k l a b (rest, is, opening) (left, also, other) = absurd (ports_away k rest left a (sym is ∙ also) opening)
one_ports texts false false k l a b (rest, is, opening) (left, also, other) =
    let same = one_opening_kind left k l a b (subst (λ ts. IsFileOptions (IsOpeningOptions k) ts a) (sym is ∙ also) opening) other in
    (refl, same.0, same.1)

one_services : (texts : List (List ℕ)) (m n : ℕ) (s t : Bool) (k l : Option (List ℕ)) (a b : FileKind) → IsServiceOptions m s k texts a → IsServiceOptions n t l texts b
    → (m ≡ n) × (s ≡ t) × (k ≡ l) × (a ≡ b)
unfolding number_in
one_services texts m n s t k l a b (rest, has, ports) (left, also, others) =
    let same = one_option (codes "--services") u64_field (TheNumber 0) (TheNumber m) (TheNumber n) rest left texts (omega arith) has also
    (services_away s k rest a ports) (services_away t l left b others) in
    let after = one_ports left s t k l a b (subst (λ ts. IsPortOptions s k ts a) same.1 ports) others in
    (ap number_in same.0, after.0, after.1, after.2)

pub one_opener : (texts : List (List ℕ)) (r s : OpenRules) (k l : Option (List ℕ)) (a b : FileKind) → IsOpenerOptions r k texts a → IsOpenerOptions s l texts b
    → (r ≡ s) × (k ≡ l) × (a ≡ b)
unfolding nets_in
one_opener texts r s k l a b (rest, has, after) (left, also, others) =
    let same = one_option (codes "--exempt") Nets (TheNets []) (TheNets r.exempt) (TheNets s.exempt) rest left texts tt has also
    (exempt_away r.services r.skips_bad_ports k rest a after) (exempt_away s.services s.skips_bad_ports l left b others) in
    let more = one_services left r.services s.services r.skips_bad_ports s.skips_bad_ports k l a b
    (subst (λ ts. IsServiceOptions r.services r.skips_bad_ports k ts a) same.1 after) others in
    (λ i. record { exempt = nets_in (same.0 i); services = more.0 i; skips_bad_ports = more.1 i }, more.2, more.3)

-- WHAT IS NOT READ

pub no_exempt : (words : List (List ℕ)) → HasNoValue (codes "--exempt") Nets words → HasNoValues Outgoing words
unfolding HasNoValues
no_exempt words wrong v (rules, key, kind, is, (rest, has, after)) =
    no_value (codes "--exempt") Nets (TheNets []) (TheNets rules.exempt) rest words wrong has (exempt_away rules.services rules.skips_bad_ports key rest kind after)

-- every reading goes on with the arguments that were left
after_them : (words after_exempt : List (List ℕ)) (nets : List ℕ) → HasOption (codes "--exempt") Nets (TheNets []) (TheNets nets) after_exempt words
    → ((text : List ℕ) (tail : List (List ℕ)) → Begins (codes "--exempt") text tail words → tail ≡ after_exempt)
    → (rules : OpenRules) (key : Option (List ℕ)) (kind : FileKind) → IsOpenerOptions rules key words kind
    → IsServiceOptions rules.services rules.skips_bad_ports key after_exempt kind
after_them words after_exempt nets has cut rules key kind (rest, also, after) =
    let same = same_rest (codes "--exempt") Nets (TheNets []) (TheNets nets) (TheNets rules.exempt) after_exempt rest words has cut also
    (exempt_away rules.services rules.skips_bad_ports key rest kind after) in
    subst (λ ts. IsServiceOptions rules.services rules.skips_bad_ports key ts kind) same after

pub no_services : (words after_exempt : List (List ℕ)) (nets : List ℕ) → HasOption (codes "--exempt") Nets (TheNets []) (TheNets nets) after_exempt words
    → ((text : List ℕ) (tail : List (List ℕ)) → Begins (codes "--exempt") text tail words → tail ≡ after_exempt)
    → HasNoValue (codes "--services") u64_field after_exempt → HasNoValues Outgoing words
unfolding HasNoValues
no_services words after_exempt nets has cut wrong v (rules, key, kind, is, options) =
    let left = after_them words after_exempt nets has cut rules key kind options in
    no_value (codes "--services") u64_field (TheNumber 0) (TheNumber rules.services) left.0 after_exempt wrong left.1
    (services_away rules.skips_bad_ports key left.0 kind left.2)

-- the options that open tables are the same
same_opening : (s t : Bool) (key : Option (List ℕ)) (kind : FileKind) (words rest left : List (List ℕ)) → HasPortRule s rest words
    → (s ≡ false → (tail : List (List ℕ)) → words ≡ codes "--skip-bad-ports" ∷ tail → ⊥) → HasPortRule t left words
    → IsFileOptions (IsOpeningOptions key) left kind → IsFileOptions (IsOpeningOptions key) rest kind
same_opening true true key kind words rest left is away also opening = subst (λ ts. IsFileOptions (IsOpeningOptions key) ts kind) (ap (drop 1) (sym also ∙ is)) opening
same_opening true false key kind words rest left is away also opening = absurd (ports_away key left rest kind (sym also ∙ is) opening)
same_opening false true key kind words rest left is away also opening = absurd (away refl left also)
same_opening false false key kind words rest left is away also opening = subst (λ ts. IsFileOptions (IsOpeningOptions key) ts kind) (sym also ∙ is) opening

pub no_opener : (words after_exempt : List (List ℕ)) (nets : List ℕ) → HasOption (codes "--exempt") Nets (TheNets []) (TheNets nets) after_exempt words
    → ((text : List ℕ) (tail : List (List ℕ)) → Begins (codes "--exempt") text tail words → tail ≡ after_exempt)
    → (after_services rest : List (List ℕ)) (number : ℕ) (skips : Bool) → HasOption (codes "--services") u64_field (TheNumber 0) (TheNumber number) after_services after_exempt
    → ((text : List ℕ) (tail : List (List ℕ)) → Begins (codes "--services") text tail after_exempt → tail ≡ after_services) → HasPortRule skips rest after_services
    → (skips ≡ false → (tail : List (List ℕ)) → after_services ≡ codes "--skip-bad-ports" ∷ tail → ⊥) → HasNoValues Opening rest → HasNoValues Outgoing words
unfolding HasNoValues
no_opener words after_exempt nets has cut after_services rest number skips asked next ports off none v (rules, key, kind, is, options) =
    let left = after_them words after_exempt nets has cut rules key kind options in
    let same = same_rest (codes "--services") u64_field (TheNumber 0) (TheNumber number) (TheNumber rules.services) after_services left.0 after_exempt asked next left.1
    (services_away rules.skips_bad_ports key left.0 kind left.2) in
    let port = subst (λ ts. HasPortRule rules.skips_bad_ports left.2.0 ts) same left.2.1 in
    none (TheOpening key kind) (key, kind, refl, same_opening skips rules.skips_bad_ports key kind after_services rest left.2.0 ports off port left.2.2)
