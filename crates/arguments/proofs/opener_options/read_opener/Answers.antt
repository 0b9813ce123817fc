use Rattle.std.proofs.Common.{◌≡◌, ◌≢◌, ℕ, List, ◌∷◌, codes, false, map, rules, subst}
use Rattle.std.specs.String.{string_bytes}
use Rattle.grammar.specs.Fields.{TheNumber, u64_field}
use Rattle.arguments.specs.Inside.{Begins, HasNoValue}
use Rattle.arguments.specs.Options.{HasOption, HasPortRule}
use Rattle.arguments.specs.Table.{HasNoValues, Opening}
use Rattle.arguments.proofs.OpenerOptions.{no_opener, no_services}
use Rattle.arguments.proofs.opener_options.read_opener.Goals as goal

-- what holds of a list holds of the same list under another name
moved : {A : Type 0} (P : A → Type 0) (a b : A) → P a → a ≡ b → P b
moved P a b holds same = subst P same holds

pub returns-in_default-cut_services-clause-none : goal.returns-in_default-cut_services-clause-none
returns-in_default-cut_services-clause-none c =
    let wrong : HasNoValue (codes "--services") u64_field (map string_bytes c.in-Some.after_exempt.now) = search rules in
    no_services _ _ c.in-Some.exempt c.in-Some.ensures.found c.in-Some.ensures.rest wrong

pub returns-in-None-clause-none : goal.returns-in-None-clause-none
returns-in-None-clause-none c =
    let after = map string_bytes c.in-Some.after_exempt.now in
    let left = map string_bytes c.in-Some-cut_services.after_services.now in
    let rest = map string_bytes c.cut_port_rule-skips_bad_ports.result.1.now in
    let has : HasOption (codes "--services") u64_field (TheNumber 0) (TheNumber c.in-Some-cut_services.services) left after =
    moved (λ ws. HasOption (codes "--services") u64_field (TheNumber 0) (TheNumber c.in-Some-cut_services.services) left (map string_bytes ws)) _ c.in-Some.after_exempt.now
    c.in-Some-cut_services.ensures.found (search rules) in
    let cut : (text : List ℕ) (tail : List (List ℕ)) → Begins (codes "--services") text tail after → tail ≡ left =
    moved (λ ws. (text : List ℕ) (tail : List (List ℕ)) → Begins (codes "--services") text tail (map string_bytes ws) → tail ≡ left) _ c.in-Some.after_exempt.now
    c.in-Some-cut_services.ensures.rest (search rules) in
    let port : HasPortRule c.cut_port_rule-skips_bad_ports.result.0 rest left = search rules in
    let off : c.cut_port_rule-skips_bad_ports.result.0 ≡ false → (tail : List (List ℕ)) → left ≢ codes "--skip-bad-ports" ∷ tail = search rules in
    let none : HasNoValues Opening rest = search rules in
    no_opener _ _ c.in-Some.exempt c.in-Some.ensures.found c.in-Some.ensures.rest left rest c.in-Some-cut_services.services c.cut_port_rule-skips_bad_ports.result.0 has cut port off none
