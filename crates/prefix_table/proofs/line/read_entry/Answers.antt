use Rattle.std.proofs.Common.{◌≡◌, ℕ, List, ◌++◌, drop, Option, Some, None, codes, decimal, ap, sym, ◌∙◌, arith}
use Rattle.std.specs.Prelude.{unwrap_or}
use Rattle.std.proofs.lemmas.Bool.Decides.{Decides-eqb}
use Rattle.std.proofs.lemmas.Slice.Eq.{strip_prefix_is}
use Rattle.prefix_table.specs.declared.line.RowEntry.{RowEntry}
use Rattle.prefix_table.specs.declared.line.Family.{Family}
use Rattle.prefix_table.proofs.EntryLaws.{parts_of, entry_from, has_space}
use Rattle.prefix_table.proofs.line.read_entry.Goals as goal

abbrev made : Family → ℕ → ℕ → ℕ → RowEntry
made family address len asn = record { family = family; address = address; len = len; asn = asn }

abbrev read : Family → ℕ → Option (Family × ℕ)
read family address = Some (family, address)

after_as : {x y : List ℕ} → codes "AS" ++ x ≡ codes "AS" ++ y → x ≡ y
after_as e = ap (λ (xs : List ℕ). drop 2 xs) e

same_entry : {f g : Family} {a b l m n o : ℕ} → read f a ≡ read g b → Some l ≡ Some m → Some n ≡ Some o → Some (made f a l n) ≡ Some (made g b m o)
same_entry {f} {g} {a} {b} {l} {m} {n} {o} family len asn =
    let e : f ≡ g = ap (λ (p : Option (Family × ℕ)). (unwrap_or p (f, a)).0) family in
    let d : a ≡ b = ap (λ (p : Option (Family × ℕ)). (unwrap_or p (f, a)).1) family in
    let h : l ≡ m = ap (λ (p : Option ℕ). unwrap_or p l) len in
    let k : n ≡ o = ap (λ (p : Option ℕ). unwrap_or p n) asn in
    λ i. Some (made (e i) (d i) (h i) (k i))

pub returns-in_err-len-clause-only : goal.returns-in_err-len-clause-only
returns-in_err-len-clause-only c = λ entry is.
    absurd (has_space c.args.line.now c.in_ok-address.address.now c.in_ok-address.numbers.now entry c.in_ok-address.ensures.cut c.in_ok-address.ensures.last is c.in_err-len.ensures.none)

pub returns-in_err-digits-clause-only : goal.returns-in_err-digits-clause-only
returns-in_err-digits-clause-only c = λ entry is.
    let parts = parts_of c.args.line.now c.in_ok-address.address.now c.in_ok-address.numbers.now c.in_ok-len.len.now c.in_ok-len.asn.now entry c.in_ok-address.ensures.cut c.in_ok-address.ensures.last c.in_ok-len.ensures.cut c.in_ok-len.ensures.last is in
    absurd (strip_prefix_is Decides-eqb c.in_ok-len.asn.now (codes "AS") None c.in_err-digits.ensures.cases (decimal entry.asn) parts.is_asn)

pub returns-in_err-family-clause-only : goal.returns-in_err-family-clause-only
returns-in_err-family-clause-only c = λ entry is.
    let parts = parts_of c.args.line.now c.in_ok-address.address.now c.in_ok-address.numbers.now c.in_ok-len.len.now c.in_ok-len.asn.now entry c.in_ok-address.ensures.cut c.in_ok-address.ensures.last c.in_ok-len.ensures.cut c.in_ok-len.ensures.last is in
    let found = c.in_err-family.ensures.only entry.family entry.address parts.is_address in
    cc

pub returns-in_err-parse_number-clause-only : goal.returns-in_err-parse_number-clause-only
returns-in_err-parse_number-clause-only c = λ entry is.
    let parts = parts_of c.args.line.now c.in_ok-address.address.now c.in_ok-address.numbers.now c.in_ok-len.len.now c.in_ok-len.asn.now entry c.in_ok-address.ensures.cut c.in_ok-address.ensures.last c.in_ok-len.ensures.cut c.in_ok-len.ensures.last is in
    let found = c.in_err-parse_number.ensures.only entry.len parts.small_len parts.is_len in
    cc

pub returns-in_err-parse_number-2-clause-only : goal.returns-in_err-parse_number-2-clause-only
returns-in_err-parse_number-2-clause-only c = λ entry is.
    let parts = parts_of c.args.line.now c.in_ok-address.address.now c.in_ok-address.numbers.now c.in_ok-len.len.now c.in_ok-len.asn.now entry c.in_ok-address.ensures.cut c.in_ok-address.ensures.last c.in_ok-len.ensures.cut c.in_ok-len.ensures.last is in
    let tag = strip_prefix_is Decides-eqb c.in_ok-len.asn.now (codes "AS") (Some c.in_ok-digits.digits) c.in_ok-digits.ensures.cases in
    let found = c.in_err-parse_number-2.ensures.only entry.asn parts.small_asn (after_as (sym tag ∙ parts.is_asn)) in
    cc

pub returns-clause-found : goal.returns-clause-found
returns-clause-found c =
    let tag = strip_prefix_is Decides-eqb c.in_ok-len.asn.now (codes "AS") (Some c.in_ok-digits.digits) c.in_ok-digits.ensures.cases in
    let len = c.in_ok-parse_number.ensures.found in
    let asn = c.in_ok-parse_number-2.ensures.found in
    entry_from c.args.line.now c.in_ok-address.address.now c.in_ok-address.numbers.now c.in_ok-len.len.now c.in_ok-len.asn.now c.in_ok-digits.digits.now _ c.requires c.in_ok-address.ensures.cut c.in_ok-len.ensures.cut tag c.in_ok-family.ensures.found (omega (arith, len.0), len.1) (omega (arith, asn.0), asn.1)

pub returns-clause-only : goal.returns-clause-only
returns-clause-only c = λ entry is.
    let parts = parts_of c.args.line.now c.in_ok-address.address.now c.in_ok-address.numbers.now c.in_ok-len.len.now c.in_ok-len.asn.now entry c.in_ok-address.ensures.cut c.in_ok-address.ensures.last c.in_ok-len.ensures.cut c.in_ok-len.ensures.last is in
    let tag = strip_prefix_is Decides-eqb c.in_ok-len.asn.now (codes "AS") (Some c.in_ok-digits.digits) c.in_ok-digits.ensures.cases in
    let family = c.in_ok-family.ensures.only entry.family entry.address parts.is_address in
    let len = c.in_ok-parse_number.ensures.only entry.len parts.small_len parts.is_len in
    let asn = c.in_ok-parse_number-2.ensures.only entry.asn parts.small_asn (after_as (sym tag ∙ parts.is_asn)) in
    same_entry family len asn
