use Rattle.std.proofs.Common.{sym, subst}
use Rattle.std.specs.Prelude.{IfSome}
use Rattle.names.specs.Name.{IsName}
use Rattle.names.proofs.Readings.{none_of, second_found, second_only}
use Rattle.raw_read.specs.Fields.{IsPlainText, IsRawName}
use Rattle.raw_read.proofs.row_fields.parse_raw_name.Goals as goal

pub returns-in-None-clause-found : goal.returns-in-None-clause-found
returns-in-None-clause-found c =
    let text = c.args.text.now in
    subst (λ local. IfSome c.parse_name.result (IsRawName local text)) (sym c.if-local.true)
    (second_found (IsPlainText text) (IsName text) c.parse_name.result (none_of (IsPlainText text) c.parse_plain.result c.in-None.is c.parse_plain.ensures.only) c.parse_name.ensures.found)

pub returns-in-None-clause-only : goal.returns-in-None-clause-only
returns-in-None-clause-only c = λ a h.
    let text = c.args.text.now in
    second_only (IsPlainText text) (IsName text) c.parse_name.result (none_of (IsPlainText text) c.parse_plain.result c.in-None.is c.parse_plain.ensures.only) c.parse_name.ensures.only a
    (subst (λ local. IsRawName local text a) c.if-local.true h)

pub returns-else-local-clause-only : goal.returns-else-local-clause-only
returns-else-local-clause-only c = λ a h.
    c.parse_name-else-local.ensures.only a (subst (λ local. IsRawName local c.args.text.now a) c.if-local.false h)
