use Rattle.std.proofs.Common.{◌+◌, List, length, ◌<◌, ◌≤◌, arith, ◌∙◌, subst, sym, Option}
use Rattle.std.specs.Prelude.{MatchOption}
use Rattle.std.proofs.lemmas.List.{nil_from_length}
use Rattle.std.proofs.lemmas.Bool.{eqb-true}
use Rattle.host_io.specs.Lines.{IsPassedOver}
use Rattle.prefix_table.specs.Text.{IsRowLine}
use Rattle.prefix_table.specs.declared.rows.Row.{Row}
use Rattle.prefix_table.proofs.PlainLaws.{PlainSoFar, plain_so_far_none, plain_passed, plain_row, plain_full, plain_stops, plain_whole}
use Rattle.prefix_table.proofs.rows.plain_rows.Goals as goal

pub loop-rest-init : goal.loop-rest-init
loop-rest-init c = subst (λ rows. PlainSoFar c.args.text.now c.args.text.now rows 0) (sym c.new-rows.ensures.items) (plain_so_far_none c.args.text.now)

pub loop-rest-preserved-in-Ok-None : goal.loop-rest-preserved-in-Ok-None
loop-rest-preserved-in-Ok-None c =
    let passed = subst (λ (o : Option Row). MatchOption o (IsPassedOver c.split_line.result.0.now) (IsRowLine c.split_line.result.0.now)) c.in-Ok-None.field-0-is c.in-Ok-None.ensures.found in
    plain_passed c.args.text.now c.loop-rest.rest.now c.split_line.result.1.now c.split_line.result.0.now c.loop-rest.rows.items c.loop-rest.line c.loop-rest.invariant c.split_line.ensures.first c.split_line.ensures.fewer c.in-Ok-None.ensures.settled passed

pub loop-rest-preserved : goal.loop-rest-preserved
loop-rest-preserved c =
    let is = subst (λ (o : Option Row). MatchOption o (IsPassedOver c.split_line.result.0.now) (IsRowLine c.split_line.result.0.now)) c.in-Ok-Some.field-0-is c.in-Ok-Some.ensures.found in
    let rows = c.loop-rest.rows.items in
    let room : length rows + 1 ≤ 2000000 = omega (arith, c.in_ok-push-in-Ok-Some.ensures.len, c.len.ensures, c.is_too_many.ensures.few c.if-is_too_many.false) in
    let so = plain_row c.args.text.now c.loop-rest.rest.now c.split_line.result.1.now c.split_line.result.0.now rows c.loop-rest.line c.in-Ok-Some.row c.loop-rest.invariant c.split_line.ensures.first c.split_line.ensures.fewer c.in-Ok-Some.ensures.settled is room in
    subst (λ (rows : List Row). PlainSoFar c.args.text.now c.split_line.result.1.now rows (c.loop-rest.line + 1)) (sym c.in_ok-push-in-Ok-Some.ensures.items) so

pub returns-clause-found : goal.returns-clause-found
returns-clause-found c =
    let none = nil_from_length c.loop-rest.rest.now (eqb-true (length c.loop-rest.rest.now) 0 (sym c.is_empty.ensures ∙ c.loop-rest-test.false)) in
    plain_whole c.args.text.now c.loop-rest.rows.items c.loop-rest.line c.loop-rest.rest.now c.loop-rest.invariant none

pub returns-then-is_too_many-clause-none : goal.returns-then-is_too_many-clause-none
returns-then-is_too_many-clause-none c =
    let is = subst (λ (o : Option Row). MatchOption o (IsPassedOver c.split_line.result.0.now) (IsRowLine c.split_line.result.0.now)) c.in-Ok-Some.field-0-is c.in-Ok-Some.ensures.found in
    let rows = c.loop-rest.rows.items in
    let full : 2000000 < length rows + 1 = omega (arith, c.is_too_many.ensures.many c.if-is_too_many.true, c.in_ok-push-in-Ok-Some.ensures.len, c.len.ensures) in
    plain_full c.args.text.now c.loop-rest.rest.now c.split_line.result.1.now c.split_line.result.0.now rows c.loop-rest.line c.in-Ok-Some.row c.loop-rest.invariant c.split_line.ensures.first c.in-Ok-Some.ensures.settled is full

pub returns-in-Err-clause-none : goal.returns-in-Err-clause-none
returns-in-Err-clause-none c =
    plain_stops c.args.text.now c.loop-rest.rest.now c.split_line.result.1.now c.split_line.result.0.now c.loop-rest.rows.items c.loop-rest.line c.in-Err.field-0 c.loop-rest.invariant c.split_line.ensures.first c.in-Err.ensures.settled c.in-Err.ensures.cause
