use Rattle.std.proofs.Common.{arith}
use Rattle.std.specs.Prelude.{IfNone, Option, Some, None}
use Rattle.std.proofs.lemmas.List.Elements.{All-contains}
use Rattle.prefix_table.specs.Rows.{IsRow}
use Rattle.prefix_table.specs.declared.rows.Row.{Row}
use Rattle.prefix_table.proofs.SearchLaws.{IsLast, IsLast-from, AreCommon, left_after, fewer_left, longest_found, none_covers}
use Rattle.prefix_table.proofs.search.longest_match.Goals as goal
use Rattle.prefix_table.proofs.search.longest_match.Goals.{After-common_bits-common}

whatever_none : (o : Option Row) (P : Type 0) → P → IfNone o P
whatever_none None P p = p
whatever_none (Some row) P p = tt

pub loop-row-init : goal.loop-row-init
loop-row-init c = record {
  top = omega arith;
  left = λ row has row_covers. (All-contains IsRow c.args.rows.now row c.requires.each has).len;
}

pub returns-in_err-row-clause-none : goal.returns-in_err-row-clause-none
returns-in_err-row-clause-none c =
    whatever_none c.from_residual.result _ (none_covers c.args.rows.now c.args.address c.loop-row.max c.cut.result c.requires c.loop-row.invariant.top c.loop-row.invariant.left c.cut.ensures c.in_err-row.ensures.none)

-- the last row that is not after the address
last_row : (c : After-common_bits-common) → IsLast c.args.rows.now c.args.address c.loop-row.max c.in_ok-row.row
last_row c =
    let e = c.in_ok-row.ensures in
    IsLast-from c.args.rows.now c.args.address c.loop-row.max c.cut.result c.in_ok-row.row c.cut.ensures e.found e.up_to e.last

-- the bits that it has in common with the address
common : (c : After-common_bits-common) → AreCommon c.args.address c.in_ok-row.row.bits c.common_bits-common.result
common c = record { most = c.common_bits-common.ensures.most; agree = c.common_bits-common.ensures.common }

pub returns-then-row-common-clause-found : goal.returns-then-row-common-clause-found
returns-then-row-common-clause-found c =
    let at = (goal.at.returns-then-row-common-clause-found c).After-common_bits-common in
    longest_found c.args.rows.now c.args.address c.loop-row.max c.common_bits-common.result c.in_ok-row.row c.requires c.loop-row.invariant.top c.loop-row.invariant.left (last_row at) (common at) c.if-row-common.true

pub loop-row-preserved : goal.loop-row-preserved
loop-row-preserved c =
    let at = (goal.at.loop-row-preserved c).After-common_bits-common in
    record {
      top = c.common_bits-common.ensures.most;
      left = left_after c.args.rows.now c.args.address c.loop-row.max c.common_bits-common.result c.in_ok-row.row c.requires c.loop-row.invariant.top c.loop-row.invariant.left (last_row at) (common at) c.if-row-common.false;
    }

pub loop-row-smaller : goal.loop-row-smaller
loop-row-smaller c =
    let at = (goal.at.loop-row-smaller c).After-common_bits-common in
    fewer_left c.args.rows.now c.args.address c.loop-row.max c.common_bits-common.result c.in_ok-row.row c.loop-row.invariant.top (last_row at) (common at) c.if-row-common.false
