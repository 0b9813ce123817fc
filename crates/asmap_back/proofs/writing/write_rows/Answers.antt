use Rattle.std.proofs.Common.{Result, Ok, Err, subst, arith}
use Rattle.std.specs.Prelude.{OnOk, OnErr}
use Rattle.host_io.specs.Writing.{Appended, AppendedPart}
use Rattle.asmap_vm.specs.Held.{tree_held}
use Rattle.prefix_table.specs.Print.{table_text}
use Rattle.asmap_back.specs.Back.{rows_back}
use Rattle.asmap_back.proofs.Pieces.{waits_first, waits_next, waits_part, waits_all}
use Rattle.asmap_back.proofs.writing.write_rows.Goals as goal

on_err : {X E : Type 0} (r : Result X E) (P : Type 0) → P → OnErr r P
on_err (Ok x) P p = tt
on_err (Err e) P p = p

on_ok_then : {X E : Type 0} (r : Result X E) (P Q : Type 0) → (P → Q) → OnOk r P → OnOk r Q
on_ok_then (Ok x) P Q f p = f p
on_ok_then (Err e) P Q f p = tt

on_err_then : {X E : Type 0} (r : Result X E) (P Q : Type 0) → (P → Q) → OnErr r P → OnErr r Q
on_err_then (Ok x) P Q f p = tt
on_err_then (Err e) P Q f p = f p

pub loop-row-init : goal.loop-row-init
loop-row-init g c = record {
  left = rows_back (tree_held c.args.code.now);
  has = c.of-rows.ensures;
  waits = waits_first (rows_back (tree_held c.args.code.now)) c.new-piece.result.items (g.K.Sink.written c.args.out.now) c.new-piece.ensures;
  never_falls = omega arith;
}

pub loop-row-preserved : goal.loop-row-preserved
loop-row-preserved g c =
    let now = c.loop-row.invariant in
    let next = c.in-Some.ensures.row now.left now.has in
    let put = c.in_ok-put_line.ensures.written in
    record {
      left = next.0;
      has = next.2;
      waits = waits_next (table_text (rows_back (tree_held c.args.code.now))) now.left next.0 c.in-Some.row c.loop-row.piece.items c.put_line.new.piece.items put.0 (g.K.Sink.written c.args.out.now) (g.K.Sink.written c.loop-row.out) (g.K.Sink.written c.put_line.new.out) now.waits next.1 put.1 put.2;
      never_falls = omega (arith, now.never_falls, c.put_line.ensures.never_falls);
    }

pub returns-in_err-put_line-clause-err : goal.returns-in_err-put_line-clause-err
returns-in_err-put_line-clause-err g c =
    let now = c.loop-row.invariant in
    on_err c.from_residual.result _ (waits_part (table_text (rows_back (tree_held c.args.code.now))) now.left c.loop-row.piece.items (g.K.Sink.written c.args.out.now) (g.K.Sink.written c.loop-row.out) (g.K.Sink.written c.put_line.new.out) now.waits c.in_err-put_line.ensures.err)

pub returns-clause-all : goal.returns-clause-all
returns-clause-all g c =
    let now = c.loop-row.invariant in
    let mid = g.K.Sink.written c.loop-row.out in
    let new = g.K.Sink.written c.write_all.new.sink in
    on_ok_then c.write_all.result _ _
    (λ put. waits_all (table_text (rows_back (tree_held c.args.code.now))) now.left c.loop-row.piece.items (g.K.Sink.written c.args.out.now) mid new now.waits (c.in_default.ensures.row now.left now.has).0 (subst (Appended mid new) c.as_slice.ensures.value put))
    c.write_all.ensures.all

pub returns-clause-err : goal.returns-clause-err
returns-clause-err g c =
    let now = c.loop-row.invariant in
    let mid = g.K.Sink.written c.loop-row.out in
    let new = g.K.Sink.written c.write_all.new.sink in
    on_err_then c.write_all.result _ _
    (λ part. waits_part (table_text (rows_back (tree_held c.args.code.now))) now.left c.loop-row.piece.items (g.K.Sink.written c.args.out.now) mid new now.waits (subst (AppendedPart mid new) c.as_slice.ensures.value part))
    c.write_all.ensures.err
