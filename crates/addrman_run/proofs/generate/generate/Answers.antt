use Rattle.std.proofs.Common.{◌∙◌, arith}
use Rattle.gen_load.specs.Log.{log}
use Rattle.addrman_run.proofs.Generating.{some_more, none_left, writes_line, writes_end, writes_first, writes_part, writes_prefix}
use Rattle.addrman_run.proofs.generate.generate.Goals as goal

pub returns-in-Err-clause-text : goal.returns-in-Err-clause-text
returns-in-Err-clause-text g c =
    writes_prefix (log c.args.start c.args.lines) c.loop-piece.log c.loop-piece.piece.items (g.K.Sink.written c.args.out.now) (g.K.Sink.written c.loop-piece.out) c.loop-piece.invariant.writing

pub loop-piece-preserved : goal.loop-piece-preserved
loop-piece-preserved g c =
    let all = log c.args.start c.args.lines in
    let old = g.K.Sink.written c.args.out.now in
    let mid = g.K.Sink.written c.loop-piece.out in
    let some = some_more c.in-Ok-true.field-0 c.loop-piece.log c.in-Ok-true.field-0-test c.in-Ok-true.ensures.more in
    let waits = writes_line all c.loop-piece.log c.next.new.self c.loop-piece.piece.items c.next.new.out.items old mid c.loop-piece.invariant.writing some c.in-Ok-true.ensures.text c.in-Ok-true.ensures.lines in
    let cut = c.in-Ok-write_piece.ensures.written in
    record {
      writing = writes_first all c.next.new.self c.next.new.out.items c.write_piece.new.piece.items cut.0 old mid (g.K.Sink.written c.write_piece.new.out) waits cut.1 cut.2;
      never_falls = omega (arith, c.loop-piece.invariant.never_falls, c.write_piece.ensures.never_falls);
    }

pub returns-in-Err-write_piece-clause-text : goal.returns-in-Err-write_piece-clause-text
returns-in-Err-write_piece-clause-text g c =
    let all = log c.args.start c.args.lines in
    let old = g.K.Sink.written c.args.out.now in
    let mid = g.K.Sink.written c.loop-piece.out in
    let some = some_more c.in-Ok-true.field-0 c.loop-piece.log c.in-Ok-true.field-0-test c.in-Ok-true.ensures.more in
    let waits = writes_line all c.loop-piece.log c.next.new.self c.loop-piece.piece.items c.next.new.out.items old mid c.loop-piece.invariant.writing some c.in-Ok-true.ensures.text c.in-Ok-true.ensures.lines in
    writes_part all c.next.new.self c.next.new.out.items old mid (g.K.Sink.written c.write_piece.new.out) waits c.in-Err-write_piece.ensures.err

pub returns-clause-text : goal.returns-clause-text
returns-clause-text g c =
    let all = log c.args.start c.args.lines in
    let old = g.K.Sink.written c.args.out.now in
    let mid = g.K.Sink.written c.loop-piece.out in
    writes_part all c.loop-piece.log c.as_slice.result.now old mid (g.K.Sink.written c.write_all.new.sink)
    (writes_end all c.loop-piece.log c.loop-piece.piece.items c.as_slice.result.now old mid c.loop-piece.invariant.writing (none_left c.in-Ok-false.field-0 c.loop-piece.log c.in-Ok-false.field-0-test c.in-Ok-false.ensures.more) (c.as_slice.ensures.value ∙ c.in-Ok-false.ensures.text))
    c.in-Err-write_all.ensures.err
