use Rattle.std.proofs.Common.{◌<◌, length, refl, arith, ◌∙◌}
use Rattle.std.proofs.lemmas.List.{drop-set-lt}
use Rattle.std.proofs.lemmas.Option.{slice_get_read}
use Rattle.c_values.specs.Records.{IsRecord}
use Rattle.c_values.proofs.Lists.{more, all}
use Rattle.c_values.proofs.records.put_start.Goals as goal

pub loop-i-preserved : goal.loop-i-preserved
loop-i-preserved c =
    let below : c.loop-i.i < length c.args.recs.now = omega (arith, c.loop-i-test.true) in
    let within : c.loop-i.i < length c.loop-i.out = omega (arith, below, c.loop-i.auto.out, c.requires) in (
      more IsRecord c.loop-i.i c.loop-i.out c.args.recs.now c.write_record.result c.index-recs-i.result
          c.loop-i.invariant.0 within (slice_get_read c.args.recs.now _ c.loop-i.i c.index-recs-i.result refl below c.index-recs-i.is) c.write_record.ensures,
      drop-set-lt (length c.args.recs.now) c.loop-i.out c.loop-i.i c.write_record.result below ∙ c.loop-i.invariant.1,
    )

pub returns-clause-told : goal.returns-clause-told
returns-clause-told c = (
  omega (arith, c.loop-i.auto.out, c.requires),
  all IsRecord c.loop-i.i c.loop-i.out c.args.recs.now c.loop-i.invariant.0 (omega (arith, c.loop-i-test.false)),
)

pub returns-clause-rest : goal.returns-clause-rest
returns-clause-rest c = c.loop-i.invariant.1
