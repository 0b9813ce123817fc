use Rattle.std.proofs.Common.{◌<◌, length, refl, arith, ◌∙◌}
use Rattle.std.proofs.lemmas.List.{drop-set-lt}
use Rattle.std.proofs.lemmas.Option.{slice_get_read}
use Rattle.c_values.specs.Entries.{IsEntry}
use Rattle.c_values.proofs.Lists.{more, all}
use Rattle.c_values.proofs.entries.put_start.Goals as goal

pub loop-i-preserved : goal.loop-i-preserved
loop-i-preserved c =
    let below : c.loop-i.i < length c.args.entries.now = omega (arith, c.loop-i-test.true) in
    let within : c.loop-i.i < length c.loop-i.out = omega (arith, below, c.loop-i.auto.out, c.requires) in (
      more IsEntry c.loop-i.i c.loop-i.out c.args.entries.now c.write_entry.result c.index-entries-i.result
          c.loop-i.invariant.0 within (slice_get_read c.args.entries.now _ c.loop-i.i c.index-entries-i.result refl below c.index-entries-i.is) c.write_entry.ensures,
      drop-set-lt (length c.args.entries.now) c.loop-i.out c.loop-i.i c.write_entry.result below ∙ c.loop-i.invariant.1,
    )

pub returns-clause-told : goal.returns-clause-told
returns-clause-told c = (
  omega (arith, c.loop-i.auto.out, c.requires),
  all IsEntry c.loop-i.i c.loop-i.out c.args.entries.now c.loop-i.invariant.0 (omega (arith, c.loop-i-test.false)),
)

pub returns-clause-rest : goal.returns-clause-rest
returns-clause-rest c = c.loop-i.invariant.1
