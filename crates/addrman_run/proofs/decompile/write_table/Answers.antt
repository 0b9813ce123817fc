use Rattle.std.proofs.Common.{rules, refl}
use Rattle.asmap_vm.specs.Held.{tree_held}
use Rattle.prefix_table.specs.Print.{table_text}
use Rattle.asmap_back.specs.Back.{rows_back}
use Rattle.placing.specs.Inside.{asmap_of}
use Rattle.addrman_run.proofs.Asmaps.{checked}
use Rattle.addrman_run.proofs.decompile.write_table.Goals as goal

pub returns-then-not-fits_table-clause-text : goal.returns-then-not-fits_table-clause-text
returns-then-not-fits_table-clause-text g c = λ past loaded. (
  (
    asmap_of c.in-Ok.asmap,
    checked past c.in-Ok.asmap c.args.bytes.now loaded c.in-Ok.ensures.sane,
    c.fits_table.ensures.many (search rules),
  ),
  refl,
)

pub returns-in-Ok-write_rows-clause-text : goal.returns-in-Ok-write_rows-clause-text
returns-in-Ok-write_rows-clause-text g c = λ past loaded. (
  table_text (rows_back (tree_held c.in-Ok.asmap)),
  (
    asmap_of c.in-Ok.asmap,
    checked past c.in-Ok.asmap c.args.bytes.now loaded c.in-Ok.ensures.sane,
    c.fits_table.ensures.few (search rules),
    c.fits_table.ensures.best (search rules),
    refl,
  ),
  c.in-Ok-write_rows.ensures.all,
)

pub returns-in-Err-write_rows-clause-text : goal.returns-in-Err-write_rows-clause-text
returns-in-Err-write_rows-clause-text g c = λ past loaded. (
  table_text (rows_back (tree_held c.in-Ok.asmap)),
  (
    asmap_of c.in-Ok.asmap,
    checked past c.in-Ok.asmap c.args.bytes.now loaded c.in-Ok.ensures.sane,
    c.fits_table.ensures.few (search rules),
    c.fits_table.ensures.best (search rules),
    refl,
  ),
  c.in-Err-write_rows.ensures.err,
)
