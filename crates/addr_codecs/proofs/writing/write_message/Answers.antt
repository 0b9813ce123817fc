use Rattle.std.proofs.Common.{length, ◌∙◌}
use Rattle.wire_num.specs.CompactSize.{compact_size}
use Rattle.addr_codecs.specs.Entries.{IsEntry}
use Rattle.addr_codecs.specs.Inside.{text_in}
use Rattle.addr_codecs.proofs.TextLaws.{one_more, one_more_fits, all_written, all_fit}
use Rattle.addr_codecs.proofs.writing.write_message.Goals as goal

pub loop-entry-preserved : goal.loop-entry-preserved
loop-entry-preserved c = record {
  text = one_more (text_in c.args.form) (compact_size (length c.args.entries.now)) c.args.entries.now c.loop-entry.entry-index c.entry-item.result c.loop-entry.out.items c.put_entry.new.out.items c.loop-entry-test.true c.entry-item.is c.loop-entry.invariant.text c.in_ok-put_entry.ensures.found;
  fit = one_more_fits IsEntry c.args.entries.now c.loop-entry.entry-index c.entry-item.result c.loop-entry-test.true c.entry-item.is c.loop-entry.invariant.fit c.in_ok-put_entry.ensures.entry;
}

pub returns-clause-found : goal.returns-clause-found
returns-clause-found c =
    c.of.ensures ∙ all_written (text_in c.args.form) (compact_size (length c.args.entries.now)) c.args.entries.now c.loop-entry.entry-index c.loop-entry.out.items c.loop-entry-test.false c.loop-entry.invariant.text

pub returns-clause-entries : goal.returns-clause-entries
returns-clause-entries c = all_fit IsEntry c.args.entries.now c.loop-entry.entry-index c.loop-entry-test.false c.loop-entry.invariant.fit
