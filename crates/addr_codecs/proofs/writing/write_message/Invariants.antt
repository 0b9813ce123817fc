use Rattle.std.proofs.Common.{◌≡◌, ◌++◌, length, take, All}
use Rattle.std.specs.List.{flat_map}
use Rattle.wire_num.specs.CompactSize.{compact_size}
use Rattle.addr_codecs.specs.Entries.{IsEntry}
use Rattle.addr_codecs.specs.Inside.{text_in}
use Rattle.addr_codecs.proofs.writing.write_message.Given as goal

abbrev pub invariant-loop-entry : goal.invariant-loop-entry
invariant-loop-entry l = record {
  text : l.out.items ≡ compact_size (length l.entries) ++ flat_map (text_in l.form) (take l.entry-index l.entries);
  fit : All IsEntry (take l.entry-index l.entries);
}
