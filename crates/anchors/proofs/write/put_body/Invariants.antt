use Rattle.std.proofs.Common.{◌≡◌, ◌++◌, take, All}
use Rattle.std.specs.List.{flat_map}
use Rattle.addr_codecs.specs.Entries.{IsEntry}
use Rattle.anchors.specs.Texts.{anchor_text}
use Rattle.anchors.proofs.write.put_body.Given as goal

abbrev pub invariant-loop-anchor : goal.invariant-loop-anchor
invariant-loop-anchor l = record {
  text : l.out.items ≡ l.initial.out.items ++ flat_map anchor_text (take l.anchor-index l.anchors);
  fit : All IsEntry (take l.anchor-index l.anchors);
}
