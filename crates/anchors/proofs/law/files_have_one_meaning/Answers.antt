use Rattle.wire_num.proofs.ReadingLaws.{AreBytes-all}
use Rattle.anchors.proofs.FileLaws.{AreBytes-between, one_meaning_of}
use Rattle.anchors.proofs.law.files_have_one_meaning.Goals as goal

pub returns : goal.returns
returns c = λ magic bytes _ all. one_meaning_of magic bytes (AreBytes-between bytes (AreBytes-all bytes all))
