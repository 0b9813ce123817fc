use Rattle.wire_num.proofs.ReadingLaws.{AreBytes-all}
use Rattle.peers_file.proofs.FileLaws.{AreBytes-between, one_meaning_of}
use Rattle.peers_file.proofs.law.files_have_one_meaning.Goals as goal

pub returns : goal.returns
returns c = λ chain bytes all. one_meaning_of chain bytes (AreBytes-between bytes (AreBytes-all bytes all))
