use Rattle.std.proofs.Common.{◌≡◌, ◌<◌, length, subst, sym, rules}
use Rattle.peers_file.specs.Layout.{IsFile, HasFileFault}
use Rattle.peers_file.specs.Texts.{file_text}
use Rattle.peers_file.proofs.WholeLaws.{is_file, no_fault, short_file}
use Rattle.peers_file.proofs.write.write_file.Goals as goal

pub returns-clause-read_back : goal.returns-clause-read_back
unfolding file_text
returns-clause-read_back c =
    let found : c.of.result ≡ file_text c.args.chain c.args.snap.now = search rules in
    subst (λ t. IsFile c.args.chain t c.args.snap.now) (sym found) (is_file c.args.chain c.args.snap.now c.in_ok-put_body.ensures.written)

pub returns-clause-no_fault : goal.returns-clause-no_fault
unfolding file_text
returns-clause-no_fault c =
    let found : c.of.result ≡ file_text c.args.chain c.args.snap.now = search rules in
    λ fault has. no_fault c.args.chain c.args.snap.now c.in_ok-put_body.ensures.written fault (subst (λ t. HasFileFault c.args.chain t fault) found has)

pub returns-clause-short : goal.returns-clause-short
unfolding file_text
returns-clause-short c =
    let found : c.of.result ≡ file_text c.args.chain c.args.snap.now = search rules in
    subst (λ t. length t < 33554432) (sym found) (short_file c.args.chain c.args.snap.now c.in_ok-put_body.ensures.written)
