use Rattle.std.proofs.Common.{◌≡◌, ◌<◌, length, subst, sym, rules}
use Rattle.anchors.specs.Layout.{IsFile, HasFileFault}
use Rattle.anchors.specs.Texts.{file_text}
use Rattle.anchors.proofs.WholeLaws.{is_file, no_fault, short_file}
use Rattle.anchors.proofs.write.write_file.Goals as goal

pub returns-clause-read_back : goal.returns-clause-read_back
unfolding file_text
returns-clause-read_back c =
    let found : c.of.result ≡ file_text c.args.magic c.args.anchors.now = search rules in
    subst (λ t. IsFile c.args.magic t c.args.anchors.now) (sym found) (is_file c.args.magic c.args.anchors.now c.in_ok-put_magic.ensures.four c.requires.few c.in_ok-put_body.ensures.fit)

pub returns-clause-no_fault : goal.returns-clause-no_fault
unfolding file_text
returns-clause-no_fault c =
    let found : c.of.result ≡ file_text c.args.magic c.args.anchors.now = search rules in
    λ fault has. no_fault c.args.magic c.args.anchors.now c.in_ok-put_magic.ensures.four c.requires.few c.in_ok-put_body.ensures.fit fault (subst (λ t. HasFileFault c.args.magic t fault) found has)

pub returns-clause-short : goal.returns-clause-short
unfolding file_text
returns-clause-short c =
    let found : c.of.result ≡ file_text c.args.magic c.args.anchors.now = search rules in
    subst (λ t. length t < 1048576) (sym found) (short_file c.args.magic c.args.anchors.now c.in_ok-put_magic.ensures.four c.requires.few c.in_ok-put_body.ensures.fit)
