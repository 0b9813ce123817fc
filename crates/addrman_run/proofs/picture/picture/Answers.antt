use Rattle.std.proofs.Common.{◌≡◌, subst}
use Rattle.peers_file.specs.declared.chain.Chain.{Chain}
use Rattle.addrman_run.proofs.Picturing.{drawn}
use Rattle.addrman_run.specs.Picture.{HaveAddresses, picture_for}
use Rattle.addrman_run.specs.TextOut.{TextOut}
use Rattle.addrman_run.specs.Views.{IsViewText, ReportsView}
use Rattle.addrman_run.proofs.picture.picture.Goals as goal

pub returns-clause-text : goal.returns-clause-text
returns-clause-text g c =
    let past = g.F.Folder.past c.args.folder.now in
    let old = g.K.Sink.written c.args.out.now in
    let new = g.K.Sink.written c.write_view.new.out in
    drawn c.args.colours c.args.from past old new c.write_view.result
    (subst (λ (chain : Chain). TextOut (IsViewText (λ view text. (text ≡ picture_for c.args.colours chain view) × HaveAddresses c.args.colours) c.args.from) (ReportsView c.args.from) past old new c.write_view.result)
    c.chain_of-chain.ensures c.write_view.ensures.text)
