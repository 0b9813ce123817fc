use Rattle.std.proofs.Common.{◌∷◌, ◌++◌, [], All, map, sym, ap, ◌∙◌, subst, arith}
use Rattle.std.proofs.lemmas.List.{take_all}
use Rattle.std.proofs.lemmas.List.Elements.{All-more}
use Rattle.serde_json.specs.View.{view}
use Rattle.ban_list.specs.BanFile.{IsReadBack, ban_data}
use Rattle.ban_list.proofs.FileLaws.{next_elements, map-append}
use Rattle.ban_list.proofs.write_file.elements_of.Goals as goal

pub loop-ban-preserved : goal.loop-ban-preserved
loop-ban-preserved c =
    let i = c.loop-ban.ban-index in
    let bans = c.args.bans.now in
    let ban = c.ban-item.result in
    record {
      values = ap (map view) c.in_ok-push.ensures.ok ∙ map-append view c.loop-ban.elements.items (c.in_ok-element.element ∷ []) ∙ (λ j. c.loop-ban.invariant.values j ++ c.in_ok-element.ensures.value j ∷ []) ∙ sym (next_elements ban_data bans i ban c.loop-ban-test.true c.ban-item.is);
      back = All-more IsReadBack bans i ban c.loop-ban-test.true c.loop-ban.invariant.back (subst IsReadBack c.ban-item.is c.in_ok-element.ensures.reads_back);
    }

pub returns-clause-reads_back : goal.returns-clause-reads_back
returns-clause-reads_back c = subst (All IsReadBack) (take_all c.loop-ban.ban-index c.args.bans.now (omega arith)) c.loop-ban.invariant.back
