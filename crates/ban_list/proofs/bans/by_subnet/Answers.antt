use Rattle.std.proofs.Common.{◌+◌, All, drop, sym, ap, ◌∙◌, subst}
use Rattle.std.specs.List.{fold}
use Rattle.std.specs.Map.{values_of}
use Rattle.ban_list.specs.Bans.{put}
use Rattle.ban_list.proofs.FileLaws.{merged_step}
use Rattle.ban_list.proofs.Merging.{IsOwn, values-inserted, own-inserted}
use Rattle.ban_list.proofs.bans.by_subnet.Goals as goal

pub loop-ban-preserved : goal.loop-ban-preserved
loop-ban-preserved c =
    let i = c.loop-ban.ban-index in
    let bans = c.args.bans.now in
    let ban = c.ban-item.result in
    let es = c.loop-ban.map.entries in
    let made = c.in_ok-insert.ensures.entries in
    record {
      own = subst (All IsOwn) (sym made) (own-inserted ban es c.loop-ban.invariant.own);
      rest = ap (λ xs. fold (λ list b. put b list) xs (drop (i + 1) bans)) (ap values_of made ∙ values-inserted ban es c.loop-ban.invariant.own)
          ∙ merged_step (values_of es) bans i ban c.loop-ban-test.true c.ban-item.is ∙ c.loop-ban.invariant.rest;
    }
