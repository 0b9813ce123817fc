use Rattle.std.proofs.Common.{◌≡◌, ◌<◌, ◌≤◌, length, get_or, Some, arith, ap, ◌∙◌, subst, sym}
use Rattle.std.specs.Prelude.{slice_set}
use Rattle.std.specs.List.{position_or_len}
use Rattle.ban_list.specs.Bans.{is_of, listed}
use Rattle.ban_list.proofs.BanLaws.{put-found, put-last, reply_outcome-longer, reply_outcome-new}
use Rattle.ban_list.proofs.bans.put_longer.Goals as goal

pub returns-in-Some-clause-bans : goal.returns-in-Some-clause-bans
returns-in-Some-clause-bans c =
    let bans = c.args.bans.now.items in
    let new = c.args.ban in
    let index = c.in-Some.index in
    let same : c.deref.result.now ≡ bans = c.deref.ensures.value in
    let first = c.in-Some.ensures.first ∙ ap (position_or_len (is_of new.subnet)) same in
    let old = c.index.result.now in
    let is = ap (listed new.subnet) (sym same) ∙ c.in-Some.ensures.found old ∙ ap (λ bs. Some (get_or bs index old)) same ∙ ap Some (sym c.index.ensures) in
    ap (λ n. slice_set bans n new) first
    ∙ sym (put-found new bans (subst (λ n. n < length bans) first (subst (λ bs. index < length bs) same c.in-Some.ensures.within)))
    ∙ sym (reply_outcome-longer new old bans is (sym c.lasts_until.ensures ∙ c.if-lasts_until.false))

pub returns-clause-bans : goal.returns-clause-bans
returns-clause-bans c =
    let bans = c.args.bans.now.items in
    let new = c.args.ban in
    let same : c.deref.result.now ≡ bans = c.deref.ensures.value in
    let is = ap (listed new.subnet) (sym same) ∙ c.in_default.ensures.none in
    let room : length bans < 100000 = omega (arith, c.if-len-ge-MAX_BANS.false, c.len.ensures, c.deref.ensures.len, ap length same) in
    c.push_reserved.ensures.items
    ∙ sym (put-last new bans (subst (λ bs. length bs ≤ position_or_len (is_of new.subnet) bs) same c.in_default.ensures.past))
    ∙ sym (reply_outcome-new new bans is room)
