use Rattle.std.proofs.Common.{◌++◌, ap, sym, subst, ◌∙◌}
use Rattle.gen_load.specs.Log.{next_line}
use Rattle.gen_load.specs.Spelling.{without_feed}
use Rattle.addrman_run.specs.Inside.{Replied}
use Rattle.addrman_run.proofs.Generating.{some_more}
use Rattle.addrman_run.proofs.Trials.{tries_line, tries_none}
use Rattle.addrman_run.proofs.trial.replies_to.Goals as goal

pub loop-hasher-init : goal.loop-hasher-init
loop-hasher-init g c = tries_none c.args.session.now c.args.log c.new-hasher.result c.requires.few c.requires.empty c.requires.is_open c.new-hasher.ensures

pub loop-hasher-preserved : goal.loop-hasher-preserved
loop-hasher-preserved g c =
    tries_line c.args.session.now c.args.log c.loop-hasher.log c.next.new.self c.loop-hasher.session c.reply_to.new.session c.loop-hasher.hasher c.add_reply.new.hasher c.loop-hasher.bytes c.in_ok-bytes.bytes
    c.as_slice.result.now c.clear-in-loop-hasher.new.self.items c.as_slice-in-loop-hasher.result.now c.loop-hasher.invariant
    (some_more c.in-Ok-true.field-0 c.loop-hasher.log c.in-Ok-true.field-0-test c.in-Ok-true.ensures.more)
    (c.as_slice.ensures.value ∙ c.in-Ok-true.ensures.text ∙ ap (λ x. x ++ next_line c.loop-hasher.log) c.clear.ensures.items)
    c.in-Ok-true.ensures.lines c.clear-in-loop-hasher.ensures.items
    (subst (λ r. Replied c.loop-hasher.session (without_feed c.as_slice.result.now) c.clear-in-loop-hasher.new.self.items r c.reply_to.new.session) (sym c.as_slice-in-loop-hasher.ensures.value) c.in_ok-reply_to.ensures.step)
    c.reply_to.ensures.is_open c.reply_to.ensures.numbers c.add_reply.ensures.hash c.in_ok-bytes.ensures.bytes
