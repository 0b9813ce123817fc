use Rattle.std.proofs.Common.{◌++◌, ◌∙◌, ap, sym, subst, take, drop, length}
use Rattle.std.proofs.lemmas.List.{take_rest}
use Rattle.save_store.specs.Job.{Job}
use Rattle.save_store.proofs.Jobs.{next_same, reads_as, stepped}
use Rattle.host_io.specs.Calls.{IsSaveOf, OnlyCalls, with_call}
use Rattle.host_io.specs.declared.call.Action.TheVariants.{Append}
use Rattle.save_store.proofs.save_job.SaveJob.step.Goals as goal

pub returns-clause-job : goal.returns-clause-job
returns-clause-job g c =
    stepped c.self.inside.temp c.self.inside.bytes c.self.inside.done c.args.count c.in_ok-more.more
    (c.in_ok-more.ensures.count ∙ ap (λ ys. length (take c.args.count ys))
    (take_rest c.items.result.now c.self.inside.done ∙ ap (drop c.self.inside.done) c.items.ensures))
    ∙ ap (λ (j : Job). record {
      temp = j.temp;
      written = j.written ++ take c.args.count j.left;
      left = drop c.args.count j.left;
    }) c.self.view_is

pub returns-clause-reads : goal.returns-clause-reads
returns-clause-reads g c =
    let rest = take_rest c.items.result.now c.self.inside.done ∙ ap (drop c.self.inside.done) c.items.ensures in
    let whole = stepped c.self.inside.temp c.self.inside.bytes c.self.inside.done c.args.count
    c.in_ok-more.more (c.in_ok-more.ensures.count ∙ ap (λ ys. length (take c.args.count ys)) rest) in
    reads_as _ _ _ (sym whole)
    (next_same _ c.self.inside.temp (take c.self.inside.done c.self.inside.bytes) _ _ c.args.count rest
    (c.in_ok-more.ensures.reads (take c.self.inside.done c.self.inside.bytes)
    (reads_as _ _ _ (sym c.self.view_is) c.requires.reads)))

pub returns-clause-order : goal.returns-clause-order
returns-clause-order g c =
    let calls = g.F.Folder.calls c.args.folder.now in
    let rest = take_rest c.items.result.now c.self.inside.done ∙ ap (drop c.self.inside.done) c.items.ensures in
    c.in_ok-more.ensures.order
    ∙ ap (λ bytes. with_call (Append c.self.inside.temp (length (take c.args.count bytes))) calls) rest
    ∙ ap (λ (j : Job). with_call (Append j.temp (length (take c.args.count j.left))) calls) c.self.view_is

pub returns-in_err-more-clause-asks : goal.returns-in_err-more-clause-asks
returns-in_err-more-clause-asks g c name =
    subst (λ (j : Job). OnlyCalls (IsSaveOf j.temp name) (g.F.Folder.calls c.args.folder.now) (g.F.Folder.calls c.write_next.new.folder))
    c.self.view_is (c.write_next.ensures.asks name)
