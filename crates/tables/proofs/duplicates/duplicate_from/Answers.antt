use Rattle.std.proofs.Common.{rules, ◌∙◌, ◌++◌, take, sym, subst, arith, length, ◌<◌, All}
use Rattle.std.proofs.lemmas.List.{take_all}
use Rattle.std.proofs.lemmas.List.Elements.{All-more}
use Rattle.peer_rec.specs.Snapshot.{IsFileRec}
use Rattle.tables.proofs.Scans.{scan-all, scan-found, scan-more, scan-none, scan-start}
use Rattle.tables.proofs.duplicates.duplicate_from.Goals as goal

pub loop-rec-init : goal.loop-rec-init
loop-rec-init g c = record {
  scanned = λ earlier are. scan-start earlier c.args.recs.now c.args.start c.args.peers.now are;
  fit = λ k d within. absurd (omega arith);
  few = omega arith;
  steps = omega arith;
}

pub returns-then-branch-clause-found : goal.returns-then-branch-clause-found
returns-then-branch-clause-found g c earlier are =
    let l = c.loop-rec in
    let scanned = l.invariant.scanned earlier are in
    scan-found earlier c.args.recs.now c.args.start l.peers l.rec-index l.at c.rec-item.result scanned (search rules) c.rec-item.is
    (sym (c.in_ok-is_repeated.ensures.repeated (earlier ++ take l.rec-index c.args.recs.now) scanned.are) ∙ c.if-branch.true)

pub loop-rec-preserved : goal.loop-rec-preserved
loop-rec-preserved g c =
    let l = c.loop-rec in
    let r = c.rec-item.result in
    let within : l.rec-index < length c.args.recs.now = search rules in
    record {
      scanned = λ earlier are.
          (let scanned = l.invariant.scanned earlier are in
          let done = earlier ++ take l.rec-index c.args.recs.now in
          scan-more earlier c.args.recs.now c.args.start l.peers l.rec-index l.at r scanned within c.rec-item.is c.is_repeated.new.peers
          (sym (c.in_ok-is_repeated.ensures.repeated done scanned.are) ∙ c.if-branch.false)
          (c.in_ok-is_repeated.ensures.all done scanned.are c.if-branch.false));
      fit = All-more IsFileRec c.args.recs.now l.rec-index r within l.invariant.fit (subst IsFileRec c.rec-item.is c.in_ok-is_repeated.ensures.fit);
      few = omega (arith, l.invariant.few);
      steps = omega (arith, l.invariant.steps, c.is_repeated.ensures.steps);
    }

pub returns-clause-found : goal.returns-clause-found
returns-clause-found g c earlier are =
    let l = c.loop-rec in
    scan-none earlier c.args.recs.now c.args.start l.peers l.rec-index l.at (l.invariant.scanned earlier are) (search rules)

pub returns-clause-all : goal.returns-clause-all
returns-clause-all g c earlier are none =
    let l = c.loop-rec in
    scan-all earlier c.args.recs.now c.args.start l.peers l.rec-index l.at (l.invariant.scanned earlier are) (search rules)

pub returns-clause-fit : goal.returns-clause-fit
returns-clause-fit g c none =
    let l = c.loop-rec in
    subst (λ rs. All IsFileRec rs) (take_all l.rec-index c.args.recs.now (search rules)) l.invariant.fit
