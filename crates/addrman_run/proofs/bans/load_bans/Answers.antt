use Rattle.std.proofs.Common.{subst}
use Rattle.std.specs.Prelude.{MatchOption}
use Rattle.host_io.specs.declared.name.Name.TheVariants as name
use Rattle.addrman_run.specs.InFolder.{IsAbsent}
use Rattle.addrman_run.specs.Inside.{IsLoaded}
use Rattle.addrman_run.specs.declared.input.Input.TheVariants as input
use Rattle.addrman_run.proofs.Banning.{read_in, none_in, not_read, never_disk, not_loaded_bans}
use Rattle.addrman_run.proofs.bans.load_bans.Goals as goal

pub returns-in-Ok-Some-clause-found : goal.returns-in-Ok-Some-clause-found
returns-in-Ok-Some-clause-found g c =
    let old = g.F.Folder.past c.args.folder.now in
    let loaded = subst (λ o. MatchOption o (IsAbsent name.Bans old) (IsLoaded input.Bans old)) c.in-Ok-Some.field-0-is c.in-Ok-Some.ensures.found in
    read_in c.args.rule old _ c.read_list.result (λ x. x.file) (λ x. x.bans) loaded c.read_list.ensures.file c.read_list.ensures.found

pub returns-in-Ok-Some-clause-cause : goal.returns-in-Ok-Some-clause-cause
returns-in-Ok-Some-clause-cause g c =
    let old = g.F.Folder.past c.args.folder.now in
    let loaded = subst (λ o. MatchOption o (IsAbsent name.Bans old) (IsLoaded input.Bans old)) c.in-Ok-Some.field-0-is c.in-Ok-Some.ensures.found in
    not_read c.args.rule old _ c.read_list.result loaded c.read_list.ensures.cause

pub returns-in-Ok-Some-clause-disk : goal.returns-in-Ok-Some-clause-disk
returns-in-Ok-Some-clause-disk g c =
    (c.load_input.ensures.disk.0, λ is. absurd (never_disk c.args.rule _ c.read_list.result c.read_list.ensures.cause is))

pub returns-in-Ok-None-clause-found : goal.returns-in-Ok-None-clause-found
returns-in-Ok-None-clause-found g c =
    none_in c.args.rule (g.F.Folder.past c.args.folder.now) c.in-Ok-None.field-0 _ c.in-Ok-None.field-0-is c.make.ensures c.in-Ok-None.ensures.found

pub returns-in-Err-clause-cause : goal.returns-in-Err-clause-cause
returns-in-Err-clause-cause g c = not_loaded_bans c.args.rule (g.F.Folder.past c.args.folder.now) _ c.in-Err.ensures.cause
