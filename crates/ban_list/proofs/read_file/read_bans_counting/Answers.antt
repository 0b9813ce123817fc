use Rattle.std.proofs.Common.{◌<◌, ◌≤◌, length, map, sym, ap, ◌∙◌, rules}
use Rattle.serde_json.specs.View.{view}
use Rattle.ban_list.specs.BanFile.{merged}
use Rattle.ban_list.specs.declared.bans.TheConstants.{MAX_BANS}
use Rattle.ban_list.specs.declared.fault.BanFault.TheVariants.{TooMany}
use Rattle.ban_list.proofs.FileLaws.{one_file, no_fault, file_of, many_of}
use Rattle.ban_list.proofs.read_file.read_bans_counting.Goals as goal

pub returns-then-is_too_many-clause-only : goal.returns-then-is_too_many-clause-only
returns-then-is_too_many-clause-only c = λ bans h.
    let counted = c.in_ok-counted.counted.items in
    let many : MAX_BANS < length counted = search rules in
    let fault = many_of c.args.rule c.args.bytes.now (view c.in-Ok.value) (map view c.in-Some.elements.now) counted c.in-Ok.ensures.ok (sym c.in-Some.ensures) c.in_ok-counted.ensures.counted many in
    absurd (no_fault c.args.rule c.args.bytes.now bans TooMany h fault)

pub returns-clause-only : goal.returns-clause-only
returns-clause-only c = λ bans h.
    let counted = c.in_ok-counted.counted.items in
    let few : length counted ≤ MAX_BANS = search rules in
    let file = file_of c.args.rule c.args.bytes.now (view c.in-Ok.value) (map view c.in-Some.elements.now) counted c.in_ok-bans.bans c.in-Ok.ensures.ok (sym c.in-Some.ensures) c.in_ok-counted.ensures.counted few (c.in_ok-bans.ensures ∙ ap merged c.as_slice.ensures.value) in
    one_file c.args.rule c.args.bytes.now c.in_ok-bans.bans bans file h

pub returns-clause-exact : goal.returns-clause-exact
returns-clause-exact c = λ first h.
    let counted = c.in_ok-counted.counted.items in
    let few : length counted ≤ MAX_BANS = search rules in
    let file = file_of c.args.rule c.args.bytes.now (view c.in-Ok.value) (map view c.in-Some.elements.now) counted c.in_ok-bans.bans c.in-Ok.ensures.ok (sym c.in-Some.ensures) c.in_ok-counted.ensures.counted few (c.in_ok-bans.ensures ∙ ap merged c.as_slice.ensures.value) in
    no_fault c.args.rule c.args.bytes.now c.in_ok-bans.bans first file h
