use Rattle.std.proofs.Common.{◌≡◌, ◌≤◌, Some, All, codes, map, sym, ap, ◌∙◌, subst}
use Rattle.serde_json.specs.Data.{object, member, array, no_members}
use Rattle.serde_json.specs.Read.{read, max_depth}
use Rattle.serde_json.specs.View.{view, items_of}
use Rattle.serde_json.specs.Written.{compact_text, has_float}
use Rattle.serde_json.specs.Data.{depth}
use Rattle.ban_list.specs.BanFile.{IsReadBack, ban_data, file_data, bans_text}
use Rattle.ban_list.proofs.WriteLaws.{file_back, file_shallow, file_whole}
use Rattle.ban_list.proofs.write_file.write_bans.Goals as goal

pub returns-clause-text : goal.returns-clause-text
unfolding bans_text
returns-clause-text c =
    let bans = c.args.bans.now in
    let value : view c.in_ok-file.file ≡ file_data bans =
    c.in_ok-file.ensures ∙ ap (λ ds. object (member (codes "banned_nets") (array (items_of ds)) no_members)) (c.in_ok-elements.ensures.values ∙ ap (map ban_data) c.bans.ensures.value) in
    c.bytes_of.ensures.value ∙ c.in_ok-text.ensures.text (ap has_float value ∙ file_whole bans) ∙ ap compact_text value

pub returns-clause-reads_back : goal.returns-clause-reads_back
returns-clause-reads_back c =
    let bans = c.args.bans.now in
    let value : view c.in_ok-file.file ≡ file_data bans =
    c.in_ok-file.ensures ∙ ap (λ ds. object (member (codes "banned_nets") (array (items_of ds)) no_members)) (c.in_ok-elements.ensures.values ∙ ap (map ban_data) c.bans.ensures.value) in
    let bytes = c.bytes_of.ensures.value in
    let back = subst (All IsReadBack) c.bans.ensures.value c.in_ok-elements.ensures.reads_back in
    let shallow = subst (λ d. depth d ≤ max_depth) (sym value) (file_shallow bans) in
    file_back c.bytes_of.result bans c.bans.ensures.sound back c.bytes_of.ensures.utf8 (ap read bytes ∙ c.in_ok-text.ensures.reads_back shallow ∙ ap Some value)
