use Rattle.ban_laws.proofs.Own.{parsed_name, read_names, read_times}
use Rattle.ban_laws.proofs.law.read_bans_have_names.Goals as goal

pub returns-clause-parsed : goal.returns-clause-parsed
returns-clause-parsed c text s is = parsed_name text s is

pub returns-clause-names : goal.returns-clause-names
returns-clause-names c bytes bans file = read_names bytes bans file

pub returns-clause-times : goal.returns-clause-times
returns-clause-times c bytes bans file = read_times bytes bans file
