use Rattle.std.proofs.Common.{◌≡◌, ◌<◌, length, get_or, [], Some, sym, ap, ◌∙◌, subst, arith}
use Rattle.std.specs.Prelude.{is_some}
use Rattle.std.specs.List.{position_or_len}
use Rattle.std.proofs.lemmas.List.Sums.{position_or_len_is}
use Rattle.net_addr.specs.declared.net.Net.TheVariants.{Ipv4}
use Rattle.ban_list.specs.Bans.{is_of}
use Rattle.ban_list.specs.declared.ban.Ban.{Ban}
use Rattle.ban_list.proofs.BanLaws.{found_at, found_none}
use Rattle.ban_list.proofs.bans.index_of.Goals as goal

-- the loop stops at the first ban of the subnet
here : (c : goal.Then-is_of) → c.loop-i.i ≡ position_or_len (is_of c.args.subnet.now) c.args.bans.now
here c =
    let p = is_of c.args.subnet.now in
    let ban = c.index-bans-i.result in
    let passes = ap p (sym c.index-bans-i.is) ∙ sym c.is_of.ensures ∙ c.if-is_of.true in
    sym (position_or_len_is p c.args.bans.now c.loop-i.i ban c.loop-i.auto.i-end (λ k lt. c.loop-i.invariant k ban lt) (λ _. passes))

pub returns-then-is_of-clause-first : goal.returns-then-is_of-clause-first
returns-then-is_of-clause-first c = here c

pub returns-then-is_of-clause-within : goal.returns-then-is_of-clause-within
returns-then-is_of-clause-within c = omega (arith, c.loop-i.auto.i-end)

pub returns-then-is_of-clause-found : goal.returns-then-is_of-clause-found
returns-then-is_of-clause-found c = λ d.
    let bans = c.args.bans.now in
    let within : c.loop-i.i < length bans = omega arith in
    found_at (is_of c.args.subnet.now) bans d (subst (λ n. n < length bans) (here c) within) ∙ ap (λ n. Some (get_or bans n d)) (sym (here c))

pub returns-then-is_of-clause-listed : goal.returns-then-is_of-clause-listed
returns-then-is_of-clause-listed c =
    let bans = c.args.bans.now in
    let within : c.loop-i.i < length bans = omega arith in
    sym (ap is_some (found_at (is_of c.args.subnet.now) bans c.index-bans-i.result (subst (λ n. n < length bans) (here c) within)))

blank : Ban
blank = record { subnet = record { addr = record { net = Ipv4; bytes = [] }; len = 0 }; created = 0; until = 0 }

-- the loop passes them all
none : (c : goal.After-loop-i) → length c.args.bans.now ≡ position_or_len (is_of c.args.subnet.now) c.args.bans.now
none c = sym (position_or_len_is (is_of c.args.subnet.now) c.args.bans.now (length c.args.bans.now) blank (omega arith) (λ k lt. c.loop-i.invariant k blank (omega arith)) (λ lt. absurd (omega arith)))

pub returns-clause-past : goal.returns-clause-past
returns-clause-past c = omega (arith, none c)

pub returns-clause-none : goal.returns-clause-none
returns-clause-none c = found_none (is_of c.args.subnet.now) c.args.bans.now (omega (arith, none c))

pub returns-clause-listed : goal.returns-clause-listed
returns-clause-listed c = sym (ap is_some (found_none (is_of c.args.subnet.now) c.args.bans.now (omega (arith, none c))))
