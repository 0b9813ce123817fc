use Rattle.std.proofs.Common.{◌≡◌, ◌∙◌, ap, sym, refl, subst, take, option_map}
use Rattle.std.specs.Prelude.{IfSome}
use Rattle.limiter.specs.State.{find_conn}
use Rattle.limiter.specs.Tokens.{refill, intake, intake_count}
use Rattle.limiter.specs.Calls.{after_message}
use Rattle.limiter.specs.Inside.{conns_of}
use Rattle.limiter.proofs.Messages.{message_is, first_are}
use Rattle.limiter.proofs.Written.{found_conn}
use Rattle.limiter.proofs.limiter.Limiter.admit.Goals as goal

pub returns-clause-entries : goal.returns-clause-entries
returns-clause-entries g c = λ entries many.
    let es = c.self.inside.conns.entries in
    c.admit_in.ensures.conns
    ∙ message_is c.args.now c.args.count entries (conns_of es) (find_conn c.args.number (conns_of es)) (found_conn c.args.number es c.self.invariant) many
    ∙ ap (λ conns. after_message c.args.now entries (find_conn c.args.number conns) conns) c.self.view_is

pub returns-clause-first : goal.returns-clause-first
returns-clause-first g c = λ entries many conn found.
    subst (λ o. IfSome o (λ n. intake (refill c.args.now conn) entries ≡ take n entries))
    (sym (c.admit_in.ensures.answer ∙ ap (option_map (λ d. intake_count (refill c.args.now d) c.args.count)) (ap (find_conn c.args.number) c.self.view_is ∙ found)))
    (first_are c.args.now c.args.count entries conn _ many refl)
