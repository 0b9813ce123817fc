use Rattle.std.proofs.Common.{◌≡◌, ◌∙◌, [], ◌∷◌, length, get_or, vec_len, vec_capacity, sym, ap, refl, arith, append-nil}
use Rattle.std.specs.Option.{option_to_list}
use Rattle.std.proofs.lemmas.List.Edits.{length-swap}
use Rattle.picking.proofs.Samples.{sofar-next, sofar-full, sofar-all}
use Rattle.picking.proofs.sampling.fill.Given as given
use Rattle.picking.proofs.sampling.fill.Goals as goal
use Rattle.picking.proofs.sampling.fill.Goals.{in-Some, in_default}

pub returns-then-len-limit-clause-peers : goal.returns-then-len-limit-clause-peers
returns-then-len-limit-clause-peers g c =
    ap (λ s. s.answer) (
    sym (sofar-full c.args.classes c.args.now c.args.limit c.args.words.now c.loop-position.tables c.loop-position.peers.items c.loop-position.position (omega arith))
    ∙ c.loop-position.invariant.rest)

pub returns-then-len-limit-clause-state : goal.returns-then-len-limit-clause-state
returns-then-len-limit-clause-state g c =
    ap (λ s. s.state) (
    sym (sofar-full c.args.classes c.args.now c.args.limit c.args.words.now c.loop-position.tables c.loop-position.peers.items c.loop-position.position (omega arith))
    ∙ c.loop-position.invariant.rest)

-- an exchange keeps the length of the order
swapped_order : (g : given.Over) (c : goal.Joined-select_at g) → length c.select_at.new.tables.order ≡ length c.loop-position.tables.order
swapped_order g c = ap (λ s. length s.order) c.select_at.ensures.state ∙ length-swap c.loop-position.tables.order c.loop-position.position _

same_order : (g : given.Over) (c : goal.Joined-select_at g) → length c.select_at.new.tables.order ≡ length c.args.tables.now.order
same_order g c = swapped_order g c ∙ c.loop-position.invariant.order

pub loop-position-preserved : goal.loop-position-preserved
loop-position-preserved g c = elim c.match-select_at.branch [
  | in-Some w ↦ record {
    rest =
        sym (sofar-next c.args.classes c.args.now c.args.limit c.args.words.now c.loop-position.tables c.select_at.new.tables c.loop-position.peers.items (w.in-Some.peer ∷ []) c.match-select_at.peers.items c.loop-position.position (get_or c.args.words.now c.loop-position.position 0)
        (omega arith) (omega arith) (omega arith) refl c.select_at.ensures.state (sym (ap option_to_list w.in-Some.is) ∙ c.select_at.ensures.eligible)
        (ap (λ v. v.items) w.peers-is ∙ w.push_reserved.ensures.items))
        ∙ c.loop-position.invariant.rest;
    few = omega (arith, ap vec_len w.peers-is, w.push_reserved.ensures.len);
    room = omega (arith, ap vec_capacity w.peers-is, w.push_reserved.ensures.capacity);
    order = same_order g c;
    end = c.loop-position.invariant.end ∙ sym (swapped_order g c);
    sound = c.select_at.ensures.sound;
  }
  | in_default w ↦ record {
    rest =
        sym (sofar-next c.args.classes c.args.now c.args.limit c.args.words.now c.loop-position.tables c.select_at.new.tables c.loop-position.peers.items [] c.match-select_at.peers.items c.loop-position.position (get_or c.args.words.now c.loop-position.position 0)
        (omega arith) (omega arith) (omega arith) refl c.select_at.ensures.state (sym (ap option_to_list w.in_default.is) ∙ c.select_at.ensures.eligible)
        (ap (λ v. v.items) w.peers-is ∙ sym (append-nil c.loop-position.peers.items)))
        ∙ c.loop-position.invariant.rest;
    few = omega (arith, ap vec_len w.peers-is);
    room = omega (arith, ap vec_capacity w.peers-is);
    order = same_order g c;
    end = c.loop-position.invariant.end ∙ sym (swapped_order g c);
    sound = c.select_at.ensures.sound;
  }
]

pub returns-clause-peers : goal.returns-clause-peers
returns-clause-peers g c =
    ap (λ s. s.answer) (
    sym (sofar-all c.args.classes c.args.now c.args.limit c.args.words.now c.loop-position.tables c.loop-position.peers.items c.loop-position.position (omega arith))
    ∙ c.loop-position.invariant.rest)

pub returns-clause-state : goal.returns-clause-state
returns-clause-state g c =
    ap (λ s. s.state) (
    sym (sofar-all c.args.classes c.args.now c.args.limit c.args.words.now c.loop-position.tables c.loop-position.peers.items c.loop-position.position (omega arith))
    ∙ c.loop-position.invariant.rest)
