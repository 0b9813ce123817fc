use Rattle.std.proofs.Common.{rules, ◌≡◌, ◌∙◌, [], ◌∷◌, length, vec_len, vec_capacity, sym, ap, refl, arith, append-nil}
use Rattle.std.specs.Option.{option_to_list}
use Rattle.std.proofs.lemmas.List.Edits.{length-swap}
use Rattle.picking.proofs.Drawn.{left-next, left-full, left-all}
use Rattle.picking.proofs.drawing.fill_by.Given as given
use Rattle.picking.proofs.drawing.fill_by.Goals as goal
use Rattle.picking.proofs.drawing.fill_by.Goals.{in-Some-select_at, in_default-select_at}

pub returns-then-len-limit-clause-peers : goal.returns-then-len-limit-clause-peers
returns-then-len-limit-clause-peers g c =
    ap (λ s. s.answer) (
    sym (left-full c.args.classes c.args.now c.args.limit c.loop-position.tables c.loop-position.peers.items c.loop-position.position c.loop-position.rest (omega arith))
    ∙ c.loop-position.invariant.rest)

pub returns-then-len-limit-clause-state : goal.returns-then-len-limit-clause-state
returns-then-len-limit-clause-state g c =
    ap (λ s. s.state) (
    sym (left-full c.args.classes c.args.now c.args.limit c.loop-position.tables c.loop-position.peers.items c.loop-position.position c.loop-position.rest (omega arith))
    ∙ c.loop-position.invariant.rest)

-- an exchange keeps the length of the order
swapped_order : (g : given.Over) (c : goal.Joined-select_at g) → length c.select_at.new.tables.order ≡ length c.loop-position.tables.order
swapped_order g c = ap (λ s. length s.order) c.select_at.ensures.state ∙ length-swap c.loop-position.tables.order c.loop-position.position _

pub loop-position-preserved : goal.loop-position-preserved
loop-position-preserved g c = elim c.match-select_at.branch [
  | in-Some-select_at w ↦ record {
    rest =
        sym (left-next c.args.classes c.args.now c.args.limit c.loop-position.tables c.select_at.new.tables c.loop-position.peers.items (w.in-Some-select_at.peer ∷ []) c.match-select_at.peers.items c.loop-position.position c.in-Some.word c.loop-position.rest c.next.new.self
        (search rules) (omega arith) (omega arith) c.select_at.ensures.state (sym (ap option_to_list w.in-Some-select_at.is) ∙ c.select_at.ensures.eligible)
        (ap (λ v. v.items) w.peers-is ∙ w.push_reserved.ensures.items))
        ∙ c.loop-position.invariant.rest;
    few = omega (arith, ap vec_len w.peers-is, w.push_reserved.ensures.len);
    room = omega (arith, ap vec_capacity w.peers-is, w.push_reserved.ensures.capacity);
    order = swapped_order g c ∙ c.loop-position.invariant.order;
    end = c.loop-position.invariant.end ∙ sym (swapped_order g c);
    sound = c.select_at.ensures.sound;
  }
  | in_default-select_at w ↦ record {
    rest =
        sym (left-next c.args.classes c.args.now c.args.limit c.loop-position.tables c.select_at.new.tables c.loop-position.peers.items [] c.match-select_at.peers.items c.loop-position.position c.in-Some.word c.loop-position.rest c.next.new.self
        (search rules) (omega arith) (omega arith) c.select_at.ensures.state (sym (ap option_to_list w.in_default-select_at.is) ∙ c.select_at.ensures.eligible)
        (ap (λ v. v.items) w.peers-is ∙ sym (append-nil c.loop-position.peers.items)))
        ∙ c.loop-position.invariant.rest;
    few = omega (arith, ap vec_len w.peers-is);
    room = omega (arith, ap vec_capacity w.peers-is);
    order = swapped_order g c ∙ c.loop-position.invariant.order;
    end = c.loop-position.invariant.end ∙ sym (swapped_order g c);
    sound = c.select_at.ensures.sound;
  }
]

pub returns-clause-peers : goal.returns-clause-peers
returns-clause-peers g c =
    ap (λ s. s.answer) (
    sym (left-all c.args.classes c.args.now c.args.limit c.loop-position.tables c.loop-position.peers.items c.loop-position.position c.loop-position.rest (omega arith))
    ∙ c.loop-position.invariant.rest)

pub returns-clause-state : goal.returns-clause-state
returns-clause-state g c =
    ap (λ s. s.state) (
    sym (left-all c.args.classes c.args.now c.args.limit c.loop-position.tables c.loop-position.peers.items c.loop-position.position c.loop-position.rest (omega arith))
    ∙ c.loop-position.invariant.rest)
