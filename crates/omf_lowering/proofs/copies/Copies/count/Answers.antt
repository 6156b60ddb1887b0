use Rattle.std.proofs.Common.{rules, ◌≤◌, ◌∙◌, ap, length}
use Rattle.omf_lowering.proofs.TurnLaws.{counted_end}
use Rattle.omf_lowering.proofs.copies.Copies.count.Goals as goal

pub returns : goal.returns
returns c =
    let end : length c.deref-turn-items.result.now ≤ c.loop-turn.turn-index = search rules in
    counted_end c.args.self.now c.deref-turn-items.result.now c.loop-turn.turn-index c.loop-turn.count (c.deref-turn-items.ensures.value ∙ ap (λ p. p.turns) c.self.view_is) end c.loop-turn.invariant
