use Rattle.std.proofs.Common.{◌≡◌, ◌++◌, ◌∷◌, [], rules, subst, sym}
use Rattle.omf_lowering.specs.Inner.Laid.{AreLaid}
use Rattle.omf_lowering.proofs.HolderLaws.{laid_more}
use Rattle.omf_lowering.proofs.laid.Pieces.push.Goals as goal

pub invariant_of-self-2 : goal.invariant_of-self-2
invariant_of-self-2 c =
    let i = c.self.inside in
    let grown : c.push_reserved.new.self.items ≡ i.items.items ++ c.args.piece ∷ [] = search rules in
    subst (AreLaid c.note_end.new.ends.items i.holders.numbers i.held) (sym grown) (laid_more i.ends.items c.note_end.new.ends.items i.holders.numbers i.held i.items.items c.args.piece c.self.invariant c.in_ok-note_end.ensures.noted)
