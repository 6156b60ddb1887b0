use Rattle.std.proofs.Common.{◌∙◌, ◌+◌, ap, refl, [], ◌∷◌, ◌++◌, Option, ℕ}
use Rattle.omf_finding.specs.Inner.Walking.{byte_in}
use Rattle.omf_finding.specs.Run.{closed_byte}
use Rattle.omf_finding.proofs.RunLaws.{cells-next}
use Rattle.omf_finding.proofs.patterning.Pattern.cells.Goals as goal

pub loop-i-preserved : goal.loop-i-preserved
loop-i-preserved c =
    let first = c.args.run.first in
    let i = c.loop-i.i in
    let old = c.loop-i.cells.items in
    cells-next (byte_in c.args.self.now c.args.segment) first i (first + i) old c.push.new.self.items c.loop-i.invariant refl
    (c.in_ok-push.ensures.items ∙ ap (λ (x : Option ℕ). old ++ x ∷ []) (c.closed_byte.ensures ∙ ap closed_byte c.get.ensures))
