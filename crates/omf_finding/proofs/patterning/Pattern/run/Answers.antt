use Rattle.std.proofs.Common.{subst, Some}
use Rattle.omf_image.specs.Overlay.{byte_at, IsRunAt}
use Rattle.omf_finding.specs.Inner.Walking.{Marks}
use Rattle.omf_finding.proofs.RunLaws.{run-shown}
use Rattle.omf_finding.proofs.patterning.Pattern.run.Goals as goal

pub returns-in_ok-cells-in-Some : goal.returns-in_ok-cells-in-Some
returns-in_ok-cells-in-Some c =
    let at = subst (λ (p : Marks). IsRunAt (byte_at p.values c.args.segment) c.args.k (Some c.in-Some.run')) c.self.view_is c.in-Some.ensures.maximal in
    run-shown c.args.self.now c.args.segment c.args.k c.in-Some.run' c.in_ok-cells-in-Some.cells.items at c.in_ok-cells-in-Some.ensures
