use Rattle.std.proofs.Common.{length, subst}
use Rattle.std.specs.Prelude.{◌≡◌}
use Rattle.omf_exe.specs.Program.{ArePlaced}
use Rattle.omf_exe.proofs.ExeLaws.{placed-many}
use Rattle.omf_exe.proofs.settling.SettledModules.into_placements.Goals as goal

pub returns-clause-placed : goal.returns-clause-placed
returns-clause-placed c =
    let own = c.self.inside in
    subst (λ ms. ArePlaced ms own.placements.items) c.self.view_is c.self.invariant.settled.placed

pub returns-clause-one_each : goal.returns-clause-one_each
returns-clause-one_each c =
    let own = c.self.inside in
    subst (λ ms. length own.placements.items ≡ length ms) c.self.view_is (placed-many own.modules.now own.placements.items c.self.invariant.settled.placed)
