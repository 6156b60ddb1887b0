use Rattle.std.proofs.Common.{subst, sym}
use Rattle.omf_exe.specs.Program.{ArePlaced}
use Rattle.omf_exe.proofs.settling.SettledModules.placements.Goals as goal

pub returns : goal.returns
returns c =
    let own = c.self.inside in
    subst (λ ms. ArePlaced ms c.deref.result.now) c.self.view_is (subst (ArePlaced own.modules.now) (sym c.deref.ensures.value) c.self.invariant.settled.placed)
