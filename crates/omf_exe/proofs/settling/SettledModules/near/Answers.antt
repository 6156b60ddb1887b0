use Rattle.std.proofs.Common.{◌∙◌, ◌≡◌, ap, length, subst}
use Rattle.std.specs.Prelude.{IfOk}
use Rattle.std.proofs.lemmas.Result.{IfOk-weaker}
use Rattle.omf_output.specs.Near.{first_near}
use Rattle.omf_exe.specs.Program.{IsNearOf}
use Rattle.omf_exe.proofs.ExeLaws.{placed-many}
use Rattle.omf_exe.proofs.settling.SettledModules.near.Goals as goal

pub first_near-requires-clause-placed : goal.first_near-requires-clause-placed
first_near-requires-clause-placed c =
    let own = c.self.inside in
    ap length c.deref.ensures.value ∙ placed-many own.modules.now own.placements.items c.self.invariant.settled.placed

pub returns : goal.returns
returns c =
    let own = c.self.inside in
    let ms = own.modules.now in
    subst (λ ns. IfOk c.first_near.result (IsNearOf ns)) c.self.view_is
    (IfOk-weaker c.first_near.result (λ o. o ≡ first_near ms c.deref.result.now) (IsNearOf ms)
    (λ o e. record { placements = own.placements.items; placed = c.self.invariant.settled.placed; first = e ∙ ap (first_near ms) c.deref.ensures.value }) c.first_near.ensures)
