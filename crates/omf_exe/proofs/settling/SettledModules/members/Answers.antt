use Rattle.std.proofs.Common.{◌∙◌, ◌≡◌, ap, length, subst}
use Rattle.std.specs.Prelude.{IfOk}
use Rattle.std.proofs.lemmas.Result.{IfOk-weaker}
use Rattle.omf_exe.specs.Program.{AreMade, members_from}
use Rattle.omf_exe.proofs.ExeLaws.{are-made, moved-many, placed-many}
use Rattle.omf_exe.proofs.settling.SettledModules.members.Goals as goal

pub members_of-requires-clause-placed : goal.members_of-requires-clause-placed
members_of-requires-clause-placed c =
    let own = c.self.inside in
    ap length c.deref.ensures.value ∙ placed-many own.modules.now own.placements.items c.self.invariant.settled.placed

pub members_of-requires-clause-moved : goal.members_of-requires-clause-moved
members_of-requires-clause-moved c =
    let own = c.self.inside in
    ap length c.deref-2.ensures.value ∙ moved-many own.modules.now own.placements.items own.movers.items c.self.invariant.settled

pub returns : goal.returns
returns c =
    let own = c.self.inside in
    let ms = own.modules.now in
    subst (λ ns. IfOk c.members_of.result (λ v. AreMade ns v.items)) c.self.view_is
    (IfOk-weaker c.members_of.result (λ v. v.items ≡ members_from 0 ms c.deref.result.now c.deref-2.result.now) (λ v. AreMade ms v.items)
    (λ v e. are-made ms own.placements.items c.deref.result.now own.movers.items c.deref-2.result.now v.items c.self.invariant.settled c.deref.ensures.value c.deref-2.ensures.value e) c.members_of.ensures)
