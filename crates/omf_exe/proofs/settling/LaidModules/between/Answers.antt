use Rattle.std.proofs.Common.{◌∙◌, ◌≡◌, ap, length, subst}
use Rattle.std.specs.Prelude.{IfOk}
use Rattle.std.proofs.lemmas.Result.{IfOk-weaker}
use Rattle.omf_placement.specs.Derive.{placed_modules}
use Rattle.omf_output.specs.Stacks.{first_between}
use Rattle.omf_exe.specs.Program.{IsBetweenOf}
use Rattle.omf_exe.proofs.ExeLaws.{laid-many}
use Rattle.omf_exe.proofs.settling.LaidModules.between.Goals as goal

pub first_between-requires-clause-placed : goal.first_between-requires-clause-placed
first_between-requires-clause-placed c =
    let own = c.self.inside in
    ap length c.deref.ensures.value ∙ laid-many own.modules.now own.places.items c.self.invariant.1

pub returns : goal.returns
returns c =
    let own = c.self.inside in
    let ms = own.modules.now in
    subst (λ ns. IfOk c.first_between.result (IsBetweenOf ns)) c.self.view_is
    (IfOk-weaker c.first_between.result (λ o. o ≡ first_between (placed_modules ms c.deref.result.now)) (IsBetweenOf ms)
    (λ o e. record { places = own.places.items; laid = c.self.invariant.1; first = e ∙ ap (λ pls. first_between (placed_modules ms pls)) c.deref.ensures.value }) c.first_between.ensures)
