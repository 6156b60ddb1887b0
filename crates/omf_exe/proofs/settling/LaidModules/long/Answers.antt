use Rattle.std.proofs.Common.{◌∙◌, ap, length, subst}
use Rattle.omf_placement.specs.Derive.{placed_modules}
use Rattle.omf_warnings.specs.Long.{first_long}
use Rattle.omf_exe.specs.Program.{IsLongOf}
use Rattle.omf_exe.proofs.ExeLaws.{laid-many}
use Rattle.omf_exe.proofs.settling.LaidModules.long.Goals as goal

pub first_long-requires-clause-placed : goal.first_long-requires-clause-placed
first_long-requires-clause-placed c =
    let own = c.self.inside in
    ap length c.deref.ensures.value ∙ laid-many own.modules.now own.places.items c.self.invariant.1

pub returns : goal.returns
returns c =
    let own = c.self.inside in
    subst (λ ms. IsLongOf ms c.first_long.result) c.self.view_is
    (record { places = own.places.items; laid = c.self.invariant.1; first = c.first_long.ensures ∙ ap (λ pls. first_long (placed_modules own.modules.now pls)) c.deref.ensures.value })
