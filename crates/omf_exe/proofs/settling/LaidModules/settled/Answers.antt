use Rattle.std.proofs.lemmas.Result.{err_from_is_err_and}
use Rattle.std.proofs.Common.{◌∙◌, ◌≡◌, List, ap, length, subst, sym}
use Rattle.std.specs.Prelude.{IfErr}
use Rattle.omf_placement.specs.Placement.{Places}
use Rattle.omf_exe.specs.Program.{IsExternalFault, weak_of}
use Rattle.omf_exe.proofs.ExeLaws.{are-places, are-settled, external-fault, laid-many, placements-many}
use Rattle.omf_exe.proofs.TwiceLaws.{apart-once}
use Rattle.omf_exe.proofs.settling.LaidModules.settled.Goals as goal

pub with_weak_linked-requires-clause-placed : goal.with_weak_linked-requires-clause-placed
with_weak_linked-requires-clause-placed c =
    let own = c.self.inside in
    ap length c.deref.ensures.value ∙ laid-many own.modules.now own.places.items c.self.invariant.1

pub derive_linked-requires-clause-placed : goal.derive_linked-requires-clause-placed
derive_linked-requires-clause-placed c =
    let own = c.self.inside in
    are-places own.modules.now own.places.items c.self.invariant.1

pub movers_of-requires-clause-placed : goal.movers_of-requires-clause-placed
movers_of-requires-clause-placed c =
    let own = c.self.inside in
    ap length c.deref-3.ensures.value
    ∙ placements-many own.modules.now own.places.items c.in_ok-placements.placements.items _ (laid-many own.modules.now own.places.items c.self.invariant.1) c.in_ok-placements.ensures

pub returns-in_err-placements-clause-fault : goal.returns-in_err-placements-clause-fault
returns-in_err-placements-clause-fault c =
    let own = c.self.inside in
    let ms = own.modules.now in
    let pls = own.places.items in
    let given : c.deref-2.result.now ≡ weak_of ms pls = c.deref-2.ensures.value ∙ c.in_ok-given.ensures ∙ ap (λ (xs : List Places). weak_of ms xs) c.deref.ensures.value in
    let e = err_from_is_err_and c.from_residual-in_err-placements.result c.from_residual-in_err-placements.ensures.1 in
    let why : IsExternalFault ms c.in_err-placements.field-0.0 = external-fault ms pls c.deref-2.result.now c.in_err-placements.field-0.0 c.self.invariant.1 given c.in_err-placements.ensures in
    subst (λ ns. IfErr c.from_residual-in_err-placements.result (IsExternalFault ns)) c.self.view_is (rw (e.1, e.2) why)

pub invariant_of-result : goal.invariant_of-result
invariant_of-result c =
    let own = c.self.inside in
    let ms = own.modules.now in
    let pls = own.places.items in
    let given : c.deref-2.result.now ≡ weak_of ms pls = c.deref-2.ensures.value ∙ c.in_ok-given.ensures ∙ ap (λ (xs : List Places). weak_of ms xs) c.deref.ensures.value in
    record {
      few = c.self.invariant.0;
      settled = are-settled ms pls c.in_ok-placements.placements.items c.deref-3.result.now c.deref-2.result.now c.in_ok-movers.movers.items c.self.invariant.1 given c.in_ok-placements.ensures c.deref-3.ensures.value c.in_ok-movers.ensures;
      apart = λ f. apart-once ms (c.in_ok-linkage.ensures.apart (sym c.repeats.ensures ∙ f));
    }
