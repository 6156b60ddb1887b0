use Rattle.std.proofs.Common.{◌≡◌, ◌∙◌, sym, subst}
use Rattle.std.specs.Prelude.{IfSome}
use Rattle.omf_aligned.specs.Changed.{IsWithPages, Stays}
use Rattle.omf_aligned.specs.Origins.{ComesFrom}
use Rattle.omf_lowering.specs.Lowering.{IsRefused}
use Rattle.omf_lowered.specs.Inner.Moves.{IsMoved}
use Rattle.omf_lowered.proofs.ModuleLaws.{lowering_fault, moved_fault}
use Rattle.omf_lowered.proofs.module.lowered_pages.Goals as goal

pub returns-in-Ok-Some-clause-err : goal.returns-in-Ok-Some-clause-err
returns-in-Ok-Some-clause-err c =
    let bytes = c.args.bytes.now in
    let own = c.deref.result.now in
    let f = c.in-Err-lowered.fault in
    let given = subst (λ x. IfSome x (λ m. IsWithPages bytes m.bytes.items m.rest.now)) c.in-Ok-Some.field-0-is c.in-Ok-Some.ensures.some in
    let changed = subst (λ x. IsWithPages bytes x c.in-Ok-Some.paged.rest.now) (sym c.deref.ensures.value) given in
    let same : c.deref-in-Err-lowered.result.now ≡ own = c.deref-in-Err-lowered.ensures.value ∙ sym c.deref.ensures.value in
    let moved = subst (λ x. IsMoved bytes x c.pages_origin-origin.result f c.moved.result) same c.moved.ensures in
    moved_fault IsWithPages ComesFrom Stays IsRefused bytes own _ _ _ f _ changed (lowering_fault own c.in-Err-lowered.fault c.in-Err-lowered.ensures.err) c.number_of.ensures c.pages_origin-origin.ensures moved
