use Rattle.std.proofs.Common.{◌≡◌, ◌∙◌, inl, sym, subst}
use Rattle.std.specs.Prelude.{IfNone, IfSome}
use Rattle.omf_explicit.specs.Modules.{IsWithSegments, Stays}
use Rattle.omf_explicit.specs.Origins.{ComesFrom}
use Rattle.omf_lowered.specs.Inner.Moves.{IsMoved}
use Rattle.omf_lowered.specs.Modules.{IsComdatFault, IsComdatRefused, IsLoweredComdats, IsLoweredModule, IsModuleFault}
use Rattle.omf_lowered.proofs.ModuleLaws.{err_has, moved_fault, ok_has, stays_fault}
use Rattle.omf_lowered.proofs.module.lowered_module.Goals as goal

pub returns-in-Ok-Some-clause-err : goal.returns-in-Ok-Some-clause-err
returns-in-Ok-Some-clause-err c =
    let bytes = c.args.bytes.now in
    let own = c.deref.result.now in
    let f = c.in-Err-lowered_comdats.fault in
    let given = subst (λ x. IfSome x (λ m. IsWithSegments bytes m.bytes.items m.rest.now)) c.in-Ok-Some.field-0-is c.in-Ok-Some.ensures.some in
    let changed = subst (λ x. IsWithSegments bytes x c.in-Ok-Some.plain.rest.now) (sym c.deref.ensures.value) given in
    let same : c.deref-in-Err-lowered_comdats.result.now ≡ own = c.deref-in-Err-lowered_comdats.ensures.value ∙ sym c.deref.ensures.value in
    let moved = subst (λ x. IsMoved bytes x c.segments_origin-origin.result f c.moved.result) same c.moved.ensures in
    moved_fault IsWithSegments ComesFrom Stays IsComdatRefused bytes own _ _ _ f _ changed c.in-Err-lowered_comdats.ensures.err c.number_of.ensures c.segments_origin-origin.ensures moved

pub returns-in-Ok-None-clause-ok : goal.returns-in-Ok-None-clause-ok
returns-in-Ok-None-clause-ok c =
    let bytes = c.args.bytes.now in
    let same = subst (λ f. IfNone f (Stays bytes)) c.in-Ok-None.field-0-is c.in-Ok-None.ensures.none in
    ok_has (λ l. IsLoweredComdats bytes l.bytes.items l.rest.now) (λ l. IsLoweredModule bytes l.bytes.items l.rest.now) c.lowered_comdats-in-Ok-None.result (λ l h. inl (same, h))
    c.lowered_comdats-in-Ok-None.ensures.ok

pub returns-in-Ok-None-clause-err : goal.returns-in-Ok-None-clause-err
returns-in-Ok-None-clause-err c =
    let bytes = c.args.bytes.now in
    let same = subst (λ f. IfNone f (Stays bytes)) c.in-Ok-None.field-0-is c.in-Ok-None.ensures.none in
    err_has (IsComdatFault bytes) (IsModuleFault bytes) c.lowered_comdats-in-Ok-None.result (stays_fault IsWithSegments ComesFrom Stays IsComdatRefused bytes same) c.lowered_comdats-in-Ok-None.ensures.err
