use Rattle.std.proofs.Common.{◌≡◌, ◌∙◌, inl, sym, subst}
use Rattle.std.specs.Prelude.{IfNone, IfSome}
use Rattle.omf_virtual.specs.Modules.{IsWithComdats, Stays}
use Rattle.omf_virtual.specs.Origins.{ComesFrom}
use Rattle.omf_lowered.specs.Inner.Moves.{IsMoved}
use Rattle.omf_lowered.specs.Modules.{IsComdatFault, IsLoweredComdats, IsLoweredPaged, IsPagedFault, IsPagedRefused}
use Rattle.omf_lowered.proofs.ModuleLaws.{err_has, moved_fault, ok_has, stays_fault}
use Rattle.omf_lowered.proofs.module.lowered_comdats.Goals as goal

pub returns-in-Ok-Some-clause-err : goal.returns-in-Ok-Some-clause-err
returns-in-Ok-Some-clause-err c =
    let bytes = c.args.bytes.now in
    let own = c.deref.result.now in
    let f = c.in-Err-lowered_pages.fault in
    let given = subst (λ x. IfSome x (λ m. IsWithComdats bytes m.bytes.items m.rest.now)) c.in-Ok-Some.field-0-is c.in-Ok-Some.ensures.some in
    let changed = subst (λ x. IsWithComdats bytes x c.in-Ok-Some.comdats.rest.now) (sym c.deref.ensures.value) given in
    let same : c.deref-in-Err-lowered_pages.result.now ≡ own = c.deref-in-Err-lowered_pages.ensures.value ∙ sym c.deref.ensures.value in
    let moved = subst (λ x. IsMoved bytes x c.comdats_origin-origin.result f c.moved.result) same c.moved.ensures in
    moved_fault IsWithComdats ComesFrom Stays IsPagedRefused bytes own _ _ _ f _ changed c.in-Err-lowered_pages.ensures.err c.number_of.ensures c.comdats_origin-origin.ensures moved

pub returns-in-Ok-None-clause-ok : goal.returns-in-Ok-None-clause-ok
returns-in-Ok-None-clause-ok c =
    let bytes = c.args.bytes.now in
    let same = subst (λ f. IfNone f (Stays bytes)) c.in-Ok-None.field-0-is c.in-Ok-None.ensures.none in
    ok_has (λ l. IsLoweredPaged bytes l.bytes.items l.rest.now) (λ l. IsLoweredComdats bytes l.bytes.items l.rest.now) c.lowered_pages-in-Ok-None.result (λ l h. inl (same, h))
    c.lowered_pages-in-Ok-None.ensures.ok

pub returns-in-Ok-None-clause-err : goal.returns-in-Ok-None-clause-err
returns-in-Ok-None-clause-err c =
    let bytes = c.args.bytes.now in
    let same = subst (λ f. IfNone f (Stays bytes)) c.in-Ok-None.field-0-is c.in-Ok-None.ensures.none in
    err_has (IsPagedFault bytes) (IsComdatFault bytes) c.lowered_pages-in-Ok-None.result (stays_fault IsWithComdats ComesFrom Stays IsPagedRefused bytes same) c.lowered_pages-in-Ok-None.ensures.err
