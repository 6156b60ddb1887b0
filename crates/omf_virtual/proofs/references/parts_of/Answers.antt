use Rattle.std.proofs.Common.{◌≡◌, ◌∙◌, IfOk, ap, false, sym, subst, true}
use Rattle.std.specs.Prelude.{◌&&◌, ◌||◌}
use Rattle.omf_frame.specs.Framing.{Raw, is_end}
use Rattle.omf_records.specs.Inner.Reads.{or_none}
use Rattle.omf_explicit.specs.Explicit.{is_fixupp, is_right, placed}
use Rattle.omf_explicit.specs.Inner.Readers.{fixupp_whole, start_whole}
use Rattle.omf_explicit.proofs.PlainLaws.{other_parts}
use Rattle.omf_virtual.proofs.references.parts_of.Goals as goal

pub returns-then-is_fixupp : goal.returns-then-is_fixupp
returns-then-is_fixupp c =
    let r = c.args.record.now in
    let own = c.record.inside in
    let kind : own.kind ≡ r.kind = ap (λ (x : Raw). x.kind) c.record.view_is in
    let body : own.body.now ≡ r.body = ap (λ (x : Raw). x.body) c.record.view_is in
    let right : is_right r ≡ true = sym c.is_right.ensures ∙ c.if-not-is_right.false in
    let ends : is_end r.kind ≡ false = ap is_end (sym kind) ∙ sym c.is_end.ensures ∙ c.if-is_end.false in
    let fixups : is_fixupp r.kind ≡ true = ap is_fixupp (sym kind) ∙ sym c.is_fixupp.ensures ∙ c.if-is_fixupp.true in
    let read : (is_right r && (is_end r.kind || is_fixupp r.kind)) ≡ true =
    ap (λ b. b && (is_end r.kind || is_fixupp r.kind)) right ∙ ap (λ b. b || is_fixupp r.kind) ends ∙ fixups in
    let parts = other_parts (λ w b. or_none ((fixupp_whole w).read 3 b)) (λ w b. placed ((start_whole w).read 3 b)) r own.kind own.body.now (is_right r && (is_end r.kind || is_fixupp r.kind))
    (is_end r.kind) kind body read ends in
    subst (λ l. IfOk c.fixups_in.result (λ v. v.items ≡ l)) parts c.fixups_in.ensures
