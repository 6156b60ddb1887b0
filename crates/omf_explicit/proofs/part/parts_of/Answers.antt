use Rattle.std.proofs.Common.{◌≡◌, ◌∙◌, IfOk, ap, sym, subst}
use Rattle.omf_frame.specs.Framing.{Raw, is_end}
use Rattle.omf_records.specs.Inner.Reads.{or_none}
use Rattle.omf_explicit.specs.Explicit.{is_changed, placed}
use Rattle.omf_explicit.specs.Inner.Readers.{fixupp_whole, start_whole}
use Rattle.omf_explicit.proofs.PlainLaws.{other_parts}
use Rattle.omf_explicit.proofs.part.parts_of.Goals as goal

pub returns : goal.returns
returns c =
    let r = c.args.record.now in
    let own = c.record.inside in
    let kind : own.kind ≡ r.kind = ap (λ (x : Raw). x.kind) c.record.view_is in
    let body : own.body.now ≡ r.body = ap (λ (x : Raw). x.body) c.record.view_is in
    let parts = other_parts (λ w b. or_none ((fixupp_whole w).read 3 b)) (λ w b. placed ((start_whole w).read 3 b)) r own.kind own.body.now (is_changed r) (is_end r.kind) kind body
    (sym c.is_changed.ensures ∙ c.if-not-is_changed.false) (ap is_end (sym kind) ∙ sym c.is_end.ensures ∙ c.if-is_end.false) in
    subst (λ l. IfOk c.fixups_in.result (λ v. v.items ≡ l)) parts c.fixups_in.ensures
