use Rattle.std.proofs.Common.{◌≡◌, ◌∙◌, false, ap, sym, rules}
use Rattle.omf_frame.specs.Framing.{Raw, is_end}
use Rattle.omf_explicit.proofs.OriginLaws.{after_more, after_none, has_record}
use Rattle.omf_explicit.proofs.origin.record_at.Goals as goal

pub loop-passed-init : goal.loop-passed-init
loop-passed-init c = after_none c.args.bytes.now

pub loop-passed-preserved : goal.loop-passed-preserved
loop-passed-preserved c =
    let l = c.loop-passed in
    let kind : c.record.inside.kind ≡ c.in-Some.record.kind = ap (λ (r : Raw). r.kind) c.record.view_is in
    let goes_on : is_end c.in-Some.record.kind ≡ false = ap is_end (sym kind) ∙ sym c.is_end.ensures ∙ c.if-is_end.false in
    after_more c.args.bytes.now l.rest.now c.in-Some.after.now l._passed c.in-Some.record l.invariant c.in-Some.ensures.spelled c.in-Some.ensures.short goes_on

pub returns-in-Some-front_of : goal.returns-in-Some-front_of
returns-in-Some-front_of c =
    let l = c.loop-passed in
    let reached : l._passed ≡ c.args.number = search rules in
    let e = c.in-Some-front_of.ensures in
    has_record c.args.bytes.now l.rest.now c.in-Some-front_of.field-0-1.now l._passed c.args.number c.saturating_sub-start.result c.in-Some-front_of.record l.invariant reached e.spelled e.short c.saturating_sub-start.ensures
