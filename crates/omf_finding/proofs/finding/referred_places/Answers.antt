use Rattle.std.proofs.Common.{◌∙◌, sym, subst}
use Rattle.omf_finding.specs.Inner.Shaping.{AreIntervals}
use Rattle.omf_finding.specs.Inner.Walking.{byte_in}
use Rattle.omf_finding.proofs.CandidateLaws.{none-agree, one-agrees}
use Rattle.omf_finding.proofs.finding.referred_places.Goals as goal

pub returns-in_default : goal.returns-in_default
returns-in_default c = none-agree (byte_in c.args.pattern.now c.args.shape.now.segment) c.args.ended.program.now c.new-places.result.items c.new-places.ensures.items

pub returns-then-not-is_at : goal.returns-then-not-is_at
returns-then-not-is_at c = none-agree (byte_in c.args.pattern.now c.args.shape.now.segment) c.args.ended.program.now c.new-places.result.items c.new-places.ensures.items

pub returns : goal.returns
returns c =
    let byte = byte_in c.args.pattern.now c.args.shape.now.segment in
    let are = subst (AreIntervals byte) (sym c.deref.ensures.value) c.in_ok-intervals.ensures in
    one-agrees byte c.args.ended.program.now c.deref.result.now are c.in-Some.address (sym c.is_at.ensures ∙ c.if-not-is_at.false) c.new-places.result.items c.push.new.self.items c.new-places.ensures.items
    c.in_ok-push.ensures.items
