use Rattle.std.proofs.Common.{◌<◌, ◌∙◌, arith, length, sym}
use Rattle.omf_finding.proofs.ChainLaws.{held-at}
use Rattle.omf_finding.proofs.CloseLaws.{asks-grow, fewer, joined-due}
use Rattle.omf_finding.proofs.chaining.Tried.join_due.Goals as goal

pub is_due-requires-clause-held : goal.is_due-requires-clause-held
is_due-requires-clause-held c =
    let t = c.args.self in
    (held-at t.program.now t.modules.now t.drafts.now c.args.number c.in-Some.«module».now c.in-Some.found.now c.requires.drafts c.in-Some.ensures.some.0 c.in-Some.ensures.some.1).found.reaches

pub returns-clause-joined : goal.returns-clause-joined
returns-clause-joined c =
    let t = c.args.self in
    let marks = c.args.joined.now.marks.items in
    let there = c.in-Some.ensures.some in
    let same = c.requires.joined.1 in
    let low : c.args.number < length marks = omega (arith, c.requires.low, same) in
    joined-due t marks c.join.new.self.marks.items c.args.number c.in-Some.«module».now c.in-Some.found.now c.args.names.now.spots c.in_ok-join.ensures low there.0 there.1 (c.is_due.ensures.some c.if-not-is_due.false) c.requires.asked c.requires.joined

pub returns-clause-asked : goal.returns-clause-asked
returns-clause-asked c = asks-grow c.args.self c.args.joined.now.marks.items c.join.new.self.marks.items c.args.number c.args.names.now.spots c.in_ok-join.ensures c.requires.asked

pub returns-clause-fewer : goal.returns-clause-fewer
returns-clause-fewer c =
    let marks = c.args.joined.now.marks.items in
    let same = c.requires.joined.1 in
    let low : c.args.number < length marks = omega (arith, c.requires.low, same) in
    λ due. fewer marks c.join.new.self.marks.items c.args.number c.in_ok-join.ensures low (sym c.has.ensures ∙ c.if-has.false)
