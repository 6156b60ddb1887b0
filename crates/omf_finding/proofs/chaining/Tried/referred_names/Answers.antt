use Rattle.std.proofs.Common.{arith, refl}
use Rattle.omf_finding.specs.Inner.Closing.{AsksAt}
use Rattle.omf_finding.proofs.CloseLaws.{adds-first, adds-next, asks-all}
use Rattle.omf_finding.proofs.chaining.Tried.referred_names.Goals as goal

pub loop-number-init : goal.loop-number-init
loop-number-init c =
    let t = c.args.self in
    (c.new.result, c.new.ensures.empty, adds-first c.new.result (AsksAt t.modules.now t.drafts.now c.args.joined.now.marks.items), refl)

pub loop-number-preserved : goal.loop-number-preserved
loop-number-preserved c =
    let t = c.args.self in
    let inv = c.loop-number.invariant in
    (inv.0, inv.1, adds-next inv.0 c.loop-number.names.spots c.add_names.new.names.spots c.loop-number.number (AsksAt t.modules.now t.drafts.now c.args.joined.now.marks.items) c.in_ok-add_names.ensures inv.2, inv.3)

pub returns : goal.returns
returns c =
    let t = c.args.self in
    let inv = c.loop-number.invariant in
    let end = inv.3 in
    asks-all t.modules.now t.drafts.now c.args.joined.now.marks.items c.loop-number.number (omega (arith, c.loop-number-test.false, end)) inv.0 c.loop-number.names.spots inv.1 inv.2
