use Rattle.std.proofs.lemmas.Option.{slice_get-get_or}
use Rattle.omf_finding.proofs.SingleLaws.{swept-all, swept-next}
use Rattle.omf_finding.proofs.singles.alone.Goals as goal

pub loop-single-preserved : goal.loop-single-preserved
loop-single-preserved c =
    let sorted = c.args.sorted.now in
    let k = c.loop-single.single-index in
    swept-next sorted c.requires.rises c.requires.apart c.requires.whole k _ c.loop-single.last c.in_ok-swept.field-0 c.loop-single.alone c.swept.new.alone (slice_get-get_or sorted k _ c.loop-single-test.true) c.in_ok-swept.ensures c.loop-single.invariant

pub returns : goal.returns
returns c =
    let sorted = c.args.sorted.now in
    swept-all sorted c.requires.rises c.requires.apart c.requires.whole c.loop-single.single-index c.loop-single.last c.loop-single.alone c.add_alone.new.alone c.loop-single-test.false c.in_ok-add_alone.ensures c.loop-single.invariant
