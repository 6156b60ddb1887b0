use Rattle.std.proofs.Common.{ℕ, length}
use Rattle.std.specs.Prelude.{get_or}
use Rattle.std.proofs.lemmas.List.{get_or_default}
use Rattle.omf_finding.specs.Near.{differences}
use Rattle.omf_finding.proofs.NearLaws.{best-last, best-next}
use Rattle.omf_finding.proofs.nearing.best_of.Goals as goal

pub loop-address-preserved : goal.loop-address-preserved
loop-address-preserved c =
    let program = c.args.program.now in
    let xs = c.args.addresses.now in
    let k = c.loop-address.address-index in
    let low = c.loop-address-test.true in
    best-next (λ (a : ℕ). length (differences program.bytes.items program.base a c.args.closed.now)) c.args.most xs k (get_or xs k 0) (get_or_default xs k 0 (get_or xs k 0) low) low c.loop-address.best c.better-best.result
    c.few_differences-count.result c.few_differences-count.ensures c.better-best.ensures c.loop-address.invariant

pub returns : goal.returns
returns c =
    let program = c.args.program.now in
    best-last (λ (a : ℕ). length (differences program.bytes.items program.base a c.args.closed.now)) c.args.most c.args.addresses.now c.loop-address.address-index c.loop-address-test.false c.loop-address.best c.loop-address.invariant
