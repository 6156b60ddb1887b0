use Rattle.std.proofs.Common.{◌≡◌, ◌-◌, length, rules, subst}
use Rattle.std.specs.Prelude.{Some, slice_get}
use Rattle.std.specs.List.Sorted.{IsStrictlyIncreasing}
use Rattle.omf_finding.proofs.IndexLaws.{all-below}
use Rattle.omf_finding.proofs.indices.Indices.are_below.Goals as goal

pub returns-in-Some : goal.returns-in-Some
returns-in-Some c =
    let last : slice_get c.args.self.now (length c.args.self.now - 1) ≡ Some c.in-Some.last.now = search rules in
    all-below c.args.self.now c.in-Some.last.now c.args.index (subst IsStrictlyIncreasing c.self.view_is c.self.invariant) last
