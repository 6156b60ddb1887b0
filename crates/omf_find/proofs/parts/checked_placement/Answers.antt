use Rattle.std.proofs.Common.{List, ℕ, subst}
use Rattle.omf_check.specs.Module.{recs_of}
use Rattle.omf_finding.specs.Found.{IsFound}
use Rattle.omf_find.proofs.parts.checked_placement.Goals as goal

pub returns-then-found : goal.returns-then-found
returns-then-found c =
    let p = c.args.seen.program.now in
    let m = recs_of c.args.seen.«module».now.bytes in
    let pl = c.in_ok-placement.placement in
    let there = c.in_ok-found.ensures.found c.if-found.true in
    record {
      found = subst (λ (xs : List ℕ). IsFound m pl c.args.seen.found.now.absent xs p.base) c.deref.ensures.value there;
      segments = c.in_ok-placement.ensures.segments;
      groups = c.in_ok-placement.ensures.groups;
      externals = c.in_ok-placement.ensures.externals;
    }
