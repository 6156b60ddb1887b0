use Rattle.std.proofs.Common.{length, ap}
use Rattle.omf_library.specs.Account.{last_cuts}
use Rattle.omf_library.specs.Inner.Accounting.{Adds}
use Rattle.omf_library.proofs.AccountLaws.{adds_all, adds_equal, adds_none, adds_then}
use Rattle.omf_library.proofs.account.account_of.Goals.{in-Ok+in_ok-at-2, in_default}
use Rattle.omf_library.proofs.account.account_of.Goals as goal

pub returns-clause-exact : goal.returns-clause-exact
returns-clause-exact c =
    let n = length c.args.bytes.now in
    let last : Adds n c.in_ok-at.at (last_cuts c.args.header c.args.bytes.now c.args.spans.now.end) c.push_members.new.regions.items c.match-spans.regions.items c.match-spans.at =
    elim c.match-spans.branch [
      | in-Ok+in_ok-at-2 w ↦ adds_equal (ap (last_cuts c.args.header c.args.bytes.now) w.in-Ok.is) (ap (λ r. r.items) w.regions-is) w.at-is w.in_ok-at-2.ensures.adds
      | in_default w ↦ adds_equal (ap (last_cuts c.args.header c.args.bytes.now) w.in_default.is) (ap (λ r. r.items) w.regions-is) w.at-is (adds_none n c.in_ok-at.at c.push_members.new.regions.items)
    ] in
    adds_all c.new-regions.ensures.items (adds_then c.in_ok-at.ensures.adds (adds_then last c.in_ok-push_region.ensures.adds))
