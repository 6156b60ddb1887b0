use Rattle.std.proofs.Common.{◌-◌, refl, arith}
use Rattle.omf_library.proofs.AccountLaws.{region_grown}
use Rattle.omf_library.proofs.account.push_region.Goals as goal

pub returns-clause-adjacent : goal.returns-clause-adjacent
returns-clause-adjacent c h =
    let end = c.min-end.result in
    let from = c.args.from in
    let low = c.if-end-from.false in
    region_grown c.args.regions.now.items c.push.new.self.items 0 from end (record { kind = c.args.kind; offset = from; length = end - from }) c.in_ok-push.ensures.items refl (omega (arith, low)) (omega (arith, low)) h
