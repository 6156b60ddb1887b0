use native.Mathlib.Omega.{arith}
use Rattle.std.proofs.Common.{◌≡◌, ◌+◌, ◌∷◌, [], min, length, IfOk, ap, subst}
use Rattle.omf_library.specs.Account.{cut, record_end}
use Rattle.omf_library.specs.Inner.Accounting.{Adds}
use Rattle.omf_library.specs.declared.account.RegionKind.TheVariants as kind
use Rattle.omf_library.proofs.AccountLaws.{adds_ok, adds_then, same_cuts}
use Rattle.omf_library.proofs.account.push_end_record.Goals as goal

pub returns-clause-adds : goal.returns-clause-adds
returns-clause-adds c =
    let n = length c.args.bytes.now in
    let limit = c.args.limit in
    let fits = c.ranges.limit.fits in
    let at = c.in_ok-at-2.at in
    let now = c.push_region-2.new.regions.items in
    let new = c.push_region-3.new.regions.items in
    let head : c.min-head.result ≡ min (c.args.end + 3) limit = omega (arith, c.saturating_add.ensures, c.min-head.ensures, fits) in
    let stop : c.min-stop.result ≡ min (record_end c.args.bytes.now c.args.end) limit = omega (arith, c.record_end.ensures, c.min-stop.ensures, fits) in
    adds_ok n c.args.from at (cut kind.Padding c.args.end ∷ cut kind.End (min (c.args.end + 3) limit) ∷ []) (cut kind.Padding (min (record_end c.args.bytes.now c.args.end) limit) ∷ []) c.args.regions.now.items now new c.push_region-3.result
    (adds_then c.in_ok-at.ensures.adds (same_cuts (ap (λ to. cut kind.End to ∷ []) head) c.in_ok-at-2.ensures.adds))
    (subst (λ to. IfOk c.push_region-3.result (Adds n at (cut kind.Padding to ∷ []) now new)) stop c.push_region-3.ensures.adds)
