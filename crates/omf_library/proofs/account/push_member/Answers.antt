use native.Mathlib.Omega.{arith}
use Rattle.std.proofs.Common.{◌+◌, ◌∷◌, [], length}
use Rattle.omf_library.specs.Account.{cut}
use Rattle.omf_library.specs.declared.account.RegionKind.TheVariants as kind
use Rattle.omf_library.proofs.AccountLaws.{adds_ok, within_ok}
use Rattle.omf_library.proofs.account.push_member.Goals as goal

pub returns-clause-adds : goal.returns-clause-adds
returns-clause-adds c =
    let sum = c.args.span.offset + length c.args.span.bytes.now in
    let at = c.in_ok-at.at in
    let now = c.push_region.new.regions.items in
    let new = c.push_region-2.new.regions.items in
    adds_ok c.args.all c.args.from at (cut kind.Padding c.args.span.offset ∷ []) (cut kind.Member sum ∷ []) c.args.regions.now.items now new c.push_region-2.result c.in_ok-at.ensures.adds
    (within_ok c.args.all at c.saturating_add-end.result sum kind.Member now new c.push_region-2.result (omega (arith, c.saturating_add-end.ensures, c.ranges.all.fits)) c.push_region-2.ensures.adds)
