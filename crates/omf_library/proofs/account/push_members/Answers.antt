use Rattle.std.proofs.Common.{◌∷◌, ap}
use Rattle.omf_library.specs.Account.{cut}
use Rattle.omf_library.specs.declared.account.RegionKind.TheVariants as kind
use Rattle.omf_library.proofs.AccountLaws.{adds_then, members_next, same_cuts}
use Rattle.omf_library.proofs.account.push_members.Goals as goal

pub loop-span-preserved : goal.loop-span-preserved
loop-span-preserved c = record {
  adds = same_cuts (ap (λ cs. cut kind.Header 10 ∷ cut kind.Padding c.args.page ∷ cs) (members_next c.deref-span-items.result.now c.args.spans.now.members.items c.loop-span.span-index _ c.deref-span-items.ensures.value c.loop-span-test.true)) (adds_then c.loop-span.invariant.adds c.in_ok-at-3.ensures.adds);
  ends = c.in_ok-at-3.ensures.ends;
  adjacent = λ h. c.in_ok-at-3.ensures.adjacent (c.loop-span.invariant.adjacent h);
}
