use Rattle.std.proofs.Common.{ap}
use Rattle.std.specs.Prelude.{flat_map}
use Rattle.omf_map.specs.Addresses.{public_at, publics_at}
use Rattle.omf_map.specs.MapText.{public_line}
use Rattle.omf_placement.proofs.StepLaws.{part_more, no_part_left}
use Rattle.omf_map.proofs.listing.print_items.Goals as goal

pub loop-public-preserved : goal.loop-public-preserved
loop-public-preserved c =
    let line = public_line c.args.number in
    part_more _ _ (line (public_at c.args.base c.in-Some.public)) _ _ _ c.in_ok-print_item.ensures (ap (λ xs. flat_map line (publics_at c.args.base xs)) c.in-Some.ensures.steps) c.loop-public.invariant

pub returns : goal.returns
returns c = no_part_left _ _ _ (ap (λ xs. flat_map (public_line c.args.number) (publics_at c.args.base xs)) c.in-None.ensures.steps.0) c.loop-public.invariant
