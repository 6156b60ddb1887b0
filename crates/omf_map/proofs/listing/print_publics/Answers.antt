use Rattle.std.proofs.Common.{◌++◌, ap, ◌∙◌, string_bytes, false}
use Rattle.std.specs.Prelude.{flat_map}
use Rattle.omf_check.specs.Module.{records_in}
use Rattle.omf_map.specs.Addresses.{publics_asked}
use Rattle.omf_map.specs.MapText.{public_line}
use Rattle.omf_map.proofs.MapLaws.{lines-more, listed_publics, listed-publics}
use Rattle.omf_placement.proofs.StepLaws.{part_more, no_part_left}
use Rattle.omf_map.proofs.listing.print_publics.Goals as goal

pub loop-rec-init : goal.loop-rec-init
loop-rec-init c =
    let segments = c.args.addresses.now.segments in
    let listed = c.into_iter-rec-iterator.ensures.into_iter_gives ∙ c.undecoded-rec-items.ensures.listed in
    ap (λ xs. string_bytes c.args.text.now ++ flat_map (public_line c.args.number) xs) (ap (listed_publics false segments) listed ∙ listed-publics false segments 0 0 (records_in c.args.«module».now.bytes))

pub loop-rec-preserved : goal.loop-rec-preserved
loop-rec-preserved c =
    let segments = c.args.addresses.now.segments in
    let line = public_line c.args.number in
    let here = publics_asked false segments c.in-Some.rec.kind c.in-Some.rec.contents in
    part_more _ _ (flat_map line here) _ _ _ c.in_ok-print_record.ensures
    (lines-more line false segments c.loop-rec.rec-iterator _ _ c.in-Some.ensures.steps) c.loop-rec.invariant

pub returns : goal.returns
returns c = no_part_left _ _ _ (ap (λ xs. flat_map (public_line c.args.number) (listed_publics false c.args.addresses.now.segments xs)) c.in-None.ensures.steps.0) c.loop-rec.invariant
