use Rattle.std.proofs.Common.{◌≡◌, ap, subst}
use Rattle.std.specs.Prelude.{OnOk, string_bytes}
use Rattle.omf_check.specs.Module.{records_in}
use Rattle.omf_check.specs.WellFormed.{recs}
use Rattle.omf_linking.specs.Locator.Drafted.{Shared}
use Rattle.omf_drafting.specs.Text.{group_lines, segment_lines, wanted_lines}
use Rattle.omf_drafting.proofs.PlacesLaws.{three-steps}
use Rattle.omf_drafting.proofs.part.print_part.Goals as goal

pub returns-clause-text : goal.returns-clause-text
returns-clause-text c = λ shares among seen h e.
    let m = recs (records_in c.args.«module».now.bytes) in
    let pl = c.args.part.now.placement.now in
    subst (λ t. OnOk c.print_wanted_part.result (string_bytes c.print_wanted_part.new.text ≡ t))
    (three-steps _ _ _ (segment_lines c.args.part.now.frames shares.segment m pl.segments) (group_lines shares.group m pl.groups) (wanted_lines among m)
    (c.in_ok-print_segment_lines.ensures.lines shares.segment (ap (λ (s : Shared). s.0) seen)) (c.in_ok-print_group_lines.ensures.lines shares.group (ap (λ (s : Shared). s.1) seen)))
    (c.print_wanted_part.ensures among h e)
