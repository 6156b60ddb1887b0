use Rattle.std.proofs.Common.{◌≡◌, ◌∙◌, ap, length, sym, subst, rules}
use Rattle.std.specs.Prelude.{All, string_bytes}
use Rattle.omf_check.specs.Module.{records_in}
use Rattle.omf_check.specs.WellFormed.{recs}
use Rattle.omf_layout.proofs.FitLaws.{segment-count, group-count, external-count, alignment-count, room-count}
use Rattle.omf_layout.proofs.ReadLaws.{drafts-are-read}
use Rattle.omf_layout.specs.Draft.{draft_text}
use Rattle.omf_layout.specs.Reading.{IsReadBack, IsShortFrame, IsShortPlace}
use Rattle.omf_layout.proofs.draft.draft_text.Goals as goal

pub print_segments-requires-clause-aligned : goal.print_segments-requires-clause-aligned
print_segments-requires-clause-aligned c = ap length c.alignments.ensures ∙ alignment-count c.args.options (recs (records_in c.args.«module».now.bytes)) c.args.layout.now c.requires

pub print_segments-requires-clause-placed : goal.print_segments-requires-clause-placed
print_segments-requires-clause-placed c = ap (λ pl. length pl.segments) c.placement-placement.ensures ∙ segment-count c.args.options (recs (records_in c.args.«module».now.bytes)) c.args.layout.now c.requires

pub print_groups-requires : goal.print_groups-requires
print_groups-requires c = ap (λ pl. length pl.groups) c.placement-placement.ensures ∙ group-count c.args.options (recs (records_in c.args.«module».now.bytes)) c.args.layout.now c.requires

pub print_externals-requires-clause-roomed : goal.print_externals-requires-clause-roomed
print_externals-requires-clause-roomed c = room-count c.args.options (recs (records_in c.args.«module».now.bytes)) c.args.layout.now c.requires

pub print_externals-requires-clause-placed : goal.print_externals-requires-clause-placed
print_externals-requires-clause-placed c = external-count c.args.options (recs (records_in c.args.«module».now.bytes)) c.args.layout.now c.requires

pub returns-clause-read : goal.returns-clause-read
returns-clause-read c =
    let m = recs (records_in c.args.«module».now.bytes) in
    let o = c.args.options in
    let l = c.args.layout.now in
    let is : string_bytes c.print_externals.new.text ≡ draft_text o.frames m l = search rules in
    subst (IsReadBack o.frames m l.places) (sym is) (drafts-are-read o m l c.requires (record {
      segments = subst (λ pl. All IsShortPlace pl.segments) c.placement-placement.ensures c.in_ok-print_segments.ensures.short;
      groups = subst (λ pl. All IsShortFrame pl.groups) c.placement-placement.ensures c.in_ok-print_groups.ensures.short;
      externals = c.in_ok-print_externals.ensures.short;
    }))
