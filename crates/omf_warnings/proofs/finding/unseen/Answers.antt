use Rattle.std.proofs.Common.{◌∙◌, ap}
use Rattle.std.specs.Prelude.{find, option_map}
use Rattle.omf_warnings.specs.Unseen.{align_of, frames_of, is_misaligned}
use Rattle.omf_warnings.specs.declared.finding.Finding.TheVariants.{Group, Near, Selector}
use Rattle.omf_warnings.proofs.FrameLaws.{one-listed}
use Rattle.omf_warnings.proofs.finding.unseen.Goals as goal

pub returns : goal.returns
returns c =
    let overlaps = one-listed c.in_ok-add.ensures c.new-found.ensures.items c.overlap_of.ensures in
    let misaligned = c.align_of.ensures ∙ ap (option_map align_of) (c.first_misaligned-misaligned.ensures ∙ ap (find is_misaligned) c.deref.ensures.value) in
    let wide = c.group_of.ensures ∙ ap (option_map Group) c.first_wide-wide.ensures in
    let split = c.frames_of.ensures ∙ ap (option_map frames_of) c.in_ok-split.ensures in
    let unreal = c.selector_of.ensures ∙ ap (option_map Selector) c.in_ok-unreal.ensures in
    let near = c.near_of.ensures ∙ ap (option_map Near) c.in_ok-near.ensures in
    record {
      spans = c.in_ok-spans.spans.items;
      lie = c.in_ok-spans.ensures;
      overlap = c.first_overlap-overlap.result;
      first = c.first_overlap-overlap.ensures;
      are = one-listed c.in_ok-add-6.ensures
          (one-listed c.in_ok-add-5.ensures (one-listed c.in_ok-add-4.ensures (one-listed c.in_ok-add-3.ensures (one-listed c.in_ok-add-2.ensures overlaps misaligned) wide) split) unreal) near;
    }
