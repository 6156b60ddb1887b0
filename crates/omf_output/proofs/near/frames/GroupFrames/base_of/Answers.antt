use Rattle.std.proofs.Common.{◌≡◌, ◌∙◌, List, ap, sym}
use Rattle.std.specs.Prelude.{Some, option_map}
use Rattle.omf_check.specs.Module.{records_in}
use Rattle.omf_check.specs.WellFormed.{recs}
use Rattle.omf_placement.specs.Derive.{PlacedModule, placed_modules}
use Rattle.omf_output.specs.Inner.GroupFrames.{Key}
use Rattle.omf_output.specs.Near.{full_name_at, group_frames_of, shared_base}
use Rattle.omf_output.proofs.FrameLaws.{base-found, names_of}
use Rattle.omf_output.proofs.near.frames.GroupFrames.base_of.Goals as goal

pub returns : goal.returns
returns c =
    let s = c.self.inside in
    let ms = placed_modules s.modules.now s.placements.now in
    let m = recs (records_in c.args.«module».now.bytes) in
    let k : Key = (c.of.result, c.of-2.result) in
    let n : Key = (c.in_ok-name.name, c.in_ok-name.class) in
    let named : Some (names_of n) ≡ full_name_at m c.args.segment = sym (ap (option_map names_of) c.in_ok-name.was) ∙ c.full_name.ensures in
    c.copied.ensures ∙ c.get.ensures.value ∙ base-found s.table.by_name (group_frames_of ms) k n (full_name_at m c.args.segment) c.self.invariant c.of.ensures c.of-2.ensures named
    ∙ ap (λ (all : List PlacedModule). shared_base all m c.args.segment) c.self.view_is
