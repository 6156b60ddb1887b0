use Rattle.std.proofs.Common.{◌++◌, ◌∙◌, ap}
use Rattle.std.specs.Prelude.{filter_map, option_to_list}
use Rattle.std.proofs.lemmas.Result.{on_ok_weaker}
use Rattle.omf_check.specs.Module.{typed_modules}
use Rattle.omf_layout.specs.Several.Order.{combined_by}
use Rattle.omf_layout.specs.declared.several.portion.Combination.TheVariants.{Joined, Common, Alone}
use Rattle.omf_listing.specs.Combined.{combined_in, part_at}
use Rattle.omf_listing.proofs.CombinedLaws.{three-added}
use Rattle.omf_listing.proofs.combined.add_run.Goals as goal

pub returns : goal.returns
returns c =
    let ms = typed_modules c.args.modules.now in
    let pls = c.args.placements.now in
    let run = c.args.run.now in
    on_ok_weaker c.add_parts.result (λ w.
    three-added c.args.segments.now.items (option_to_list (combined_in ms pls Joined run)) (option_to_list (combined_in ms pls Common run)) (filter_map (part_at ms pls) (combined_by Alone run))
    c.add.new.segments.items c.add-2.new.segments.items c.add_parts.new.parts.items
    (c.in_ok-add.ensures ∙ ap (λ s. c.args.segments.now.items ++ option_to_list s) c.in_ok-joined.ensures)
    (c.in_ok-add-2.ensures ∙ ap (λ s. c.add.new.segments.items ++ option_to_list s) c.in_ok-common.ensures)
    (w ∙ ap (λ ps. c.add-2.new.segments.items ++ filter_map (part_at ms pls) ps) (c.deref.ensures.value ∙ c.in_ok-alone.ensures)))
    c.add_parts.ensures
