use Rattle.std.proofs.Common.{◌≡◌, ◌++◌, ◌∙◌, List, ℕ, ap}
use Rattle.std.specs.Prelude.{codes, flat_map, string_bytes}
use Rattle.std.specs.List.{enumerate_from}
use Rattle.omf_listing.specs.Combined.{CombinedSegment}
use Rattle.omf_placement.specs.Derive.{PlacedPublic, placed_modules}
use Rattle.omf_map.specs.Far.{far_line, group_lines, source_lines, whole_line}
use Rattle.omf_map.proofs.OneMap.{five-parts}
use Rattle.omf_map.proofs.far.program_map.Goals as goal

pub returns : goal.returns
returns c =
    let all = enumerate_from 1 (placed_modules c.args.modules.now c.args.placements.now) in
    let segments = c.in_ok-segments.segments.items in
    let names = c.in_ok-names.names.items in
    let values = c.in_ok-values.values.items in
    let after : List ℕ → List ℕ = λ t. t ++ flat_map whole_line segments ++ flat_map group_lines all ++ flat_map (far_line (codes "name")) names ++ flat_map (far_line (codes "value")) values ++ flat_map source_lines all in
    let start = string_bytes c.in_ok-text.text in
    let one : string_bytes c.print_wholes.new.text ≡ start ++ flat_map whole_line segments =
    c.in_ok-print_wholes.ensures ∙ ap (λ (xs : List CombinedSegment). start ++ flat_map whole_line xs) c.deref.ensures.value in
    let two : string_bytes c.print_all_groups.new.text ≡ string_bytes c.print_wholes.new.text ++ flat_map group_lines all = c.in_ok-print_all_groups.ensures in
    let three : string_bytes c.print_publics.new.text ≡ string_bytes c.print_all_groups.new.text ++ flat_map (far_line (codes "name")) names =
    c.in_ok-print_publics.ensures ∙ ap (λ (xs : List PlacedPublic). string_bytes c.print_all_groups.new.text ++ flat_map (far_line (codes "name")) xs) c.deref-2.ensures.value in
    let four : string_bytes c.print_publics-2.new.text ≡ string_bytes c.print_publics.new.text ++ flat_map (far_line (codes "value")) values =
    c.in_ok-print_publics-2.ensures ∙ ap (λ (xs : List PlacedPublic). string_bytes c.print_publics.new.text ++ flat_map (far_line (codes "value")) xs) c.deref-3.ensures.value in
    let five : string_bytes c.print_all_sources.new.text ≡ string_bytes c.print_publics-2.new.text ++ flat_map source_lines all = c.in_ok-print_all_sources.ensures in
    let whole : string_bytes c.print_all_sources.new.text ≡ after start = five-parts start (flat_map whole_line segments) (flat_map group_lines all) (flat_map (far_line (codes "name")) names)
    (flat_map (far_line (codes "value")) values) (flat_map source_lines all) (string_bytes c.print_wholes.new.text) (string_bytes c.print_all_groups.new.text)
    (string_bytes c.print_publics.new.text) (string_bytes c.print_publics-2.new.text) (string_bytes c.print_all_sources.new.text) one two three four five in
    record {
      segments = segments;
      names = names;
      values = values;
      by_address = c.in_ok-segments.ensures;
      by_name = c.in_ok-names.ensures;
      by_value = c.in_ok-values.ensures;
      printed = whole ∙ ap after c.in_ok-text.ensures;
    }
