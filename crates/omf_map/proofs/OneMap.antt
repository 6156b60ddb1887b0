-- The map of a program is one text, of which each part follows the ones before it.
use Rattle.std.proofs.Common.{◌≡◌, ◌∙◌, ◌++◌, List, ap, sym}
use Rattle.std.specs.Prelude.{codes, flat_map}
use Rattle.std.specs.List.{enumerate_from}
use Rattle.omf_check.specs.Module.{typed_modules}
use Rattle.omf_listing.specs.Combined.{CombinedSegment, by_start, combined_segments}
use Rattle.omf_listing.specs.Publics.{by_name, by_value}
use Rattle.omf_listing.proofs.OrderLaws.{name-order, start-order, value-order}
use Rattle.omf_listing.proofs.SortedLaws.{sorted-once}
use Rattle.omf_placement.specs.Derive.{PlacedPublic, all_publics, placed_modules}
use Rattle.omf_map.specs.Addresses.{addressed}
use Rattle.omf_map.specs.Far.{far_line, group_lines, source_lines, whole_line}
use Rattle.omf_map.specs.Laws.{MapsAreOne}
use Rattle.omf_map.specs.MapText.{map_text}

pub maps-are-one : MapsAreOne
maps-are-one ms pls s t a b =
    let all = placed_modules ms pls in
    let front = map_text (addressed (typed_modules ms) pls) in
    let groups = flat_map group_lines (enumerate_from 1 all) in
    let sources = flat_map source_lines (enumerate_from 1 all) in
    let names = flat_map (far_line (codes "name")) in
    let values = flat_map (far_line (codes "value")) in
    let one : a.segments ≡ b.segments = sorted-once by_start start-order (combined_segments (typed_modules ms) pls) a.segments b.segments a.by_address b.by_address in
    let two : a.names ≡ b.names = sorted-once by_name name-order (all_publics all) a.names b.names a.by_name b.by_name in
    let three : a.values ≡ b.values = sorted-once by_value value-order (all_publics all) a.values b.values a.by_value b.by_value in
    a.printed
    ∙ ap (λ (xs : List CombinedSegment). front ++ flat_map whole_line xs ++ groups ++ names a.names ++ values a.values ++ sources) one
    ∙ ap (λ (xs : List PlacedPublic). front ++ flat_map whole_line b.segments ++ groups ++ names xs ++ values a.values ++ sources) two
    ∙ ap (λ (xs : List PlacedPublic). front ++ flat_map whole_line b.segments ++ groups ++ names b.names ++ values xs ++ sources) three
    ∙ sym b.printed

pub five-parts : {B : Type 0} (old a b c d e one two three four five : List B) → one ≡ old ++ a → two ≡ one ++ b → three ≡ two ++ c → four ≡ three ++ d → five ≡ four ++ e
    → five ≡ old ++ a ++ b ++ c ++ d ++ e
five-parts old a b c d e one two three four five f g h i j = j ∙ ap (λ t. t ++ e) (i ∙ ap (λ t. t ++ d) (h ∙ ap (λ t. t ++ c) (g ∙ ap (λ t. t ++ b) f)))
