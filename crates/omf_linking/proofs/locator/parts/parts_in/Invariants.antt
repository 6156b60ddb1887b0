use Rattle.std.proofs.Common.{◌≡◌, ◌++◌, drop, map}
use Rattle.std.specs.List.{filter}
use Rattle.omf_layout.specs.Several.Portions.{with_names}
use Rattle.omf_linking.specs.Inner.LineParsing.{parts_seen}
use Rattle.omf_linking.specs.Locator.Parts.{names_part}
use Rattle.omf_linking.proofs.locator.parts.parts_in.Given as goal

-- those so far, and those that are left
abbrev pub invariant-loop-portion : goal.invariant-loop-portion
invariant-loop-portion l =
    map with_names l.named.items ++ filter (λ x. names_part (parts_seen l.parts) x.0 x.1.0) (map with_names (drop l.portion-index l.portions))
    ≡ filter (λ x. names_part (parts_seen l.parts) x.0 x.1.0) (map with_names l.portions)
