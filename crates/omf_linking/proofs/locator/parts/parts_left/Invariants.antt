use Rattle.std.proofs.Common.{◌≡◌, ◌++◌, drop, map}
use Rattle.std.specs.List.{filter}
use Rattle.omf_layout.specs.Several.Portions.{with_names}
use Rattle.omf_linking.specs.Inner.Parting.{is_left_in}
use Rattle.omf_linking.proofs.locator.parts.parts_left.Given as goal

-- those so far, and those that are left
abbrev pub invariant-loop-one : goal.invariant-loop-one
invariant-loop-one l =
    map with_names l.left.items ++ filter (λ x. is_left_in l.given x.1.1) (map with_names (drop l.one-index l.named))
    ≡ filter (λ x. is_left_in l.given x.1.1) (map with_names l.named)
