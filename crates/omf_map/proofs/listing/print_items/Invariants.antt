use Rattle.std.proofs.Common.{◌≡◌, ◌++◌}
use Rattle.std.specs.Prelude.{flat_map, string_bytes}
use Rattle.omf_map.specs.Addresses.{publics_at}
use Rattle.omf_map.specs.MapText.{public_line}
use Rattle.omf_map.proofs.listing.print_items.Given as goal

-- the lines so far, and those of the publics that are left
abbrev pub invariant-loop-public : goal.invariant-loop-public
invariant-loop-public l = string_bytes l.text ++ flat_map (public_line l.number) (publics_at l.base l.public-iterator) ≡ string_bytes l.fn.text ++ flat_map (public_line l.number) (publics_at l.base l.fn.publics)
