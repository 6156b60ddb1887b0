use Rattle.std.proofs.Common.{◌≡◌, ◌++◌, take}
use Rattle.std.specs.Prelude.{flat_map, string_bytes}
use Rattle.omf_map.specs.Far.{far_line}
use Rattle.omf_map.proofs.far.print_publics.Given as goal

-- the lines so far
abbrev pub invariant-loop-public : goal.invariant-loop-public
invariant-loop-public l = string_bytes l.text ≡ string_bytes l.fn.text ++ flat_map (far_line l.word) (take l.public-index l.publics)
