use Rattle.std.proofs.Common.{◌≡◌, ◌++◌, drop}
use Rattle.std.specs.Prelude.{codes, flat_map, string_bytes}
use Rattle.omf_placement.specs.Quoted.{quoted}
use Rattle.omf_aliases.proofs.circles.put_others.Given as goal

-- the names so far, and those that are left
abbrev pub invariant-loop-name : goal.invariant-loop-name
invariant-loop-name l = string_bytes l.text ++ flat_map (λ n. codes ", " ++ quoted n) (drop l.name-index l.names) ≡ string_bytes l.fn.text ++ flat_map (λ n. codes ", " ++ quoted n) l.names
