use Rattle.std.proofs.Common.{◌≡◌, drop, map}
use Rattle.std.specs.Prelude.{find, string_bytes}
use Rattle.omf_lines.specs.Near.{bare, is_close, near_name}
use Rattle.omf_lines.proofs.near.near_name.Given as goal

-- the first of the names that are left is the first of all
abbrev pub invariant-loop-name : goal.invariant-loop-name
invariant-loop-name l = find (λ n. is_close (bare l.wanted) (bare n)) (map string_bytes (drop l.name-index l.names)) ≡ near_name l.wanted (map string_bytes l.names)
