use Rattle.std.proofs.Common.{◌≡◌, ◌++◌, drop}
use Rattle.std.specs.Prelude.{flat_map, map, string_bytes}
use Rattle.omf_exe.specs.Clashing.{clash_line}
use Rattle.omf_exe.proofs.clashing.put_lines.Given as goal

-- the lines so far, and those of the COMDATs that are left
abbrev pub invariant-loop-clash : goal.invariant-loop-clash
invariant-loop-clash l = string_bytes l.text ++ flat_map (clash_line (map string_bytes l.labels)) (drop l.clash-index l.found) ≡ string_bytes l.fn.text ++ flat_map (clash_line (map string_bytes l.labels)) l.found
