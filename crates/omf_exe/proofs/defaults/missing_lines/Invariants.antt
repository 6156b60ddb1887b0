use Rattle.std.proofs.Common.{◌≡◌, ◌++◌, drop}
use Rattle.std.specs.Prelude.{flat_map, string_bytes}
use Rattle.omf_exe.specs.Libraries.{missing_line}
use Rattle.omf_exe.proofs.defaults.missing_lines.Given as goal

-- the lines so far, and those of the libraries that are left
abbrev pub invariant-loop-name : goal.invariant-loop-name
invariant-loop-name l = string_bytes l.lines ++ flat_map (λ n. missing_line n.items) (drop l.name-index l.missing) ≡ flat_map (λ n. missing_line n.items) l.missing
