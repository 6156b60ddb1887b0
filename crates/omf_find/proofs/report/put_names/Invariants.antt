use Rattle.std.proofs.Common.{◌≡◌, ◌++◌, take}
use Rattle.std.specs.Prelude.{flat_map, map, string_bytes}
use Rattle.omf_find.specs.Map.{name_line}
use Rattle.omf_find.proofs.report.put_names.Given as goal

-- the lines so far
abbrev pub invariant-loop-row : goal.invariant-loop-row
invariant-loop-row l = l.text.items ≡ l.fn.text.items ++ flat_map (name_line l.format (map string_bytes l.source.files.now) l.source.gathered.now l.what) (take l.row-index l.rows)
