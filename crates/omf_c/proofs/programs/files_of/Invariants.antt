use Rattle.std.proofs.Common.{◌≡◌, map, take}
use Rattle.omf_c.specs.Programs.{file_of}
use Rattle.omf_c.proofs.programs.files_of.Given as goal

-- the files of the rows so far
abbrev pub invariant-loop-row : goal.invariant-loop-row
invariant-loop-row l = l.files.items ≡ map file_of (take l.row-index l.rows)
