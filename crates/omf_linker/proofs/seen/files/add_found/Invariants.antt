use Rattle.std.proofs.Common.{ℕ, List, drop, map}
use Rattle.std.specs.Prelude.{filter, string_bytes}
use Rattle.omf_check.specs.Module.{typed_modules}
use Rattle.omf_warnings.specs.Lines.{HasLines}
use Rattle.omf_linker.specs.Seen.Looks.{counts}
use Rattle.omf_linker.proofs.seen.files.add_found.Given as goal

-- if the lines of what is left are added, all are
abbrev pub invariant-loop-one : goal.invariant-loop-one
invariant-loop-one l = (end : List ℕ)
    → HasLines (map string_bytes l.labeled.labels.now) (typed_modules l.labeled.modules.now) (filter (counts l.allowed l.as_warning) (drop l.one-index l.found)) (string_bytes l.text) end
    → HasLines (map string_bytes l.labeled.labels.now) (typed_modules l.labeled.modules.now) (filter (counts l.allowed l.as_warning) l.found) (string_bytes l.fn.text) end
