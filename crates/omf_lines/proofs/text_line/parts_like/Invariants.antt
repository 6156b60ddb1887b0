use Rattle.std.proofs.Common.{◌≡◌, ◌++◌, drop}
use Rattle.std.specs.Prelude.{map, string_bytes}
use Rattle.omf_check.specs.Module.{typed_modules}
use Rattle.omf_linking.specs.Inner.LineParsing.{parts_seen}
use Rattle.omf_lines.specs.TextLines.{parts_like}
use Rattle.omf_lines.proofs.text_line.parts_like.Given as goal

-- the texts of the modules so far, and of those that are left
abbrev pub invariant-loop-module : goal.invariant-loop-module
invariant-loop-module l = map string_bytes l.texts.items ++ parts_like (parts_seen l.parts) (typed_modules (drop l.module-index l.modules)) ≡ parts_like (parts_seen l.parts) (typed_modules l.modules)
