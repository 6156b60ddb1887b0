use Rattle.std.proofs.Common.{◌≡◌, drop, map}
use Rattle.std.specs.Prelude.{string_bytes}
use Rattle.std.specs.List.{list_any}
use Rattle.omf_linker.specs.Link.Case.{is_ignore_case}
use Rattle.omf_linker.proofs.link.case.has_ignore_case.Given as goal

-- no argument so far is the option
abbrev pub invariant-loop-argument : goal.invariant-loop-argument
invariant-loop-argument l = list_any is_ignore_case (map string_bytes (drop l.argument-index l.arguments)) ≡ list_any is_ignore_case (map string_bytes l.arguments)
