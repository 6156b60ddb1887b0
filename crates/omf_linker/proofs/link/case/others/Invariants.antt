use Rattle.std.proofs.Common.{◌≡◌, ◌++◌, drop, map}
use Rattle.std.specs.Prelude.{filter, string_bytes}
use Rattle.omf_linker.specs.Link.Case.{is_other}
use Rattle.omf_linker.proofs.link.case.others.Given as goal

-- the words so far, and those that are left
abbrev pub invariant-loop-argument : goal.invariant-loop-argument
invariant-loop-argument l = map string_bytes l.words.items ++ filter is_other (map string_bytes (drop l.argument-index l.arguments)) ≡ filter is_other (map string_bytes l.arguments)
