use Rattle.std.proofs.Common.{◌≡◌, ◌++◌, drop}
use Rattle.std.specs.Prelude.{filter}
use Rattle.omf_check.specs.Module.{typed_modules}
use Rattle.omf_combining.specs.Stack.{is_stack_part}
use Rattle.omf_combining.proofs.stack.add_parts.Given as goal

-- the parts so far, and those of the segments that are left
abbrev pub invariant-loop-portion : goal.invariant-loop-portion
invariant-loop-portion l = let is_part = is_stack_part (typed_modules l.modules) in l.parts.items ++ filter is_part (drop l.portion-index l.run) ≡ l.fn.parts.items ++ filter is_part l.run
