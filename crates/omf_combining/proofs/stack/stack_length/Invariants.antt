use Rattle.std.proofs.Common.{◌≡◌, ◌≤◌, drop}
use Rattle.std.specs.Prelude.{fold}
use Rattle.omf_combining.specs.Stack.{stack_length, with_part}
use Rattle.omf_combining.proofs.stack.stack_length.Given as goal

-- the length so far, with the parts that are left, is that of all
abbrev pub invariant-loop-part : goal.invariant-loop-part
invariant-loop-part l = record {
  all : fold with_part l.length (drop l.part-index l.parts) ≡ stack_length l.parts;
  low : l.length ≤ 65536;
}
