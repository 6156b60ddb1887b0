use Rattle.std.proofs.Common.{◌≡◌, ◌++◌, drop, false, map}
use Rattle.omf_library.specs.Dictionary.{folded}
use Rattle.omf_lib.proofs.defining.put_small.Given as goal

-- the characters so far, and those that are left
abbrev pub invariant-loop-c : goal.invariant-loop-c
invariant-loop-c l = l.key.items ++ map (folded false) (drop l.c-index l.name) ≡ l.fn.key.items ++ map (folded false) l.name
