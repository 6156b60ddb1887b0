use Rattle.std.proofs.Common.{◌≡◌, ◌++◌, drop}
use Rattle.std.specs.Prelude.{flat_map}
use Rattle.std.specs.List.{enumerate_from}
use Rattle.omf_check.specs.Module.{typed_modules}
use Rattle.omf_trimming.specs.Reaching.{roots, roots_of}
use Rattle.omf_trimming.proofs.reaching.roots.roots.Given as goal

-- the segments so far and those to come are all
abbrev pub invariant-loop-number : goal.invariant-loop-number
invariant-loop-number l = l.found.items ++ flat_map (λ m. roots_of l.left_out m.0 m.1) (enumerate_from l.number (typed_modules (drop l.number l.modules))) ≡ roots l.left_out (typed_modules l.modules)
