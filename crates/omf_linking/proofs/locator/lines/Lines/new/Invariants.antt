use Rattle.std.proofs.Common.{◌≡◌, ◌++◌, [], drop, map}
use Rattle.std.specs.List.{enumerate_from}
use Rattle.omf_check.specs.Module.{typed_modules}
use Rattle.omf_linking.specs.Locator.Sparse.{sparse_all, sparse_of}
use Rattle.omf_linking.proofs.locator.lines.Lines.new.Given as goal

-- the tables so far and those of the modules that are left are all
abbrev pub invariant-loop-module : goal.invariant-loop-module
invariant-loop-module l = l.given.items ++ map (sparse_of []) (enumerate_from l.module-index (typed_modules (drop l.module-index l.modules))) ≡ sparse_all (typed_modules l.modules) []
