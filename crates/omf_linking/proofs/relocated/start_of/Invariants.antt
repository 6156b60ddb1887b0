use Rattle.std.proofs.Common.{◌≡◌, ◌++◌}
use Rattle.std.specs.Prelude.{zip, option_to_list}
use Rattle.omf_check.specs.Module.{typed_modules}
use Rattle.omf_linking.specs.Starts.{main_starts, one_start}
use Rattle.omf_linking.proofs.StartLaws.{starts_from}
use Rattle.omf_linking.proofs.relocated.start_of.Given as goal

-- the start found so far, with those of the modules that are left, gives the result of all
abbrev pub invariant-loop-j : goal.invariant-loop-j
invariant-loop-j l = let ms = zip (typed_modules l.modules) l.relocated in one_start (option_to_list l.found ++ starts_from ms l.j) ≡ one_start (main_starts ms)
