use Rattle.std.specs.Prelude.{string_bytes}
use Rattle.omf_check.specs.Module.{typed_modules}
use Rattle.omf_exe.specs.Listing.{module_line}
use Rattle.omf_placement.proofs.StepLaws.{ArePrinted}
use Rattle.omf_exe.proofs.listing.put_modules.Given as goal

-- the lines of the modules so far
abbrev pub invariant-loop-j : goal.invariant-loop-j
invariant-loop-j l = ArePrinted (module_line l.files l.from) (typed_modules l.modules) l.j (string_bytes l.fn.text) (string_bytes l.text)
