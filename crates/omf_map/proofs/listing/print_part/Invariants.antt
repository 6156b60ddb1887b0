use Rattle.std.specs.Prelude.{string_bytes, zip}
use Rattle.omf_check.specs.Module.{typed_modules}
use Rattle.omf_map.specs.Inner.Steps.{part_lines}
use Rattle.omf_placement.proofs.StepLaws.{ArePrinted}
use Rattle.omf_map.proofs.listing.print_part.Given as goal

-- the lines of the modules so far
abbrev pub invariant-loop-j : goal.invariant-loop-j
invariant-loop-j l = ArePrinted (part_lines l.part) (zip (typed_modules l.modules) l.addresses) l.j (string_bytes l.fn.text) (string_bytes l.text)
