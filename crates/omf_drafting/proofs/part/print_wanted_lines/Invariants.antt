use Rattle.std.proofs.Common.{◌≡◌, List, Bool, ℕ, true, false, length}
use Rattle.std.specs.Prelude.{string_bytes, zip}
use Rattle.omf_check.specs.Module.{records_in}
use Rattle.omf_check.specs.Tables.{externals}
use Rattle.omf_check.specs.WellFormed.{recs}
use Rattle.omf_placement.specs.Derive.{named_externals}
use Rattle.omf_layout.specs.Wants.{rooms}
use Rattle.omf_layout.proofs.Printed.{ArePrinted}
use Rattle.omf_externals.specs.Names.{IsNameTable}
use Rattle.omf_drafting.specs.Text.{external_text}
use Rattle.omf_drafting.proofs.part.print_wanted_lines.Given as goal

-- the lines so far
abbrev pub invariant-loop-before : goal.invariant-loop-before
invariant-loop-before l = let m = recs (records_in l.«module».bytes) in record {
  end : l.before-end ≡ length (externals m);
  lines : (among : Bool → List (List ℕ)) → IsNameTable l.all (among false) → IsNameTable l.own (among true) → ArePrinted (external_text among m) (zip (named_externals m) (rooms m)) l.before (string_bytes l.fn.text) (string_bytes l.text);
}
