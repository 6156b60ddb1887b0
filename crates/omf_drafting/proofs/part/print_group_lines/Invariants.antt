use Rattle.std.proofs.Common.{◌≡◌, Bool, ℕ, length, map}
use Rattle.std.specs.Prelude.{string_bytes}
use Rattle.std.specs.List.{enumerate_from}
use Rattle.omf_check.specs.Module.{records_in}
use Rattle.omf_check.specs.Tables.{groups}
use Rattle.omf_check.specs.WellFormed.{recs}
use Rattle.omf_placement.specs.declared.frame.Frame.{Frame}
use Rattle.omf_layout.specs.Reading.{IsShortFrame}
use Rattle.omf_layout.proofs.Printed.{ArePrinted, HoldsTo}
use Rattle.omf_drafting.specs.Text.{group_line}
use Rattle.omf_drafting.proofs.part.print_group_lines.Given as goal

-- the lines so far, and that their numbers are short
abbrev pub invariant-loop-before : goal.invariant-loop-before
invariant-loop-before l = let m = recs (records_in l.«module».bytes) in record {
  end : l.before-end ≡ length (groups m);
  lines : (shares : ℕ → Frame → Bool) → l.part.shares.now.groups.items ≡ map (λ y. shares y.0 y.1) (enumerate_from 1 l.part.placement.now.groups)
      → ArePrinted (group_line shares m) l.part.placement.now.groups l.before (string_bytes l.fn.text) (string_bytes l.text);
  short : HoldsTo IsShortFrame l.part.placement.now.groups l.before;
}
