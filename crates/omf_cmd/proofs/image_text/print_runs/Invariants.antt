use Rattle.std.proofs.Common.{◌≤◌, ◌-◌, ◌++◌, length, drop}
use Rattle.std.specs.Prelude.{flat_map}
use Rattle.omf_image.specs.Inner.Joined.{runs_of}
use Rattle.omf_image.specs.Overlay.{byte_at}
use Rattle.omf_cmd.specs.Relocated.{place_text, run_lines}
use Rattle.omf_cmd.specs.Runs.{IsUnbroken}
use Rattle.omf_cmd.specs.Inner.Printing.{IsWrittenUpTo}
use Rattle.omf_cmd.proofs.image_text.print_runs.Given as goal

-- what is kept, and the runs that are left, are still to be written
abbrev pub invariant-loop-first : goal.invariant-loop-first
invariant-loop-first g l = record {
  within : l.k ≤ length (runs_of l.image l.segment);
  written : IsWrittenUpTo (g.K.Sink.seen l.initial.writer).bytes (g.K.Sink.seen l.writer).bytes
      (l.initial.text.items ++ flat_map (run_lines (place_text l.segment) (byte_at l.image l.segment)) (runs_of l.image l.segment))
      (l.text.items ++ flat_map (run_lines (place_text l.segment) (byte_at l.image l.segment)) (drop l.k (runs_of l.image l.segment)));
  unbroken : IsUnbroken (g.K.Sink.seen l.initial.writer) (g.K.Sink.seen l.writer);
}

abbrev pub decreases-loop-first : goal.decreases-loop-first
decreases-loop-first g l = length (runs_of l.image l.segment) - l.k
