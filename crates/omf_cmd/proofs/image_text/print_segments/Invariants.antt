use Rattle.std.proofs.Common.{◌+◌, ◌-◌, ◌++◌}
use Rattle.std.specs.Prelude.{flat_map}
use Rattle.std.specs.List.{range_with_len}
use Rattle.omf_image.specs.Inner.Joined.{runs_of}
use Rattle.omf_image.specs.Overlay.{byte_at}
use Rattle.omf_cmd.specs.Relocated.{place_text, run_lines}
use Rattle.omf_cmd.specs.Inner.RunLines.{segments_text}
use Rattle.omf_cmd.specs.Runs.{IsUnbroken}
use Rattle.omf_cmd.specs.Inner.Printing.{IsWrittenUpTo}
use Rattle.omf_cmd.proofs.image_text.print_segments.Given as goal

-- what is kept, and the segments that are left, are still to be written
abbrev pub invariant-loop-before : goal.invariant-loop-before
invariant-loop-before g l = record {
  written : IsWrittenUpTo (g.K.Sink.seen l.initial.writer).bytes (g.K.Sink.seen l.writer).bytes
      (l.initial.text.items ++ segments_text l.segments (byte_at l.image) (runs_of l.image))
      (l.text.items ++ flat_map (λ segment. flat_map (run_lines (place_text segment) (byte_at l.image segment)) (runs_of l.image segment)) (range_with_len (l.before + 1) (l.segments - l.before)));
  unbroken : IsUnbroken (g.K.Sink.seen l.initial.writer) (g.K.Sink.seen l.writer);
}
