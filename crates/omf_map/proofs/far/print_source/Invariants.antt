use Rattle.std.proofs.Common.{◌≡◌, ◌++◌}
use Rattle.std.specs.Prelude.{string_bytes}
use Rattle.omf_check.specs.Module.{recs_of}
use Rattle.omf_map.specs.Far.{source_lines}
use Rattle.omf_map.proofs.SourceLaws.{listed_lines}
use Rattle.omf_map.proofs.far.print_source.Given as goal

-- the lines so far, and the lines of the records that are left
abbrev pub invariant-loop-rec : goal.invariant-loop-rec
invariant-loop-rec l = string_bytes l.text ++ listed_lines l.of.number (recs_of l.of.own.now.bytes, l.of.placement.now) l.rec-iterator
    ≡ string_bytes l.fn.text ++ source_lines (l.of.number, (recs_of l.of.own.now.bytes, l.of.placement.now))
