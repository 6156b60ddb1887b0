use Rattle.omf_dump.specs.Names.{row_line}
use Rattle.omf_dump.proofs.NamingLaws.{AreCounted, AreWritten}
use Rattle.omf_dump.proofs.naming.show_rows.Given as goal

-- the lines of the records so far are written but for what is collected; the index of the next external
abbrev pub invariant-loop-rec : goal.invariant-loop-rec
invariant-loop-rec g l = record {
  written : AreWritten (row_line l.names.shape l.names.which l.names.head.now) l.names.facts l.first l.rec-iterator l.text.items (g.K.Sink.seen l.initial.writer).bytes (g.K.Sink.seen l.writer).bytes;
  counted : AreCounted l.names.facts l.first l.rec-iterator;
}
