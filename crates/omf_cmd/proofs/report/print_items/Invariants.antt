use Rattle.std.proofs.Common.{◌++◌, ◌∷◌, []}
use Rattle.std.specs.Prelude.{flat_map, codes}
use Rattle.omf_cmd.specs.Printed.{line, index_or_dash}
use Rattle.omf_placement.specs.Quoted.{hex, quoted}
use Rattle.omf_cmd.specs.Runs.{IsUnbroken}
use Rattle.omf_cmd.specs.Inner.Printing.{IsWrittenUpTo}
use Rattle.omf_cmd.proofs.report.print_items.Given as goal

-- what is kept, and the public names that are left, are still to be written
abbrev pub invariant-loop-public : goal.invariant-loop-public
invariant-loop-public g l = record {
  written : IsWrittenUpTo (g.K.Sink.seen l.initial.writer).bytes (g.K.Sink.seen l.writer).bytes
      (l.initial.text.items ++ flat_map (λ q. line (codes "P" ∷ index_or_dash l.group ∷ index_or_dash l.segment ∷ hex 8 q.item.offset ∷ quoted q.item.name ∷ [])) l.publics)
      (l.text.items ++ flat_map (λ q. line (codes "P" ∷ index_or_dash l.group ∷ index_or_dash l.segment ∷ hex 8 q.item.offset ∷ quoted q.item.name ∷ [])) l.public-iterator);
  unbroken : IsUnbroken (g.K.Sink.seen l.initial.writer) (g.K.Sink.seen l.writer);
}
