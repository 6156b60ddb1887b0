use Rattle.omf_finding.specs.Inner.Singling.{AreApart, HaveSingles}
use Rattle.omf_finding.proofs.singles.singles_of.Given as goal

-- those of the modules so far
abbrev pub invariant-loop-owner : goal.invariant-loop-owner
invariant-loop-owner l = record {
  have : HaveSingles l.least l.modules l.shapes l.owner l.all.items;
  apart : AreApart l.all.items;
}
