use Rattle.std.proofs.Common.{◌≡◌, ◌+◌, length, drop, take}
use Rattle.std.specs.List.{AllZip}
use Rattle.std.specs.Vec.Iter.{into_iter_items}
use Rattle.omf_finding.specs.Finding.{IsTold}
use Rattle.omf_finding.specs.Chain.{IsDraft}
use Rattle.omf_finding.proofs.ChainLaws.{AreSo}
use Rattle.omf_finding.proofs.CloseLaws.{AreLeft}
use Rattle.omf_finding.proofs.finding.verdicts.Given as goal

-- the modules so far have their verdicts, which have the drafts of those that have joined; the others are apart
abbrev pub invariant-loop-number : goal.invariant-loop-number
invariant-loop-number l = record {
  told : AllZip (IsTold l.ended.program.now l.ended.most) (take l.number l.modules) l.verdicts.items;
  left : into_iter_items l.left ≡ drop l.number l.fn.drafts.items;
  size : length (into_iter_items l.left) + l.number ≡ length l.modules;
  found : AreSo l.fn.drafts.items l.joined.marks.items l.verdicts.items l.number;
  drafts : AllZip (IsDraft l.ended.program.now) (take l.number l.modules) l.unreferenced.items;
  unreferenced : AreLeft l.fn.drafts.items l.joined.marks.items l.unreferenced.items l.number;
}
