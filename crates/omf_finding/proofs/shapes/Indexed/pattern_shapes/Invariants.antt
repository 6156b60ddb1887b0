use Rattle.std.proofs.Common.{◌≡◌, length}
use Rattle.omf_finding.specs.Inner.Shaping.{AreShapes}
use Rattle.omf_finding.specs.Inner.Walking.{byte_in}
use Rattle.omf_finding.proofs.shapes.Indexed.pattern_shapes.Given as goal

-- the segments so far have their shapes
abbrev pub invariant-loop-index : goal.invariant-loop-index
invariant-loop-index l = record {
  are : AreShapes (byte_in l.pattern) l.self.program.now.bytes.items l.self.program.now.base l.self.most l.index l.shapes.items;
  count : length l.shapes.items ≡ l.index;
}
