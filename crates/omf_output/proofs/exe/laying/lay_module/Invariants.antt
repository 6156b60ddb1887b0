use Rattle.std.proofs.Common.{◌≡◌, map, length}
use Rattle.std.specs.Prelude.{None}
use Rattle.omf_check.specs.Module.{records_in}
use Rattle.omf_check.specs.WellFormed.{recs}
use Rattle.omf_reloc.specs.Inner.Pieces.{single_pieces}
use Rattle.omf_output.specs.Inner.Laying.{AllCanLay, all_laid}
use Rattle.omf_output.proofs.exe.laying.lay_module.Given as goal

-- what is laid so far and the pieces to come give what all the pieces give
abbrev pub invariant-loop-place : goal.invariant-loop-place
invariant-loop-place l = record {
  same : all_laid l.placement l.last (map (λ x. x.1) l._place-iterator) l.image ≡ all_laid l.placement None (single_pieces (recs (records_in l.module.bytes))) l.fn.image;
  can : AllCanLay l.placement (length l.fn.image) l.last (map (λ x. x.1) l._place-iterator);
}
