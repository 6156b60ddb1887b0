use Rattle.std.proofs.Common.{◌≡◌, map}
use Rattle.std.specs.Prelude.{All, IfSome, None}
use Rattle.omf_check.specs.Listed.{placed_from}
use Rattle.omf_check.specs.Module.{records_in}
use Rattle.omf_reloc.specs.Inner.Pieces.{placed_pieces}
use Rattle.omf_output.specs.Inner.Taking.{CanTake}
use Rattle.omf_output.specs.Exe.Overlaps.{IsLow, all_words}
use Rattle.omf_output.proofs.exe.words.add_words.Given as goal

-- the words so far and the pieces to come give what all the pieces give
abbrev pub invariant-loop-place : goal.invariant-loop-place
invariant-loop-place l = record {
  same : all_words l.movers l.placement l.last l.place-iterator l.words ≡ all_words l.movers l.placement None (placed_pieces (placed_from 0 0 (records_in l.module.bytes))) l.fn.words;
  can : All CanTake (map (λ x. x.1) l.place-iterator);
  low : IfSome l.last IsLow;
}
