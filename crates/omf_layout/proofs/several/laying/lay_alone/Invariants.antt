use Rattle.std.proofs.Common.{◌≡◌, ◌≤◌, ◌^◌, drop}
use Rattle.omf_layout.specs.Layout.{and_then_more, all_laid}
use Rattle.omf_layout.specs.Several.Laying.{alone_laid}
use Rattle.omf_layout.proofs.several.laying.lay_alone.Given as goal

-- the segments so far are laid, and the others are laid after them
abbrev pub invariant-loop-portion : goal.invariant-loop-portion
invariant-loop-portion l = record {
  same : and_then_more l.lying.items (all_laid (alone_laid l.options.frames) l.free (drop l.portion-index l.portions)) ≡ and_then_more l.fn.lying.items (all_laid (alone_laid l.options.frames) l.fn.free l.fn.portions);
  low : l.free ≤ 2 ^ 32;
  from : l.fn.free ≤ l.free;
}
