use Rattle.std.proofs.Common.{◌≡◌, ◌≤◌, ◌^◌, drop}
use Rattle.omf_layout.specs.Layout.{and_then_more, all_laid}
use Rattle.omf_layout.specs.Several.Laying.{joined_in}
use Rattle.omf_layout.proofs.several.laying.lay_in_frame.Given as goal

-- the segments so far are laid, and the others are laid after them
abbrev pub invariant-loop-portion : goal.invariant-loop-portion
invariant-loop-portion l = record {
  same : and_then_more l.lying.items (all_laid (joined_in l.options.frames l.frame) l.free (drop l.portion-index l.portions)) ≡ and_then_more l.fn.lying.items (all_laid (joined_in l.options.frames l.frame) l.fn.free l.fn.portions);
  low : l.free ≤ 2 ^ 32;
  from : l.fn.free ≤ l.free;
}
