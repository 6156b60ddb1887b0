use Rattle.std.proofs.Common.{◌≡◌, ◌≤◌, ◌^◌, drop}
use Rattle.std.specs.Prelude.{option_map}
use Rattle.omf_layout.specs.Layout.{and_then_more, all_laid, external_laid}
use Rattle.omf_layout.specs.Inner.Spots.{spot_laid}
use Rattle.omf_layout.proofs.laying.lay_externals.Given as goal

-- the externals so far are laid, and the others are laid after them
abbrev pub invariant-loop-room : goal.invariant-loop-room
invariant-loop-room l = let lay = external_laid l.options (option_map (λ s. (spot_laid s).what) l.spare) in record {
  laid : and_then_more l.placement.externals (all_laid lay l.free (drop l.room-index l.rooms)) ≡ all_laid lay l.fn.free l.rooms;
  segments : l.placement.segments ≡ l.fn.placement.segments;
  groups : l.placement.groups ≡ l.fn.placement.groups;
  low : l.free ≤ 2 ^ 32;
  from : l.options.base ≤ l.free;
}
