use Rattle.std.specs.Prelude.{map}
use Rattle.omf_placement.specs.Derive.{placed_modules}
use Rattle.omf_placement.proofs.LinkageLaws.{IsReached}
use Rattle.omf_placement.proofs.several.linkage.try_resolve.Given as goal

-- the externals of the modules so far have these places
abbrev pub invariant-loop-j : goal.invariant-loop-j
invariant-loop-j l = IsReached (placed_modules l.modules l.places) l.given (map (λ e. e.items) l.resolved.items) l.j
