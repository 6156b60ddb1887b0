-- The externals of the members of a program are derived where they are moved to.
use Rattle.std.proofs.Common.{◌≡◌, ℕ, ◌+◌, ◌∙◌, List, [], ◌∷◌, length, refl, sym, ap, subst, arith}
use Rattle.std.specs.Prelude.{◌↔◌, Ok}
use Rattle.omf_check.specs.Module.{Module, typed_modules}
use Rattle.omf_placement.specs.Placement.{Places}
use Rattle.omf_output.specs.Exe.Laws.{AreLow, all_moved, derived_at}
use Rattle.omf_output.specs.Exe.Members.{Member}
use Rattle.omf_output.specs.Exe.Moved.{Movers, moved}
use Rattle.omf_output.proofs.ExternalLaws.{externals-move}
use Rattle.omf_exe.specs.Laws.{ExternalsAreLoaded, placements_at}
use Rattle.omf_exe.specs.Program.{members_from}
use Rattle.omf_exe.proofs.ExeLaws.{are-places, moved-many, placed-many}

moved-kept : (k j : ℕ) (ms : List Module) (pls : List Places) (mvs : List Movers) → length pls ≡ length ms → length mvs ≡ length ms → placements_at k (members_from j ms pls mvs) ≡ all_moved k mvs pls
moved-kept k j [] [] [] e f = refl
moved-kept k j [] [] (v ∷ mvs) e f = refl
moved-kept k j [] (p ∷ pls) mvs e f = absurd (omega (arith, e))
moved-kept k j (m ∷ ms) [] mvs e f = absurd (omega (arith, e))
moved-kept k j (m ∷ ms) (p ∷ pls) [] e f = absurd (omega (arith, f))
moved-kept k j (m ∷ ms) (p ∷ pls) (v ∷ mvs) e f = ap (λ (xs : List Places). moved k v p ∷ xs) (moved-kept k (j + 1) ms pls mvs (omega (arith, e)) (omega (arith, f)))

pub externals-loaded : ExternalsAreLoaded
externals-loaded ms members made k hold =
    let q = made.settled.placed in
    let same : placements_at k members ≡ all_moved k made.movers made.placements
    = ap (λ (xs : List Member). placements_at k xs) made.numbered ∙ moved-kept k 0 ms made.placements made.movers (placed-many ms made.placements q) (moved-many ms made.placements made.movers made.settled) in
    subst (λ (pls : List Places). (derived_at (typed_modules ms) (all_moved k made.movers q.places) ≡ Ok pls) ↔ AreLow pls) (sym same)
    (externals-move k (typed_modules ms) q.places made.placements made.movers hold (are-places ms q.places q.laid) made.settled.moving q.derived)
