use Rattle.std.proofs.Common.{ℕ, ◌<◌, [], ◌∷◌}
use Rattle.omf_making.specs.Made.{pages_of}
use Rattle.omf_making.proofs.MadeLaws.{on_true}
use Rattle.omf_making.proofs.PageNumbers.{of_all}
use Rattle.omf_making.proofs.pages.is_least.Goals as goal

pub returns : goal.returns
returns c =
    on_true c.are_too_many.result _ _ c.are_too_many.ensures (λ all p e.
    of_all (λ (x : ℕ). x < c.args.page → 65536 < pages_of x c.args.parts.now)
    (16 ∷ 32 ∷ 64 ∷ 128 ∷ 256 ∷ 512 ∷ 1024 ∷ 2048 ∷ 4096 ∷ 8192 ∷ 16384 ∷ 32768 ∷ []) p e all)
