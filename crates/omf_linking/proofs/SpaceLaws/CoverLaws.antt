-- The runs of pieces are in rising order, and cover every byte.
use Rattle.std.proofs.Common.{inl, inr, ℕ, suc, ◌<◌, ◌≤◌, List, [], ◌∷◌, Option, arith}
use Rattle.std.specs.Prelude.{IsSome, IsNone}
use Rattle.omf_image.specs.declared.run.Run.{Run}
use Rattle.omf_image.specs.Overlay.{Laid, byte_at}
use Rattle.omf_image.specs.Inner.Joined.{run_end, runs_of}
use Rattle.omf_image.proofs.RunLaws.{AreApart, Covers, apart_from, runs_cover, some_or_none}

-- ---- no byte is between runs

-- runs in rising order from an address on, which cover every byte from there on
abbrev pub AreAll : (ℕ → Option ℕ) → ℕ → List Run → Type 0
AreAll byte low [] = (x : ℕ) → low ≤ x → IsNone (byte x)
AreAll byte low (r ∷ runs) = (low ≤ r.first) × ((x : ℕ) → low ≤ x → x < r.first → IsNone (byte x)) × AreAll byte (run_end r) runs

covers_from : (low : ℕ) (runs : List Run) (x : ℕ) → AreApart low runs → Covers runs x → low ≤ x
covers_from low [] x h c = absurd c
covers_from low (r ∷ runs) x (from, some, others) (inl i) = omega (arith, i.0)
covers_from low (r ∷ runs) x (from, some, others) (inr c) = omega (arith, covers_from (suc (run_end r)) runs x others c)

all_from : (byte : ℕ → Option ℕ) (low : ℕ) (runs : List Run) → AreApart low runs → ((x : ℕ) → low ≤ x → IsSome (byte x) → Covers runs x) → AreAll byte low runs
all_from byte low [] apart covers = λ x from. some_or_none (byte x) (λ h. covers x from h)
all_from byte low (r ∷ runs) (from, some, others) covers = (
  from,
  λ x above below. some_or_none (byte x) (λ h. elim (covers x above h) [
    | inl i ↦ omega (arith, i.0, below)
    | inr c ↦ omega (arith, covers_from (suc (run_end r)) runs x others c, below)
  ]),
  all_from byte (run_end r) runs (apart_from (run_end r) (suc (run_end r)) runs (omega arith) others) (λ x above h. elim (covers x (omega (arith, from, above)) h) [
    | inl i ↦ absurd (omega (arith, i.1, above))
    | inr c ↦ c
  ]),
)

-- The runs of pieces, from the first address on.
pub runs_are_all : (laid : List Laid) (segment : ℕ) → AreAll (byte_at laid segment) 0 (runs_of laid segment)
runs_are_all laid segment = let h = runs_cover segment laid in all_from (byte_at laid segment) 0 (runs_of laid segment) h.apart (λ x from some. h.covers x some)
