-- Some byte of an image is compared.
use Rattle.std.proofs.Common.{◌≡◌, ℕ, ◌+◌, ◌<◌, Bool, true, false, List, [], ◌∷◌, ap, drop, length, refl, sym, subst, arith}
use Rattle.std.specs.Prelude.{IsSome, not, ◌==◌}
use Rattle.std.proofs.lemmas.Bool.{eqb-true, true≢false}
use Rattle.omf_records.specs.Values.{Rec}
use Rattle.omf_image.specs.Limits.{profile_limits}
use Rattle.omf_image.proofs.RunLaws.{Covers, runs_cover}
use Rattle.omf_image.specs.Inner.Joined.{runs_of}
use Rattle.omf_image.specs.declared.run.Run.{Run}
use Rattle.omf_image.specs.Overlay.{Laid, byte_at, AreBytesOver, spanned}
use Rattle.omf_placement.specs.Placement.{Places}
use Rattle.omf_reloc.specs.Image.{image}
use Rattle.omf_finding.specs.Found.{IsFound, IsFoundInPart}
use Rattle.omf_finding.specs.Inner.Agreeing.{HasByte, SomeCompared}

pub has-byte : (laid : List Laid) (segment first : ℕ) (bytes : List ℕ) → 0 < length bytes → AreBytesOver (byte_at laid segment) (spanned first bytes) bytes → HasByte laid segment
has-byte laid segment first [] some over = absurd (omega (arith, some))
has-byte laid segment first (b ∷ bytes) some over = record { x = first + 0; byte = subst IsSome (sym (over.each 0 (omega (arith, some)))) refl }

pub in-part : (pl : Places) (m : List Rec) (absent program : List ℕ) (base : ℕ) (laid : List Laid) → ((segment x : ℕ) → byte_at laid segment x ≡ image profile_limits pl m segment x) → SomeCompared laid absent
    → IsFound m pl absent program base → IsFoundInPart m pl absent program base
in-part pl m absent program base laid same some found = record {
  found = found;
  segment = some.segment;
  compared = some.compared;
  x = some.has.x;
  byte = subst IsSome (same some.segment some.has.x) some.has.byte;
}

-- Without a run there is no byte.
pub no-byte : (laid : List Laid) (segment : ℕ) → drop 0 (runs_of laid segment) ≡ [] → HasByte laid segment → ⊥
no-byte laid segment none h = covered-none (runs_of laid segment) none h.x ((runs_cover segment laid).covers h.x h.byte)
  where
    covered-none : (runs : List Run) → drop 0 runs ≡ [] → (x : ℕ) → Covers runs x → ⊥
    covered-none [] e x c = c
    covered-none (r ∷ runs) e x c = absurd (let l = ap length e in omega (arith, l))

pub not-empty : (b : Bool) → not b ≡ false → (n : ℕ) → b ≡ (n == 0) → 0 < n → ⊥
not-empty true e n s some = let z : n ≡ 0 = eqb-true n 0 (sym s) in omega (arith, z, some)
not-empty false e n s some = absurd (true≢false e)
