-- The computed blocks, their faults and their length.
use Rattle.std.proofs.Common.{◌≡◌, ℕ, zero, suc, ◌<◌, Bool, true, false, List, [], ◌∷◌, Result, Ok, Err, refl, ◌∙◌, ap, subst, arith}
use Rattle.std.specs.Prelude.{Contains, nat_le}
use Rattle.std.proofs.lemmas.Bool.{le-leb, leb-true}
use Rattle.omf_frame.specs.Fault.{Fault, rule, broken}
use Rattle.omf_frame.specs.declared.fault.Reason.TheVariants as reason
use Rattle.omf_records.specs.Layout.{fault, Meets}
use Rattle.omf_image.specs.Blocks.{Blocks, blocks, blocks_bytes, blocks_size}
use Rattle.omf_image.specs.Inner.BlockReaders.{blocks_whole}
use Rattle.omf_image.specs.Inner.Expanding.{blocks_of, blocks_or_none, faults_of, read_blocks}
use Rattle.omf_image.specs.declared.limits.Limits.{Limits}
use Rattle.omf_image.proofs.LengthLaws.{blocks_read}
use Rattle.omf_image.specs.Laws.{BlocksAreExpanded, BlockFaultsAreLeast, BlocksAreMeasured, IsLeastOf}

-- a list of one fault has no other
contained : (x y : Fault) → Contains (x ∷ []) y → x ≡ y
contained x y (zero, low, is) = is
contained x y (suc k, low, is) = absurd (omega (arith, low))

module _ (width : ℕ) (limits : Limits) (bytes : List ℕ) where
  abbrev r : Result Blocks Fault
  r = read_blocks width limits.nesting bytes

  again : (trees : Blocks) → (blocks width limits.nesting).Spells 0 bytes trees → r ≡ Ok trees
  again trees sp = (blocks_whole width limits.nesting).again 0 bytes trees sp

  pub same_blocks : (trees : Blocks) → (blocks width limits.nesting).Spells 0 bytes trees → blocks_of width limits bytes ≡ trees
  same_blocks trees sp = ap blocks_or_none (again trees sp)

  abbrev Met : Result Blocks Fault → Type 0
  Met q = Meets (blocks width limits.nesting) 0 bytes q

  none_where : (q : Result Blocks Fault) → Met q → faults_of q ≡ [] → (trees : Blocks) × (blocks width limits.nesting).Spells 0 bytes trees
  none_where (Ok trees) m e = (trees, m.spelled)
  none_where (Err f) m e = absurd cc

  least_of : (q : Result Blocks Fault) → Met q → (f : Fault) → Contains (faults_of q) f → IsLeastOf ((blocks width limits.nesting).Faults 0 bytes) f
  least_of (Ok trees) m f (k, low, is) = absurd (omega (arith, low))
  least_of (Err g) m f c = subst (IsLeastOf ((blocks width limits.nesting).Faults 0 bytes)) (contained g f c) (m.faulty, m.first)

  too_long : (n : ℕ) → limits.expanded < n → broken (rule (nat_le n limits.expanded) 0 reason.DataTooLong ∷ []) ≡ fault 0 reason.DataTooLong ∷ []
  too_long n low = by (nat_le n limits.expanded) refl
    where
      by : (b : Bool) → nat_le n limits.expanded ≡ b → broken (rule b 0 reason.DataTooLong ∷ []) ≡ fault 0 reason.DataTooLong ∷ []
      by true e = let within = leb-true n limits.expanded e in absurd (omega (arith, low, within))
      by false e = refl

pub are_expanded : BlocksAreExpanded
are_expanded width limits bytes trees sp =
    let same = same_blocks width limits bytes trees sp in
    (same, ap blocks_bytes same, ap faults_of (again width limits bytes trees sp))

pub faults_are_least : BlockFaultsAreLeast
faults_are_least width limits bytes h =
    let q = read_blocks width limits.nesting bytes in
    let m = blocks_read width limits.nesting bytes h in (
      (none_where width limits bytes q m, λ t. ap faults_of (again width limits bytes t.0 t.1)),
      least_of width limits bytes q m,
    )

pub are_measured : BlocksAreMeasured
are_measured width limits bytes trees sp =
    let same = ap blocks_size (same_blocks width limits bytes trees sp) in (
      λ low. ap (λ (n : ℕ). broken (rule (nat_le n limits.expanded) 0 reason.DataTooLong ∷ [])) same
          ∙ ap (λ (b : Bool). broken (rule b 0 reason.DataTooLong ∷ [])) (le-leb (blocks_size trees) limits.expanded low),
      λ low. ap (λ (n : ℕ). broken (rule (nat_le n limits.expanded) 0 reason.DataTooLong ∷ [])) same ∙ too_long width limits bytes (blocks_size trees) low,
    )
