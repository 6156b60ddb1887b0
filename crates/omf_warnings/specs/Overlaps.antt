-- Segments with addresses in common (this profile's rule).
use Rattle.std.specs.Prelude.{◌≡◌, ℕ, ◌<◌, ◌≤◌, max, Bool, true, false, ◌&&◌, List, ◌∷◌, Option, Some, None}
use Rattle.std.specs.List.{AllPairs}
use Rattle.std.specs.List.Sorted.{IsPermutation}
use Rattle.std.specs.Str.{bytes_eq}
use Rattle.omf_warnings.specs.declared.span.Sharing.{Sharing}
use Rattle.omf_warnings.specs.declared.span.Sharing.TheVariants.{Common, Absolute}
use Rattle.omf_warnings.specs.declared.span.Span.{Span}

-- Common segments may share addresses if they have one name and class, and absolute ones always. No others may.
abbrev pub may_share_by : Sharing → Sharing → Bool → Bool
may_share_by Common Common same = same
may_share_by Absolute Absolute same = true
may_share_by _ _ same = false

abbrev pub may_share : Span → Span → Bool
may_share a b = may_share_by a.sharing b.sharing (bytes_eq a.name.now b.name.now && bytes_eq a.class.now b.class.now)

-- Two segments overlap: neither is empty, they have an address in common, and they may not share it.
pub record Overlap (a b : Span) : Type 0 where
  pub one : a.first < a.end
  pub other : b.first < b.end
  pub here : a.first < b.end
  pub there : b.first < a.end
  pub apart : may_share a b ≡ false

-- The first address that two segments have in common.
abbrev pub begin_of : Span → Span → ℕ
begin_of a b = max a.first b.first

-- Two of these segments.
abbrev pub AreTwoOf : List Span → Span → Span → Type 0
AreTwoOf spans a b = (others : List Span) × IsPermutation spans (a ∷ b ∷ others)

-- No two of these segments overlap; or these two do, and no two have a lower address in common that overlap. The one that begins first is named first.
abbrev pub IsFirstOverlap : List Span → Option (Span × Span) → Type 0
IsFirstOverlap spans None = AllPairs (λ a b. Overlap a b → ⊥) spans
IsFirstOverlap spans (Some (a, b)) = AreTwoOf spans a b × Overlap a b × (a.first ≤ b.first) × AllPairs (λ c d. Overlap c d → begin_of a b ≤ begin_of c d) spans
