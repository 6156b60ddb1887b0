-- The number of records that replace each record.
use Rattle.std.proofs.Common.{◌≡◌, ◌∙◌, ℕ, ◌+◌, Bool, true, false, cond, List, [], ◌∷◌, ◌++◌, length, refl, ap}
use Rattle.std.specs.Prelude.{◌==◌, map}
use Rattle.omf_frame.specs.Bytes.{with_before}
use Rattle.omf_frame.specs.Framing.{Raw, raw_of}
use Rattle.omf_explicit.specs.Explicit.{segment_count}
use Rattle.omf_aligned.specs.Aligned.{alignment_of, block_comment, is_changed, replacement, with_page}
use Rattle.omf_aligned.specs.Inner.Counts.{count_of}

by_case : (b c : Bool) (x y z : Raw) → length (cond b (x ∷ cond c (y ∷ []) []) (z ∷ [])) ≡ cond b (cond c 2 1) 1
by_case true true x y z = refl
by_case true false x y z = refl
by_case false c x y z = refl

count_is : (index : ℕ) (r : Raw) → length (replacement index r) ≡ count_of r
count_is index r = by_case (is_changed r) (alignment_of r.body == 6) (raw_of r.kind (with_page r.body)) (block_comment index) r

pub counts_are : (before rs : List Raw) → with_before (λ b r. length (replacement (segment_count b + 1) r) ∷ []) before rs ≡ map count_of rs
counts_are before [] = refl
counts_are before (r ∷ rs) = ap (λ n. n ∷ with_before (λ b x. length (replacement (segment_count b + 1) x) ∷ []) (before ++ r ∷ []) rs) (count_is (segment_count before + 1) r) ∙ ap (λ l. count_of r ∷ l) (counts_are (before ++ r ∷ []) rs)
