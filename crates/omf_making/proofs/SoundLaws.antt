-- What a bucket has is sound.
use Rattle.std.proofs.Common.{◌≡◌, ℕ, ◌+◌, ◌*◌, ◌<◌, ◌≤◌, Bool, true, false, List, inl, inr, subst, arith}
use Rattle.std.specs.Prelude.{slice_index}
use Rattle.std.proofs.lemmas.Bool.{cases_lt}
use Rattle.omf_library.specs.Dictionary.{block_of, entry_offset, is_inside, name_at, page_at}
use Rattle.omf_making.specs.Made.{AreSoundIn, IsDefinedAt, IsSoundEntry, Opened}

pub sound_empty : (o : Opened) (block : List ℕ) (bucket : ℕ) → entry_offset block bucket ≡ 0 → IsSoundEntry o block (slice_index block bucket)
sound_empty o block bucket e = inl (omega (arith, e))

pub sound_found : (o : Opened) (block : List ℕ) (bucket page : ℕ) (name : List ℕ) → is_inside block (entry_offset block bucket) ≡ true → page ≡ page_at block (entry_offset block bucket)
    → name ≡ name_at block (entry_offset block bucket) → IsDefinedAt o o.members o.parts name page → IsSoundEntry o block (slice_index block bucket)
sound_found o block bucket page name i p n h =
    inr (i, subst (λ xs. IsDefinedAt o o.members o.parts xs (page_at block (entry_offset block bucket))) n (subst (λ k. IsDefinedAt o o.members o.parts name k) p h))

-- One bucket more.
pub sound_more : (o : Opened) (block : List ℕ) (n : ℕ) → ((i : ℕ) → i < n → IsSoundEntry o block (slice_index block i)) → IsSoundEntry o block (slice_index block n) → (i : ℕ) → i < n + 1
    → IsSoundEntry o block (slice_index block i)
sound_more o block n h m i l = elim (cases_lt i n) [
  | inl low ↦ h i low
  | inr high ↦ let same : n ≡ i = omega (arith, l, high) in subst (λ k. IsSoundEntry o block (slice_index block k)) same m
]

-- One block more.
pub sound_blocks : (o : Opened) (dictionary : List ℕ) (n : ℕ) → ((i : ℕ) → i < n → AreSoundIn o (block_of dictionary i)) → AreSoundIn o (block_of dictionary n) → (i : ℕ) → i < n + 1 → AreSoundIn o (block_of dictionary i)
sound_blocks o dictionary n h m i l = elim (cases_lt i n) [
  | inl low ↦ h i low
  | inr high ↦ let same : n ≡ i = omega (arith, l, high) in subst (λ k. AreSoundIn o (block_of dictionary k)) same m
]
