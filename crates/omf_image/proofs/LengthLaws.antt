-- The length of blocks, or their first fault.
use Rattle.std.proofs.Common.{◌≡◌, inl, inr, ℕ, ◌<◌, ◌≤◌, Bool, true, false, List, [], ◌∷◌, Result, Ok, Err, refl, sym, ◌∙◌, ap, subst, arith}
use Rattle.std.specs.Prelude.{◌↔◌, IsTrue, nat_le}
use Rattle.std.proofs.lemmas.Bool.{le-leb}
use Rattle.std.proofs.lemmas.Bool.Decides.{leb_tells}
use Rattle.omf_frame.proofs.FaultLaws.{least_unique, all_cons}
use Rattle.omf_records.specs.Inner.Steps.{before_itself}
use Rattle.omf_frame.specs.Bytes.{AreBytes}
use Rattle.omf_frame.specs.Fault.{Fault, is_before, rule, broken, first_step, least}
use Rattle.omf_frame.specs.declared.fault.Reason.TheVariants as reason
use Rattle.omf_records.specs.Layout.{fault, Meets}
use Rattle.omf_records.specs.Inner.Meets.{whole_meets}
use Rattle.omf_image.specs.Blocks.{Blocks, blocks, blocks_size, AreBlocks, IsFirstFault}
use Rattle.omf_image.specs.Inner.BlockReaders.{blocks_whole}
use Rattle.omf_image.specs.Inner.Expanding.{read_blocks, blocks_or_none, faults_of, length_or, expanded_length}
use Rattle.omf_image.specs.declared.limits.Limits.{Limits}

pub blocks_read : (width levels : ℕ) (bytes : List ℕ) → AreBytes bytes → Meets (blocks width levels) 0 bytes (read_blocks width levels bytes)
blocks_read width levels bytes h = whole_meets (blocks_whole width levels) 0 bytes h

-- the length of blocks that were read, by the test whether they are within the limit
abbrev pub judged : Bool → ℕ → Result ℕ Fault
judged b n = length_or n (least (first_step ([] ∷ broken (rule b 0 reason.DataTooLong ∷ []) ∷ [])))

abbrev pub length_of : ℕ → Result Blocks Fault → Result ℕ Fault
length_of limit r = length_or (blocks_size (blocks_or_none r)) (least (first_step (faults_of r ∷ broken (rule (nat_le (blocks_size (blocks_or_none r)) limit) 0 reason.DataTooLong ∷ []) ∷ [])))

judged_ok : (b : Bool) (n m : ℕ) → judged b n ≡ Ok m → (b ≡ true) × (n ≡ m)
judged_ok true n m e = (refl, cc)
judged_ok false n m e = absurd cc

judged_err : (b : Bool) (n : ℕ) (f : Fault) → judged b n ≡ Err f → (b ≡ false) × (f ≡ fault 0 reason.DataTooLong)
judged_err true n f e = absurd cc
judged_err false n f e = (refl, cc)

within : (n limit : ℕ) → nat_le n limit ≡ true → n ≤ limit
within n limit e = elim (leb_tells n limit) [ inl t ↦ t.1 | inr t ↦ absurd (let same = t.0 in cc) ]

beyond : (n limit : ℕ) → nat_le n limit ≡ false → limit < n
beyond n limit e = elim (leb_tells n limit) [ inl t ↦ absurd (let same = t.0 in cc) | inr t ↦ omega (arith, t.1) ]

pub is_within : (n limit : ℕ) → n ≤ limit → nat_le n limit ≡ true
is_within n limit h = le-leb n limit h

pub is_beyond : (n limit : ℕ) → limit < n → nat_le n limit ≡ false
is_beyond n limit h = elim (leb_tells n limit) [ inl t ↦ absurd (omega (arith, t.1, h)) | inr t ↦ t.0 ]

module _ (width : ℕ) (limits : Limits) (bytes : List ℕ) where
  abbrev Met : Result Blocks Fault → Type 0
  Met r = Meets (blocks width limits.nesting) 0 bytes r

  ok_is : (r : Result Blocks Fault) → Met r → (n : ℕ) → length_of limits.expanded r ≡ Ok n → (trees : Blocks) × AreBlocks width limits bytes trees × (blocks_size trees ≡ n)
  ok_is (Ok t) m n e = let j = judged_ok (nat_le (blocks_size t) limits.expanded) (blocks_size t) n e in (t, (m.spelled, within (blocks_size t) limits.expanded j.0), j.1)
  ok_is (Err f) m n e = absurd cc

  is_ok_of : (r : Result Blocks Fault) → Met r → (n : ℕ) → ((trees : Blocks) × AreBlocks width limits bytes trees × (blocks_size trees ≡ n)) → length_of limits.expanded r ≡ Ok n
  is_ok_of r m n (t, (sp, le), size) = ap (length_of limits.expanded) (m.given t sp) ∙ ap (λ b. judged b (blocks_size t)) (is_within (blocks_size t) limits.expanded le) ∙ ap Ok size

  err_is : (r : Result Blocks Fault) → Met r → (e : Fault) → length_of limits.expanded r ≡ Err e → IsFirstFault width limits bytes e
  err_is (Ok t) m e h = let j = judged_err (nat_le (blocks_size t) limits.expanded) (blocks_size t) e h in inr (t, m.spelled, beyond (blocks_size t) limits.expanded j.0, j.1)
  err_is (Err f) m e h = let same : f ≡ e = cc in inl (subst (λ x. (blocks width limits.nesting).Faults 0 bytes x × ((g : Fault) → (blocks width limits.nesting).Faults 0 bytes g → IsTrue (is_before x g))) same (m.faulty, m.first))

  -- two faults, neither before the other, are equal
  same_fault : (d e : Fault) → IsTrue (is_before d e) → IsTrue (is_before e d) → d ≡ e
  same_fault d e de ed = least_unique (d ∷ e ∷ []) d e
      ((0, omega arith, refl), all_cons (λ g. IsTrue (is_before d g)) d (e ∷ []) (before_itself d) (all_cons (λ g. IsTrue (is_before d g)) e [] de (λ k x low. absurd (omega (arith, low)))))
      ((1, omega arith, refl), all_cons (λ g. IsTrue (is_before e g)) d (e ∷ []) ed (all_cons (λ g. IsTrue (is_before e g)) e [] (before_itself e) (λ k x low. absurd (omega (arith, low)))))

  is_err_of : AreBytes bytes → (e : Fault) → IsFirstFault width limits bytes e → length_of limits.expanded (read_blocks width limits.nesting bytes) ≡ Err e
  is_err_of h e (inl (is, least_)) =
      let w = blocks_whole width limits.nesting in
      let d = w.refuses 0 bytes e h is in
      let same : d.given ≡ e = same_fault d.given e d.first (least_ d.given (w.err 0 bytes d.given h d.is)) in
      ap (length_of limits.expanded) d.is ∙ ap Err same
  is_err_of h e (inr (t, sp, more, is)) =
      ap (length_of limits.expanded) ((blocks_whole width limits.nesting).again 0 bytes t sp)
      ∙ ap (λ b. judged b (blocks_size t)) (is_beyond (blocks_size t) limits.expanded more) ∙ ap Err (sym is)

pub length_decided : (width : ℕ) (limits : Limits) (bytes : List ℕ) → AreBytes bytes
    → ((n : ℕ) → (expanded_length width limits bytes ≡ Ok n) ↔ ((trees : Blocks) × AreBlocks width limits bytes trees × (blocks_size trees ≡ n)))
    × ((e : Fault) → (expanded_length width limits bytes ≡ Err e) ↔ IsFirstFault width limits bytes e)
length_decided width limits bytes h =
    let r = read_blocks width limits.nesting bytes in
    let m = blocks_read width limits.nesting bytes h in (
      λ n. (ok_is width limits bytes r m n, is_ok_of width limits bytes r m n),
      λ e. (err_is width limits bytes r m e, is_err_of width limits bytes h e),
    )
