-- A module is in a program exactly if its image agrees with it, segment by segment.
use Rattle.std.proofs.Common.{◌≡◌, ℕ, ◌+◌, ◌-◌, ◌<◌, true, false, cond, List, [], ◌∷◌, length, refl, sym, ap, subst, ◌∙◌, arith}
use Rattle.std.specs.Prelude.{All, Option, Some, None, IsSome, slice_get, nat_le}
use Rattle.std.specs.Option.{option_or, option_and_then}
use Rattle.std.proofs.lemmas.Bool.{leb-true, le-leb, and_parts}
use Rattle.std.proofs.lemmas.List.Elements.{All-nil, All-cons, All-head, All-tail}
use Rattle.omf_frame.specs.Bytes.{is_one_of}
use Rattle.omf_records.specs.Values.{Rec}
use Rattle.omf_image.specs.Limits.{profile_limits}
use Rattle.omf_image.specs.Overlay.{Laid, byte_of, byte_at}
use Rattle.omf_image.proofs.RunLaws.{byte_some, within_some}
use Rattle.omf_check.specs.Sound.{ModuleHolds}
use Rattle.omf_check.specs.Tables.{segments, entry, is_defined}
use Rattle.omf_placement.specs.Placement.{Places}
use Rattle.omf_placement.specs.declared.frame.Placed.{Placed}
use Rattle.omf_reloc.specs.Image.{laid, image}
use Rattle.omf_reloc.specs.Laws.{LiesInSegment}
use Rattle.omf_reloc.specs.Plain.{pieces}
use Rattle.omf_reloc.specs.Reach.{Reaches}
use Rattle.omf_reloc.proofs.InsideLaws.{all-inside}
use Rattle.omf_reloc.proofs.ReachLaws.{reach-decided}
use Rattle.omf_finding.specs.Found.{program_byte, byte_there, IsFound, IsFoundInPart}
use Rattle.omf_finding.specs.Inner.Agreeing.{ComparedBelow, FirstAgree}
use Rattle.omf_finding.proofs.LastLaws.{last_from, last-cons}

-- What every piece shows that covers a place, a byte at that place shows.
module _ (Q : Type 0) (segment x : ℕ) where
  from-or : (p o : Option ℕ) → (IsSome p → Q) → (IsSome o → Q) → IsSome (option_or p o) → Q
  from-or None o g h e = h e
  from-or (Some v) o g h e = g e

  from-some : (ls : List Laid) (o : Option ℕ) → (IsSome o → Q) → All (λ l. IsSome (byte_of segment x l) → Q) ls → IsSome (last_from (byte_of segment x) o ls) → Q
  from-some [] o h a e = h e
  from-some (l ∷ ls) o h a e =
      from-some ls (option_or (byte_of segment x l) o) (from-or (byte_of segment x l) o (All-head (λ k. IsSome (byte_of segment x k) → Q) l ls a) h)
      (All-tail (λ k. IsSome (byte_of segment x k) → Q) l ls a) (subst IsSome (last-cons (byte_of segment x) o l ls) e)

some-of : {A : Type 0} (o : Option A) → IsSome o → (x : A) × (o ≡ Some x)
some-of None h = absurd cc
some-of (Some x) h = (x, refl)

is-some : {A : Type 0} (o : Option A) (x : A) → o ≡ Some x → IsSome o
is-some o x e = subst IsSome (sym e) refl

module _ (pl : Places) (m : List Rec) (holds : ModuleHolds profile_limits m) where
  abbrev InSegment : Laid → Type 0
  InSegment l = LiesInSegment m l.segment l.offset (length l.bytes)

  each-defined : (segment x : ℕ) (ls : List Laid) → All InSegment ls → All (λ l. IsSome (byte_of segment x l) → is_defined (length (segments m)) segment ≡ true) ls
  each-defined segment x [] h = All-nil (λ l. IsSome (byte_of segment x l) → is_defined (length (segments m)) segment ≡ true)
  each-defined segment x (l ∷ ls) h =
      All-cons (λ k. IsSome (byte_of segment x k) → is_defined (length (segments m)) segment ≡ true) l ls
      (λ s. subst (λ n. is_defined (length (segments m)) n ≡ true) (byte_some segment x l s).0 (All-head InSegment l ls h).segment_defined)
      (each-defined segment x ls (All-tail InSegment l ls h))

  -- A byte of the image is in a segment of the module.
  pub segment-defined : (segment x b : ℕ) → image profile_limits pl m segment x ≡ Some b → is_defined (length (segments m)) segment ≡ true
  segment-defined segment x b e =
      from-some (is_defined (length (segments m)) segment ≡ true) segment x (laid profile_limits pl (pieces m)) None (λ n. absurd cc)
      (each-defined segment x (laid profile_limits pl (pieces m)) (all-inside pl m holds).each_piece) (is-some (image profile_limits pl m segment x) b e)

  module _ (absent program : List ℕ) (base : ℕ) (reaches : Reaches pl m) (bytes : List Laid) (same : (segment x : ℕ) → byte_at bytes segment x ≡ image profile_limits pl m segment x) where
    count : length pl.segments ≡ length (segments m)
    count = ((reach-decided pl m).decided.0 reaches).fits.segment_count

    there : (segment x : ℕ) (place : Placed) → entry pl.segments segment ≡ Some place → byte_there pl program base segment x ≡ program_byte program base (place.address + x)
    there segment x place e = ap (option_and_then (λ (p : Placed). program_byte program base (p.address + x))) e

    pub agree-found : FirstAgree bytes pl.segments absent program base (length pl.segments) → IsFound m pl absent program base
    agree-found h = record { reaches = reaches; bytes = found }
      where
        found : (segment x b : ℕ) → is_one_of absent segment ≡ false → image profile_limits pl m segment x ≡ Some b → byte_there pl program base segment x ≡ Some b
        found segment x b none e =
            let both = and_parts (nat_le 1 segment) (nat_le segment (length (segments m))) (segment-defined segment x b e) in
            let one = leb-true 1 segment both.0 in
            let most = leb-true segment (length (segments m)) both.1 in
            let k = segment - 1 in
            let low : k < length pl.segments = omega (arith, one, most, count) in
            let place = some-of (slice_get pl.segments k) (within_some pl.segments k low) in
            let back : k + 1 ≡ segment = omega (arith, one) in
            let at : entry pl.segments segment ≡ Some place.0 = ap (λ t. cond t (slice_get pl.segments (segment - 1)) None) both.0 ∙ place.1 in
            there segment x place.0 at ∙ h k place.0 low place.1 (ap (is_one_of absent) back ∙ none) x b (ap (λ (n : ℕ). byte_at bytes n x) back ∙ same segment x ∙ e)

    pub found-agree : IsFound m pl absent program base → FirstAgree bytes pl.segments absent program base (length pl.segments)
    found-agree h k place low e none x b s =
        let one : nat_le 1 (k + 1) ≡ true = le-leb 1 (k + 1) (omega arith) in
        let back : k + 1 - 1 ≡ k = omega arith in
        let at : entry pl.segments (k + 1) ≡ Some place = ap (λ t. cond t (slice_get pl.segments (k + 1 - 1)) None) one ∙ ap (slice_get pl.segments) back ∙ e in
        sym (there (k + 1) x place at) ∙ h.bytes (k + 1) x b none (sym (same (k + 1) x) ∙ s)

    -- The byte that is compared is in one of the segments of the placement.
    pub part-compared : IsFoundInPart m pl absent program base → ComparedBelow bytes absent (length pl.segments)
    part-compared h =
        let some = some-of (image profile_limits pl m h.segment h.x) h.byte in
        let both = and_parts (nat_le 1 h.segment) (nat_le h.segment (length (segments m))) (segment-defined h.segment h.x some.0 some.1) in
        let one = leb-true 1 h.segment both.0 in
        let most = leb-true h.segment (length (segments m)) both.1 in
        let back : h.segment - 1 + 1 ≡ h.segment = omega (arith, one) in
        record {
          k = h.segment - 1;
          low = omega (arith, one, most, count);
          compared = ap (is_one_of absent) back ∙ h.compared;
          has = record { x = h.x; byte = subst IsSome (sym (ap (λ (n : ℕ). byte_at bytes n h.x) back ∙ same h.segment h.x)) h.byte };
        }
