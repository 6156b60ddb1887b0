-- A cut is greedy, and there is one greedy cut.
use Rattle.std.proofs.Common.{◌≡◌, ℕ, ◌+◌, ◌<◌, ◌≤◌, List, [], ◌∷◌, ◌++◌, refl, sym, ◌∙◌, ap, subst, Bool, true, false, cond, length, arith, length-append, append_assoc, append-nil}
use Rattle.std.specs.Prelude.{map, flat_map, All, nat_le, nat_lt, ◌==◌, Option, Some, None, ⊤}
use Rattle.std.proofs.lemmas.Bool.{cond_both, cond-true, cond-false, leb-true, leb-false, le-leb, lt-leb}
use Rattle.std.proofs.lemmas.List.Elements.{All-nil, All-cons, All-head, All-tail, All-map, All-weaker}
use Rattle.std.proofs.lemmas.List.Sums.{sum_by-append}
use Rattle.byteorder.specs.Numbers.{length-bytes_low_first}
use Rattle.byteorder.specs.Endian.{little_bytes}
use Rattle.omf_frame.specs.Fields.{index_bytes}
use Rattle.omf_frame.specs.Framing.{raw_bytes, raw_of}
use Rattle.omf_records.specs.Values.{At, Reference, is_wide, width}
use Rattle.omf_records.specs.Shortest.{option_bytes, datum_bytes, reference_bytes}
use Rattle.omf_check.specs.Threads.{PlainReference}
use Rattle.omf_reloc.specs.Plain.{PlainFixup}
use Rattle.omf_canon.specs.Inner.Names.{start_bytes}
use Rattle.omf_canon.specs.Cut.{IsGreedyCut, body_limit, fixups_size, cut, cut_from}
use Rattle.omf_canon.specs.PlainBytes.{fixup_bytes}
use Rattle.omf_canon.specs.Unthreaded.{unthreaded}

-- A fixup has 11 bytes at most.
cond-le : {A : Type 0} (n : ℕ) (b : Bool) (xs ys : List A) → length xs ≤ n → length ys ≤ n → length (cond b xs ys) ≤ n
cond-le n true xs ys h k = h
cond-le n false xs ys h k = k

length-index_bytes : (i : ℕ) → length (index_bytes i) ≤ 2
length-index_bytes i = cond-le 2 (nat_lt i 128) _ _ (omega arith) (omega arith)

length-datum : (o : Option (At ℕ)) → length (option_bytes datum_bytes o) ≤ 2
length-datum None = omega arith
length-datum (Some a) = length-index_bytes a.item

width-cases : (b : Bool) → cond b 4 2 ≤ 4
width-cases true = omega arith
width-cases false = omega arith

length-displacement : (kind : ℕ) (o : Option ℕ) → length (option_bytes (little_bytes (width kind)) o) ≤ 4
length-displacement kind None = omega arith
length-displacement kind (Some d) = omega (arith, length-bytes_low_first 0 (width kind) d, width-cases (is_wide kind))

pub length-reference_bytes : (kind : ℕ) (r : Reference) → length (reference_bytes kind r) ≤ 9
length-reference_bytes kind r =
    let last = option_bytes (little_bytes (width kind)) r.displacement in
    omega (
      arith,
      length-datum r.frame,
      length-datum r.target,
      length-displacement kind r.displacement,
      length-append (option_bytes datum_bytes r.frame) (option_bytes datum_bytes r.target ++ last),
      length-append (option_bytes datum_bytes r.target) last,
    )

pub length-fixup_bytes : (kind : ℕ) (f : PlainFixup) → length (fixup_bytes kind f) ≤ 11
length-fixup_bytes kind f = omega (arith, length-reference_bytes kind (unthreaded (f.reference.displacement == 0) f.reference))

-- A start has 9 at most.
pub length-start_bytes : (kind : ℕ) (start : Option PlainReference) → length (start_bytes kind start) ≤ 9
length-start_bytes kind None = omega arith
length-start_bytes kind (Some r) = length-reference_bytes kind (unthreaded false r)

abbrev Groups : Type 0
Groups = List (List PlainFixup)

abbrev all_of : Groups → List PlainFixup
all_of gs = flat_map (λ g. g) gs

module _ (kind : ℕ) where
  abbrev size : List PlainFixup → ℕ
  size fs = fixups_size kind fs

  size-append : (fs gs : List PlainFixup) → size (fs ++ gs) ≡ size fs + size gs
  size-append fs gs = sum_by-append (λ f. length (fixup_bytes kind f)) fs gs

  size-one : (f : PlainFixup) → size (f ∷ []) ≤ body_limit
  size-one f = omega (arith, length-fixup_bytes kind f)

  -- The groups are the fixups in their order.
  whole-cut_from : (g fs : List PlainFixup) → g ++ fs ≡ all_of (cut_from kind g fs)
  whole-cut_from g [] = refl
  whole-cut_from g (f ∷ fs) = cond_both (nat_le (size (g ++ f ∷ [])) body_limit) _ _ (λ gs. g ++ f ∷ fs ≡ all_of gs)
      (λ e. sym (append_assoc g (f ∷ []) fs) ∙ whole-cut_from (g ++ f ∷ []) fs)
      (λ e. ap (λ t. g ++ t) (whole-cut_from (f ∷ []) fs))

  -- None is empty.
  full-cut_from : (g fs : List PlainFixup) → 0 < length g → All (λ h. 0 < length h) (cut_from kind g fs)
  full-cut_from g [] h = All-cons (λ k. 0 < length k) g [] h (All-nil (λ k. 0 < length k))
  full-cut_from g (f ∷ fs) h = cond_both (nat_le (size (g ++ f ∷ [])) body_limit) _ _ (λ gs. All (λ k. 0 < length k) gs)
      (λ e. full-cut_from (g ++ f ∷ []) fs (omega (arith, length-append g (f ∷ []))))
      (λ e. All-cons (λ k. 0 < length k) g (cut_from kind (f ∷ []) fs) h (full-cut_from (f ∷ []) fs (omega arith)))

  -- Each fits.
  fits-cut_from : (g fs : List PlainFixup) → size g ≤ body_limit → All (λ h. size h ≤ body_limit) (cut_from kind g fs)
  fits-cut_from g [] h = All-cons (λ k. size k ≤ body_limit) g [] h (All-nil (λ k. size k ≤ body_limit))
  fits-cut_from g (f ∷ fs) h = cond_both (nat_le (size (g ++ f ∷ [])) body_limit) _ _ (λ gs. All (λ k. size k ≤ body_limit) gs)
      (λ e. fits-cut_from (g ++ f ∷ []) fs (leb-true (size (g ++ f ∷ [])) body_limit e))
      (λ e. All-cons (λ k. size k ≤ body_limit) g (cut_from kind (f ∷ []) fs) h (fits-cut_from (f ∷ []) fs (size-one f)))

  -- Each would not with the first fixup of the next.
  abbrev Next : List PlainFixup → Groups → Type 0
  Next g [] = ⊤
  Next g ([] ∷ gs) = ⊤
  Next g ((f ∷ fs) ∷ gs) = body_limit < size (g ++ f ∷ [])

  abbrev Greedy : Groups → Type 0
  Greedy [] = ⊤
  Greedy (g ∷ gs) = Next g gs × Greedy gs

  next-cut_from : (g : List PlainFixup) (f : PlainFixup) (hs fs : List PlainFixup) → body_limit < size (g ++ f ∷ []) → Next g (cut_from kind (f ∷ hs) fs)
  next-cut_from g f hs [] h = h
  next-cut_from g f hs (k ∷ fs) h = cond_both (nat_le (size (f ∷ hs ++ k ∷ [])) body_limit) _ _ (λ gs. Next g gs)
      (λ e. next-cut_from g f (hs ++ k ∷ []) fs h)
      (λ e. h)

  greedy-cut_from : (g fs : List PlainFixup) → Greedy (cut_from kind g fs)
  greedy-cut_from g [] = (tt, tt)
  greedy-cut_from g (f ∷ fs) = cond_both (nat_le (size (g ++ f ∷ [])) body_limit) _ _ Greedy
      (λ e. greedy-cut_from (g ++ f ∷ []) fs)
      (λ e. (next-cut_from g f [] fs (leb-false (size (g ++ f ∷ [])) body_limit e), greedy-cut_from (f ∷ []) fs))

  -- the second in the words of the definition
  tail-greedy : (front : Groups) (gs : Groups) → Greedy (front ++ gs) → Greedy gs
  tail-greedy [] gs h = h
  tail-greedy (k ∷ front) gs h = tail-greedy front gs h.1

  is-greedy : (groups : Groups) → Greedy groups → (front back : Groups) (g fs : List PlainFixup) (f : PlainFixup)
      → groups ≡ front ++ g ∷ (f ∷ fs) ∷ back → body_limit < size (g ++ f ∷ [])
  is-greedy groups h front back g fs f e = (tail-greedy front (g ∷ (f ∷ fs) ∷ back) (subst Greedy e h)).0

  pub cut-greedy : (fixups : List PlainFixup) → IsGreedyCut kind fixups (cut kind fixups)
  cut-greedy [] = record { whole = refl; full = All-nil (λ k. 0 < length k); fits = All-nil (λ k. size k ≤ body_limit); greedy = is-greedy [] tt }
  cut-greedy (f ∷ fs) = record {
    whole = whole-cut_from (f ∷ []) fs;
    full = full-cut_from (f ∷ []) fs (omega arith);
    fits = fits-cut_from (f ∷ []) fs (size-one f);
    greedy = is-greedy (cut_from kind (f ∷ []) fs) (greedy-cut_from (f ∷ []) fs);
  }

  -- A greedy cut has no choice.
  abbrev Fits : Groups → Type 0
  Fits gs = All (λ h. size h ≤ body_limit) gs

  abbrev Full : Groups → Type 0
  Full gs = All (λ h. 0 < length h) gs

  close-group : (g : List PlainFixup) (gs : Groups) → gs ≡ cut kind (all_of gs) → Full gs → Next g gs → g ∷ gs ≡ cut_from kind g (all_of gs)
  close-group g [] ih full next = refl
  close-group g ([] ∷ gs) ih full next = absurd (omega (arith, All-head (λ h. 0 < length h) [] gs full))
  close-group g ((f ∷ fs) ∷ gs) ih full next =
      ap (λ t. g ∷ t) ih
      ∙ sym (cond-false (nat_le (size (g ++ f ∷ [])) body_limit) (cut_from kind (g ++ f ∷ []) (fs ++ all_of gs)) (g ∷ cut_from kind (f ∷ []) (fs ++ all_of gs)) (lt-leb (size (g ++ f ∷ [])) body_limit next))

  grow-group : (g ks : List PlainFixup) (gs : Groups) → gs ≡ cut kind (all_of gs) → Full gs → size (g ++ ks) ≤ body_limit → Next (g ++ ks) gs
      → (g ++ ks) ∷ gs ≡ cut_from kind g (ks ++ all_of gs)
  grow-group g [] gs ih full fit next = ap (λ l. l ∷ gs) (append-nil g) ∙ close-group g gs ih full (subst (λ l. Next l gs) (append-nil g) next)
  grow-group g (k ∷ ks) gs ih full fit next =
      let e : g ++ k ∷ ks ≡ (g ++ k ∷ []) ++ ks = sym (append_assoc g (k ∷ []) ks) in
      let t : nat_le (size (g ++ k ∷ [])) body_limit ≡ true = le-leb (size (g ++ k ∷ [])) body_limit
      (omega (arith, fit, size-append g (k ∷ ks), size-append g (k ∷ []), size-append (k ∷ []) ks)) in
      ap (λ l. l ∷ gs) e
      ∙ grow-group (g ++ k ∷ []) ks gs ih full (subst (λ l. size l ≤ body_limit) e fit) (subst (λ l. Next l gs) e next)
      ∙ sym (cond-true (nat_le (size (g ++ k ∷ [])) body_limit) (cut_from kind (g ++ k ∷ []) (ks ++ all_of gs)) (g ∷ cut_from kind (k ∷ []) (ks ++ all_of gs)) t)

  one-cut : (gs : Groups) → Full gs → Fits gs → Greedy gs → gs ≡ cut kind (all_of gs)
  one-cut [] full fits greedy = refl
  one-cut ([] ∷ gs) full fits greedy = absurd (omega (arith, All-head (λ h. 0 < length h) [] gs full))
  one-cut ((f ∷ fs) ∷ gs) full fits greedy =
      let ih = one-cut gs (All-tail (λ h. 0 < length h) (f ∷ fs) gs full) (All-tail (λ h. size h ≤ body_limit) (f ∷ fs) gs fits) greedy.1 in
      grow-group (f ∷ []) fs gs ih (All-tail (λ h. 0 < length h) (f ∷ fs) gs full) (All-head (λ h. size h ≤ body_limit) (f ∷ fs) gs fits) greedy.0

  abbrev AreGreedy : Groups → Type 0
  AreGreedy groups = (front back : Groups) (g fs : List PlainFixup) (f : PlainFixup) → groups ≡ front ++ g ∷ (f ∷ fs) ∷ back → body_limit < size (g ++ f ∷ [])

  next-from : (g : List PlainFixup) (gs : Groups) → AreGreedy (g ∷ gs) → Next g gs
  next-from g [] h = tt
  next-from g ([] ∷ gs) h = tt
  next-from g ((f ∷ fs) ∷ gs) h = h [] gs g fs f refl

  greedy-from : (gs : Groups) → AreGreedy gs → Greedy gs
  greedy-from [] h = tt
  greedy-from (g ∷ gs) h = (next-from g gs h, greedy-from gs (λ front back k fs f e. h (g ∷ front) back k fs f (ap (λ t. g ∷ t) e)))

  pub greedy-cut : (fixups : List PlainFixup) (groups : Groups) → IsGreedyCut kind fixups groups → groups ≡ cut kind fixups
  greedy-cut fixups groups c = one-cut groups c.full c.fits (greedy-from groups c.greedy) ∙ ap (cut kind) (sym c.whole)

  -- A group's bytes are its size, and type, length and checksum take four more.
  pub length-group : (g : List PlainFixup) → length (flat_map (fixup_bytes kind) g) ≡ size g
  length-group [] = refl
  length-group (f ∷ fs) = omega (arith, length-append (fixup_bytes kind f) (flat_map (fixup_bytes kind) fs), length-group fs, size-append (f ∷ []) fs)

  length-raw : (g : List PlainFixup) → size g ≤ body_limit → length (raw_bytes (raw_of kind (flat_map (fixup_bytes kind) g))) ≤ 1024
  length-raw g h = omega (arith, h, length-group g, length-append (flat_map (fixup_bytes kind) g) ((raw_of kind (flat_map (fixup_bytes kind) g)).checksum ∷ []))

  pub raws-fit : (fixups : List PlainFixup) → All (λ r. length (raw_bytes r) ≤ 1024) (map (λ g. raw_of kind (flat_map (fixup_bytes kind) g)) (cut kind fixups))
  raws-fit fixups = All-map (λ r. length (raw_bytes r) ≤ 1024) (λ g. raw_of kind (flat_map (fixup_bytes kind) g)) (cut kind fixups)
      (All-weaker (λ g. size g ≤ body_limit) (λ g. length (raw_bytes (raw_of kind (flat_map (fixup_bytes kind) g))) ≤ 1024) length-raw (cut kind fixups) (cut-greedy fixups).fits)
