-- There are as many attributes and alignments as segments, and as many lengths as externals.
use Rattle.std.proofs.Common.{◌≡◌, ℕ, zero, suc, ◌+◌, ◌<◌, List, [], ◌∷◌, ◌++◌, length, refl, sym, ap, ap₂, ◌∙◌, arith, length-append, append_assoc, ◌≤◌, ◌-◌}
use Rattle.std.specs.Prelude.{map, filter_map, Option, Some, None, slice_get}
use Rattle.std.specs.List.{cons_option, enumerate_from, range_with_len}
use Rattle.std.proofs.lemmas.List.{length-map}
use Rattle.std.proofs.lemmas.List.FromFn.{length-enumerate_from}
use Rattle.omf_records.specs.Values.{Rec, Contents, Header, Comment, Names, Segment, Group, Externs, Publics, Communals, Plain, Iterated, Fixups, ModEnd, Carried}
use Rattle.omf_check.specs.Tables.{attributes, segments, externals, defined_externals}
use Rattle.omf_layout.specs.Wants.{alignment_in, alignments, rooms, rooms_in, room_of}
use Rattle.omf_placement.proofs.AttributeLaws.{length-attributes}

pub length-alignments : (m : List Rec) → length (alignments m) ≡ length (segments m)
length-alignments m = length-map (enumerate_from 1 (attributes m)) (λ x. alignment_in m x.0 x.1) ∙ length-enumerate_from 1 (attributes m) ∙ length-attributes m

some-rooms : (c : Contents) → length (rooms_in c) ≡ length (defined_externals c)
some-rooms (Externs es) = length-map es (λ e. None) ∙ sym (length-map es (λ e. e.item.name))
some-rooms (Communals cs) = length-map cs (λ c. Some (room_of c.item.size)) ∙ sym (length-map cs (λ c. c.item.name))
some-rooms (Segment s) = refl
some-rooms (Header n) = refl
some-rooms (Comment a b t) = refl
some-rooms (Names ns) = refl
some-rooms (Group g) = refl
some-rooms (Publics p) = refl
some-rooms (Plain d) = refl
some-rooms (Iterated d) = refl
some-rooms (Fixups fs) = refl
some-rooms (ModEnd b s) = refl
some-rooms (Carried bs) = refl

pub length-rooms : (m : List Rec) → length (rooms m) ≡ length (externals m)
length-rooms [] = refl
length-rooms (r ∷ m) = length-append (rooms_in r.contents) (rooms m) ∙ ap₂ (λ a b. a + b) (some-rooms r.contents) (length-rooms m) ∙ sym (length-append (defined_externals r.contents) (externals m))

-- One more number of a range.
pub one-more : {A : Type 0} (g : ℕ → A) (old new all : List A) (x : A) (k n : ℕ) → k < n → x ≡ g k → new ≡ old ++ x ∷ [] → old ++ map g (range_with_len k (n - k)) ≡ all → new ++ map g (range_with_len (k + 1) (n - (k + 1))) ≡ all
one-more g old new all x k n h e f whole =
    let next : n - k ≡ suc (n - (k + 1)) = omega arith in
    ap (λ xs. xs ++ map g (range_with_len (k + 1) (n - (k + 1)))) (f ∙ ap (λ y. old ++ y ∷ []) e)
    ∙ append_assoc old (g k ∷ []) (map g (range_with_len (k + 1) (n - (k + 1))))
    ∙ ap (λ j. old ++ map g (range_with_len k j)) (sym next) ∙ whole

-- Numbers of a range, of which all have a value.
module _ {A : Type 0} (g : ℕ → Option A) where
  -- All of them have one.
  abbrev pub HaveAll : ℕ → ℕ → Type 0
  HaveAll a n = (i : ℕ) → a ≤ i → i < a + n → (x : A) × (g i ≡ Some x)

  one-less : (a n : ℕ) → HaveAll a (suc n) → HaveAll (a + 1) n
  one-less a n h i low high = h i (omega (arith, low)) (omega (arith, high))

  pub length-kept : (a n : ℕ) → HaveAll a n → length (filter_map g (range_with_len a n)) ≡ n
  length-kept a zero h = refl
  length-kept a (suc n) h =
      let here = h a (omega arith) (omega arith) in
      ap (λ o. length (cons_option o (filter_map g (range_with_len (a + 1) n)))) here.1 ∙ ap suc (length-kept (a + 1) n (one-less a n h))

  pub kept-at : (a n k : ℕ) → HaveAll a n → k < n → slice_get (filter_map g (range_with_len a n)) k ≡ g (a + k)
  kept-at a zero k h low = absurd (omega (arith, low))
  kept-at a (suc n) zero h low =
      let here = h a (omega arith) (omega arith) in
      let same : a ≡ a + 0 = omega arith in
      ap (λ o. slice_get (cons_option o (filter_map g (range_with_len (a + 1) n))) 0) here.1 ∙ sym here.1 ∙ ap g same
  kept-at a (suc n) (suc k) h low =
      let here = h a (omega arith) (omega arith) in
      let next : a + 1 + k ≡ a + suc k = omega arith in
      ap (λ o. slice_get (cons_option o (filter_map g (range_with_len (a + 1) n))) (suc k)) here.1 ∙ kept-at (a + 1) n k (one-less a n h) (omega (arith, low)) ∙ ap g next
