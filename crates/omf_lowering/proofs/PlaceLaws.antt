-- Each copy of a content has the bytes that the content has in the blocks.
use Rattle.std.proofs.Common.{◌≡◌, ℕ, zero, suc, ◌+◌, ◌-◌, ◌*◌, ◌≤◌, Bool, true, false, cond, List, [], ◌∷◌, ◌++◌, length, take, drop, drop-drop, take-take, Some, Result, Ok, Err, refl, sym, ap, subst, ◌∙◌, arith, length-append, length-take, length-drop, append-nil, append_assoc}
use Rattle.std.specs.Prelude.{All, ◌&&◌, find, flat_map, map, nat_le, nat_lt, option_map}
use Rattle.std.specs.List.{range_with_len, repeat}
use Rattle.std.proofs.Math.Nat.{suc-mul}
use Rattle.std.proofs.Math.Seq.{drop-append-add}
use Rattle.std.proofs.lemmas.Bool.{leb-true, ltb-false}
use Rattle.std.proofs.lemmas.Grind.{flat_map-append}
use Rattle.std.proofs.lemmas.List.{drop-append-le, drop-take, take-append-le}
use Rattle.std.proofs.lemmas.List.Elements.{All-append, All-cons, All-head, All-map, All-nil, All-tail}
use Rattle.omf_frame.specs.Fault.{Fault}
use Rattle.omf_image.specs.Blocks.{Blocks, blocks, blocks_bytes, repeated}
use Rattle.omf_image.specs.Inner.BlockReaders.{blocks_whole}
use Rattle.omf_image.specs.Inner.Copying.{bytes_all, bytes_block, copies}
use Rattle.omf_image.specs.Inner.Expanding.{blocks_or_none}
use Rattle.omf_image.specs.Inner.Folding.{fold_all, fold_block, fold_contents, fold_times}
use Rattle.omf_image.specs.declared.limits.Limits.{Limits}
use Rattle.omf_image.proofs.Expansion.{all_are}
use Rattle.omf_records.specs.Inner.FieldReaders.{le_read, name_read}
use Rattle.omf_records.specs.Inner.Reads.{After, after, Reading, and_then}
use Rattle.omf_records.specs.Inner.Steps.{guard_ok}
use Rattle.omf_lowering.specs.Inner.Spreading.{Content, Spread, contents_in, contents_or_none, moved, spread_all, spreads, turned}
use Rattle.omf_lowering.specs.Inner.Turns.{further}
use Rattle.omf_lowering.specs.Unrolled.{copies_of, has_all}
use Rattle.omf_lowering.specs.declared.location.Location.{Location}
use Rattle.omf_lowering.proofs.TurnLaws.{counting_more}

module _ (bytes : List ℕ) where
  -- the rest of the blocks from a place on
  abbrev Pos : ℕ → List ℕ → Type 0
  Pos at rest = rest ≡ drop at bytes

  le_pos : (k at : ℕ) (rest : List ℕ) (a : After ℕ) → Pos at rest → le_read k at rest ≡ Ok a → Pos a.within a.rest
  le_pos k at rest a is e =
      let g = guard_ok (nat_lt (length rest) k) _ _ a e in
      subst (λ (x : After ℕ). Pos x.within x.rest) g.1 (ap (drop k) is ∙ drop-drop k at bytes)

  record Named (at : ℕ) (a : After (List ℕ)) : Type 0 where
    place : Pos a.within a.rest
    text : take (length a.value) (drop (at + 1) bytes) ≡ a.value

  name_pos : (at : ℕ) (rest : List ℕ) (a : After (List ℕ)) → Pos at rest → name_read at rest ≡ Ok a → Named at a
  name_pos at [] a is e = absurd cc
  name_pos at (n ∷ rest) a is e =
      let g = guard_ok (nat_lt (length rest) n) _ _ a e in
      let long : n ≤ length rest = ltb-false (length rest) n g.0 in
      let tail : rest ≡ drop (at + 1) bytes = ap (drop 1) is ∙ drop-drop 1 at bytes in
      let len : length (take n rest) ≡ n = omega (arith, length-take n rest, long) in
      let on : at + 1 + n ≡ at + suc n = omega arith in
      subst (Named at) g.1 (record {
        place = ap (drop n) tail ∙ drop-drop n (at + 1) bytes ∙ ap (λ k. drop k bytes) on;
        text = ap (take (length (take n rest))) (sym tail) ∙ ap (λ k. take k rest) len;
      })

  -- ---- a copy of a content

  abbrev IsCopy : List ℕ → ℕ → ℕ → ℕ → Type 0
  IsCopy out start size x = (x + size ≤ length out) × (take size (drop x out) ≡ take size (drop start bytes))

  abbrev Same : List ℕ → Content → Type 0
  Same out c = All (IsCopy out c.start c.size) c.copies

  pub record Placed (out : List ℕ) (s : Spread) : Type 0 where
    pub size : length out ≡ s.size
    pub same : All (Same out) s.contents

  all_by : {A : Type 0} (P Q : A → Type 0) (xs : List A) → ((x : A) → P x → Q x) → All P xs → All Q xs
  all_by P Q [] h all = All-nil Q
  all_by P Q (x ∷ xs) h all = All-cons Q x xs (h x (All-head P x xs all)) (all_by P Q xs h (All-tail P x xs all))

  front_copy : (out more : List ℕ) (start size x : ℕ) → IsCopy out start size x → IsCopy (out ++ more) start size x
  front_copy out more start size x (low, is) = (
    omega (arith, low, length-append out more),
    ap (take size) (drop-append-le x out more (omega (arith, low))) ∙ take-append-le size (drop x out) more (omega (arith, low, length-drop x out)) ∙ is,
  )

  back_copy : (front out : List ℕ) (start size x : ℕ) → IsCopy out start size x → IsCopy (front ++ out) start size (x + length front)
  back_copy front out start size x (low, is) = let on : x + length front ≡ length front + x = omega arith in (
    omega (arith, low, length-append front out),
    ap (λ k. take size (drop k (front ++ out))) on ∙ ap (take size) (drop-append-add front out x) ∙ is,
  )

  front_all : (out more : List ℕ) (start size : ℕ) (xs : List ℕ) → All (IsCopy out start size) xs → All (IsCopy (out ++ more) start size) xs
  front_all out more start size xs all = all_by (IsCopy out start size) (IsCopy (out ++ more) start size) xs (front_copy out more start size) all

  back_all : (front out : List ℕ) (start size : ℕ) (xs : List ℕ) → All (IsCopy out start size) xs → All (IsCopy (front ++ out) start size) (further (length front) xs)
  back_all front out start size xs all =
      All-map (IsCopy (front ++ out) start size) (λ x. x + length front) xs
      (all_by (IsCopy out start size) (λ x. IsCopy (front ++ out) start size (x + length front)) xs (back_copy front out start size) all)

  repeat_more : (n : ℕ) (xs : List ℕ) → repeat n xs ++ xs ≡ repeat (n + 1) xs
  repeat_more zero xs = sym (append-nil xs)
  repeat_more (suc n) xs = append_assoc xs (repeat n xs) xs ∙ ap (λ l. xs ++ l) (repeat_more n xs) ∙ (let on : suc (n + 1) ≡ suc n + 1 = omega arith in ap (λ k. repeat k xs) on)

  repeat_length : (n : ℕ) (xs : List ℕ) → length (repeat n xs) ≡ n * length xs
  repeat_length zero xs = omega arith
  repeat_length (suc n) xs = length-append xs (repeat n xs) ∙ omega (arith, repeat_length n xs, suc-mul n (length xs))

  turns_all : (n size : ℕ) (out : List ℕ) (start own : ℕ) (xs : List ℕ) → length out ≡ size → All (IsCopy out start own) xs
      → All (IsCopy (repeat n out) start own) (flat_map (λ k. further (k * size) xs) (range_with_len 0 n))
  turns_all zero size out start own xs len all = All-nil (IsCopy [] start own)
  turns_all (suc n) size out start own xs len all =
      let P = IsCopy (repeat n out ++ out) start own in
      let far : length (repeat n out) ≡ n * size = repeat_length n out ∙ ap (λ k. n * k) len in
      let old = front_all (repeat n out) out start own (flat_map (λ k. further (k * size) xs) (range_with_len 0 n)) (turns_all n size out start own xs len all) in
      let new = subst (λ k. All P (further k xs)) far (back_all (repeat n out) out start own xs all) in
      let on : n + 1 ≡ suc n = omega arith in
      let list : flat_map (λ k. further (k * size) xs) (range_with_len 0 n) ++ further (n * size) xs ≡ flat_map (λ k. further (k * size) xs) (range_with_len 0 (suc n)) =
      ap (λ l. flat_map (λ k. further (k * size) xs) (range_with_len 0 n) ++ l) (sym (append-nil (further (n * size) xs)))
      ∙ sym (flat_map-append (λ k. further (k * size) xs) (range_with_len 0 n) (n ∷ []))
      ∙ ap (flat_map (λ k. further (k * size) xs)) (sym (counting_more n)) ∙ ap (λ k. flat_map (λ k. further (k * size) xs) (range_with_len 0 k)) on in
      subst (λ o. All (IsCopy o start own) (flat_map (λ k. further (k * size) xs) (range_with_len 0 (suc n)))) (repeat_more n out ∙ ap (λ k. repeat k out) on)
      (subst (All P) list (All-append P (flat_map (λ k. further (k * size) xs) (range_with_len 0 n)) (further (n * size) xs) old new))

  -- ---- the parts of the folds

  join_placed : (o p : List ℕ) (s t : Spread) → Placed o s → Placed p t → Placed (o ++ p) (spreads.join s t)
  join_placed o p s t a b = record {
    size = length-append o p ∙ ap (λ n. n + length p) a.size ∙ ap (λ n. s.size + n) b.size;
    same = All-append (Same (o ++ p)) s.contents (map (moved s.size) t.contents)
        (all_by (Same o) (Same (o ++ p)) s.contents (λ c h. front_all o p c.start c.size c.copies h) a.same)
        (All-map (Same (o ++ p)) (moved s.size) t.contents
        (all_by (Same p) (λ c. Same (o ++ p) (moved s.size c)) t.contents (λ c h. subst (λ n. All (IsCopy (o ++ p) c.start c.size) (further n c.copies)) a.size (back_all o p c.start c.size c.copies h)) b.same));
  }

  repeated_is : (n : ℕ) (xs : List ℕ) → repeat n xs ≡ repeated n xs
  repeated_is n (x ∷ xs) = refl
  repeated_is zero [] = refl
  repeated_is (suc n) [] = repeated_is n []

  again_placed : (n : ℕ) (o : List ℕ) (s : Spread) → Placed o s → Placed (repeated n o) (spreads.again n s)
  again_placed n o s a = subst (λ x. Placed x (spreads.again n s)) (repeated_is n o) (record {
    size = repeat_length n o ∙ ap (λ k. n * k) a.size;
    same = All-map (Same (repeat n o)) (turned n s.size) s.contents
        (all_by (Same o) (λ c. Same (repeat n o) (turned n s.size c)) s.contents (λ c h. turns_all n s.size o c.start c.size c.copies a.size h) a.same);
  })

  text_placed : (at : ℕ) (a : After (List ℕ)) → Named at a → Placed a.value (record { size = length a.value; contents = record { start = at + 1; size = length a.value; copies = 0 ∷ [] } ∷ [] })
  text_placed at a h = record {
    size = refl;
    same = All-cons (Same a.value) _ [] (All-cons (IsCopy a.value (at + 1) (length a.value)) 0 [] (omega arith, all_taken a.value ∙ sym h.text) (All-nil (IsCopy a.value (at + 1) (length a.value)))) (All-nil (Same a.value));
  }
    where
      all_taken : (xs : List ℕ) → take (length xs) (drop 0 xs) ≡ xs
      all_taken [] = refl
      all_taken (x ∷ xs) = ap (λ l. x ∷ l) (all_taken xs)

  -- ---- both folds

  abbrev Both : Result (After (List ℕ)) Fault → Result (After Spread) Fault → Type 0
  Both (Ok a) (Ok b) = (a.within ≡ b.within) × (a.rest ≡ b.rest) × Placed a.value b.value × Pos a.within a.rest
  Both (Ok a) (Err d) = ⊥
  Both (Err e) (Ok b) = ⊥
  Both (Err e) (Err d) = e ≡ d

  both_then : (r : Result (After (List ℕ)) Fault) (s : Result (After Spread) Fault) (k : After (List ℕ) → Result (After (List ℕ)) Fault) (l : After Spread → Result (After Spread) Fault)
      → Both r s → ((a : List ℕ) (b : Spread) (at : ℕ) (rest : List ℕ) → Placed a b → Pos at rest → Both (k (after a at rest)) (l (after b at rest))) → Both (and_then r k) (and_then s l)
  both_then (Ok a) (Ok b) k l (w, t, v, p) h =
      subst (λ x. Both (k a) (l (after b.value b.within x))) t (subst (λ x. Both (k a) (l (after b.value x a.rest))) w (h a.value b.value a.within a.rest v p))
  both_then (Ok a) (Err d) k l q h = absurd q
  both_then (Err e) (Ok b) k l q h = absurd q
  both_then (Err e) (Err d) k l q h = q

  le_by : (q : Result (After ℕ) Fault) → ((a : After ℕ) → q ≡ Ok a → Pos a.within a.rest) → (f : After ℕ → Result (After (List ℕ)) Fault) (g : After ℕ → Result (After Spread) Fault)
      → ((x : After ℕ) → Pos x.within x.rest → Both (f x) (g x)) → Both (and_then q f) (and_then q g)
  le_by (Ok a) p f g h = h a (p a refl)
  le_by (Err e) p f g h = refl

  le_then : (k at : ℕ) (rest : List ℕ) (f : After ℕ → Result (After (List ℕ)) Fault) (g : After ℕ → Result (After Spread) Fault) → Pos at rest
      → ((x : After ℕ) → Pos x.within x.rest → Both (f x) (g x)) → Both (and_then (le_read k at rest) f) (and_then (le_read k at rest) g)
  le_then k at rest f g is h = le_by (le_read k at rest) (λ a e. le_pos k at rest a is e) f g h

  abbrev Reads : Reading (List ℕ) → Reading Spread → Type 0
  Reads p q = (at : ℕ) (rest : List ℕ) → Pos at rest → Both (p at rest) (q at rest)

  text_both : Reads copies.text spreads.text
  text_both at rest is = text_by (name_read at rest) (λ a e. name_pos at rest a is e)
    where
      text_by : (q : Result (After (List ℕ)) Fault) → ((a : After (List ℕ)) → q ≡ Ok a → Named at a)
          → Both q (and_then (and_then q (λ a. Ok (after (length a.value) a.within a.rest)))
          (λ a. Ok (after (record { size = a.value; contents = record { start = at + 1; size = a.value; copies = 0 ∷ [] } ∷ [] }) a.within a.rest)))
      text_by (Ok a) h = let n = h a refl in (refl, refl, text_placed at a n, n.place)
      text_by (Err e) h = refl

  times_both : (p : Reading (List ℕ)) (q : Reading Spread) → Reads p q → (n : ℕ) (a : List ℕ) (b : Spread) (at : ℕ) (rest : List ℕ) → Placed a b → Pos at rest
      → Both (fold_times copies p n a at rest) (fold_times spreads q n b at rest)
  times_both p q h zero a b at rest v is = (refl, refl, v, is)
  times_both p q h (suc n) a b at rest v is =
      both_then (p at rest) (q at rest) (λ x. fold_times copies p n (a ++ x.value) x.within x.rest) (λ x. fold_times spreads q n (spreads.join b x.value) x.within x.rest) (h at rest is)
      (λ c d more left w there. times_both p q h n (a ++ c) (spreads.join b d) more left (join_placed a c b d v w) there)

  nothing_placed : Placed [] spreads.none
  nothing_placed = record { size = refl; same = All-nil (Same []) }

  contents_both : (p : Reading (List ℕ)) (q : Reading Spread) → Reads p q → (n : ℕ) → Reads (fold_contents copies p n) (fold_contents spreads q n)
  contents_both p q h zero at rest is = text_both at rest is
  contents_both p q h (suc n) at rest is = times_both p q h (suc n) [] spreads.none at rest nothing_placed is

  block_both : (width levels : ℕ) → Reads (fold_block copies width levels) (fold_block spreads width levels)
  block_both width zero at rest is = le_then width at rest _ _ is (λ c there. refl)
  block_both width (suc levels) at rest is =
      le_then width at rest _ _ is (λ c there. le_then 2 c.within c.rest _ _ there (λ n on.
      both_then (fold_contents copies (fold_block copies width levels) n.value n.within n.rest) (fold_contents spreads (fold_block spreads width levels) n.value n.within n.rest) _ _
      (contents_both (fold_block copies width levels) (fold_block spreads width levels) (block_both width levels) n.value n.within n.rest on)
      (λ a b more left v last. (refl, refl, again_placed c.value a b v, last))))

  abbrev BothAll : Result (List ℕ) Fault → Result Spread Fault → Type 0
  BothAll (Ok a) (Ok b) = Placed a b
  BothAll (Ok a) (Err d) = ⊥
  BothAll (Err e) (Ok b) = ⊥
  BothAll (Err e) (Err d) = e ≡ d

  all_then : (r : Result (After (List ℕ)) Fault) (s : Result (After Spread) Fault) (k : After (List ℕ) → Result (List ℕ) Fault) (l : After Spread → Result Spread Fault)
      → Both r s → ((a : List ℕ) (b : Spread) (at : ℕ) (rest : List ℕ) → Placed a b → Pos at rest → BothAll (k (after a at rest)) (l (after b at rest))) → BothAll (and_then r k) (and_then s l)
  all_then (Ok a) (Ok b) k l (w, t, v, p) h =
      subst (λ x. BothAll (k a) (l (after b.value b.within x))) t (subst (λ x. BothAll (k a) (l (after b.value x a.rest))) w (h a.value b.value a.within a.rest v p))
  all_then (Ok a) (Err d) k l q h = absurd q
  all_then (Err e) (Ok b) k l q h = absurd q
  all_then (Err e) (Err d) k l q h = q

  all_both : (width levels n : ℕ) (a : List ℕ) (b : Spread) (at : ℕ) (rest : List ℕ) → Placed a b → Pos at rest
      → BothAll (fold_all copies (fold_block copies width levels) n a at rest) (fold_all spreads (fold_block spreads width levels) n b at rest)
  all_both width levels n a b at [] v is = v
  all_both width levels zero a b at (x ∷ rest) v is = v
  all_both width levels (suc n) a b at (x ∷ rest) v is =
      all_then (fold_block copies width levels at (x ∷ rest)) (fold_block spreads width levels at (x ∷ rest)) _ _ (block_both width levels at (x ∷ rest) is)
      (λ c d more left w there. all_both width levels n (a ++ c) (spreads.join b d) more left (join_placed a c b d v w) there)

  -- ---- a location in a content

  module _ (l : Location) where
    located : (out : List ℕ) (c : Content) (x : ℕ) → has_all l c ≡ true → IsCopy out c.start c.size x → IsCopy out l.offset l.size (x + (l.offset - c.start))
    located out c x has (low, is) =
        let h = both (nat_le c.start l.offset) (nat_le (l.offset + l.size) (c.start + c.size)) has in
        let from : c.start ≤ l.offset = leb-true c.start l.offset h.0 in
        let to : l.offset + l.size ≤ c.start + c.size = leb-true (l.offset + l.size) (c.start + c.size) h.1 in
        let o : ℕ = l.offset - c.start in
        let more : ℕ = c.size - o in
        let split : o + more ≡ c.size = omega (arith, from, to) in
        let fits : l.size ≤ more = omega (arith, from, to) in
        let there : c.start + o ≡ l.offset = omega (arith, from) in (
          omega (arith, from, to, low),
          sym (cut out x o more fits) ∙ ap (λ k. take l.size (drop o (take k (drop x out)))) split ∙ ap (λ ys. take l.size (drop o ys)) is
              ∙ sym (ap (λ k. take l.size (drop o (take k (drop c.start bytes)))) split) ∙ cut bytes c.start o more fits ∙ ap (λ k. take l.size (drop k bytes)) there,
        )
      where
        both : (a b : Bool) → (a && b) ≡ true → (a ≡ true) × (b ≡ true)
        both true b e = (refl, e)
        both false b e = absurd cc

        cut : (xs : List ℕ) (x o more : ℕ) → l.size ≤ more → take l.size (drop o (take (o + more) (drop x xs))) ≡ take l.size (drop (x + o) xs)
        cut xs x o more fits = ap (take l.size) (drop-take o more (drop x xs)) ∙ take-take l.size more (drop o (drop x xs)) fits ∙ ap (take l.size) (drop-drop o x xs)

    found_by : (out : List ℕ) (c : Content) (cs : List Content) (copies : List ℕ) (b : Bool) → has_all l c ≡ b → Same out c → (copies_of cs l ≡ Some copies → All (IsCopy out l.offset l.size) copies)
        → option_map (λ c. map (λ x. x + (l.offset - c.start)) c.copies) (cond b (Some c) (find (has_all l) cs)) ≡ Some copies → All (IsCopy out l.offset l.size) copies
    found_by out c cs copies true has same others e =
        let is : map (λ x. x + (l.offset - c.start)) c.copies ≡ copies = cc in
        subst (All (IsCopy out l.offset l.size)) is (All-map (IsCopy out l.offset l.size) (λ x. x + (l.offset - c.start)) c.copies
        (all_by (IsCopy out c.start c.size) (λ x. IsCopy out l.offset l.size (x + (l.offset - c.start))) c.copies (λ x h. located out c x has h) same))
    found_by out c cs copies false has same others e = others e

    found : (out : List ℕ) (cs : List Content) (copies : List ℕ) → All (Same out) cs → copies_of cs l ≡ Some copies → All (IsCopy out l.offset l.size) copies
    found out [] copies all e = absurd cc
    found out (c ∷ cs) copies all e = found_by out c cs copies (has_all l c) refl (All-head (Same out) c cs all) (λ f. found out cs copies (All-tail (Same out) c cs all) f) e

  drop_none : (xs : List ℕ) → xs ≡ drop 0 xs
  drop_none [] = refl
  drop_none (x ∷ xs) = refl

  module _ (width : ℕ) (limits : Limits) (trees : Blocks) (spelled : (blocks width limits.nesting).Spells 0 bytes trees) (l : Location) (copies : List ℕ) where
    placed_by : (r : Result (List ℕ) Fault) (q : Result Spread Fault) → BothAll r q → ((out : List ℕ) → Ok out ≡ r → out ≡ blocks_bytes trees) → copies_of (contents_or_none q) l ≡ Some copies
        → All (IsCopy (blocks_bytes trees) l.offset l.size) copies
    placed_by (Ok o) (Ok s) v h e = subst (λ x. All (IsCopy x l.offset l.size) copies) (h o refl) (found l o s.contents copies v.same e)
    placed_by (Ok o) (Err d) v h e = absurd v
    placed_by (Err f) (Ok s) v h e = absurd v
    placed_by (Err f) (Err d) v h e = absurd cc

    pub copies_placed : copies_of (contents_in width limits.nesting bytes) l ≡ Some copies → All (IsCopy (blocks_bytes trees) l.offset l.size) copies
    copies_placed e =
        placed_by (bytes_all (bytes_block width limits.nesting) (length bytes) [] 0 bytes) (spread_all width limits.nesting bytes)
        (all_both width limits.nesting (length bytes) [] spreads.none 0 bytes nothing_placed (drop_none bytes))
        (λ out is. all_are width limits bytes out is ∙ ap (λ r. blocks_bytes (blocks_or_none r)) ((blocks_whole width limits.nesting).again 0 bytes trees spelled)) e
