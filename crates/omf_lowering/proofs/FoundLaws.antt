-- The copies that are found of a location are those of the content that has it.
use Rattle.std.proofs.Common.{◌≡◌, inl, inr, ℕ, zero, suc, ◌+◌, ◌-◌, ◌*◌, ◌<◌, ◌≤◌, Bool, true, false, cond, List, [], ◌∷◌, ◌++◌, length, Option, Some, None, Result, Ok, Err, refl, sym, ap, subst, ◌∙◌, arith}
use Rattle.std.specs.Prelude.{◌⊎◌, IfOk, IfSome, IsOk, flat_map, find, map, nat_le, option_map, is_some, ◌&&◌}
use Rattle.std.specs.List.{range_with_len}
use Rattle.std.specs.Option.{option_or}
use Rattle.std.proofs.Math.Nat.{min-eq_right, min-le_right, suc-mul}
use Rattle.std.proofs.lemmas.Bool.{leb-true}
use Rattle.std.proofs.lemmas.Bool.Decides.{leb_tells}
use Rattle.std.proofs.lemmas.List.{map-append}
use Rattle.omf_frame.specs.Fault.{Fault}
use Rattle.omf_image.specs.Blocks.{Blocks, blocks_size}
use Rattle.omf_image.specs.Inner.Expanding.{expanded_length, read_blocks}
use Rattle.omf_image.specs.Inner.Lengths.{capped, lengths, len_data}
use Rattle.omf_image.specs.Limits.{profile_limits}
use Rattle.omf_image.proofs.Counting.{blocks_count}
use Rattle.omf_image.proofs.LengthLaws.{judged, length_of}
use Rattle.omf_records.specs.Inner.Reads.{After, after, and_then}
use Rattle.omf_lowering.specs.declared.copies.Turn.{Turn}
use Rattle.omf_lowering.specs.declared.fault.Stop.{Stop}
use Rattle.omf_lowering.specs.declared.fault.Stop.TheVariants as stop
use Rattle.omf_lowering.specs.declared.location.Location.{Location}
use Rattle.omf_lowering.specs.Inner.Spreading.{Content, Spread, contents_in, contents_or_none, moved, spread_all, spreads, turned}
use Rattle.omf_lowering.specs.Inner.Turns.{Found, GivesAll, IsUnfound, Path, copy_in, either, finds, found_all, found_block, further, in_turns, joined, nothing, offsets_by, offsets_of, repeated, with_turn}
use Rattle.omf_lowering.specs.Unrolled.{copies_of, has_all}
use Rattle.omf_lowering.proofs.SpreadLaws.{Both, BothAll, Related, blocks_both, same_then}
use Rattle.omf_lowering.proofs.TurnLaws.{cap_product, top, under}

-- ---- saturating numbers

over : (a : ℕ) → top ≤ a → capped a ≡ top
over a h = min-eq_right h

exact : (a b : ℕ) → capped a ≡ capped b → b < top → a ≡ b
exact a b e low = elim (leb_tells a top) [
  | inl t ↦ sym (under a t.1) ∙ e ∙ under b (omega (arith, low))
  | inr t ↦ absurd (let x = over a (omega (arith, t.1)) in let y = under b (omega (arith, low)) in omega (arith, x, y, e, low))
]

cap_left : (a b : ℕ) → capped (capped a + b) ≡ capped (a + b)
cap_left a b = elim (leb_tells a top) [
  | inl t ↦ ap (λ n. capped (n + b)) (under a t.1)
  | inr t ↦ ap (λ n. capped (n + b)) (over a (omega (arith, t.1))) ∙ over (top + b) (omega arith) ∙ sym (over (a + b) (omega (arith, t.1)))
]

cap_both : (a b : ℕ) → capped (capped a + capped b) ≡ capped (a + b)
cap_both a b = cap_left a (capped b) ∙ ap capped (omega arith) ∙ cap_left b a ∙ ap capped (omega arith)

cap_twice : (a : ℕ) → capped (capped a) ≡ capped a
cap_twice a = under (capped a) (min-le_right a top)

cap_sum : (a b s t : ℕ) → capped a ≡ capped s → capped b ≡ capped t → capped (capped (a + b)) ≡ capped (s + t)
cap_sum a b s t e g = cap_twice (a + b) ∙ sym (cap_both a b) ∙ ap (λ n. capped (n + capped b)) e ∙ ap (λ n. capped (capped s + n)) g ∙ cap_both s t

-- ---- offsets that are further

further_comm : (a b : ℕ) (xs : List ℕ) → further a (further b xs) ≡ further b (further a xs)
further_comm a b [] = refl
further_comm a b (x ∷ xs) = let e : x + b + a ≡ x + a + b = omega arith in ap (λ y. y ∷ further a (further b xs)) e ∙ ap (λ ys. (x + a + b) ∷ ys) (further_comm a b xs)

turns_further : (o s : ℕ) (xs ks : List ℕ) → further o (flat_map (λ k. further (k * s) xs) ks) ≡ flat_map (λ k. further (k * s) (further o xs)) ks
turns_further o s xs [] = refl
turns_further o s xs (k ∷ ks) =
    map-append (λ x. x + o) (further (k * s) xs) (flat_map (λ k. further (k * s) xs) ks)
    ∙ ap (λ ys. ys ++ further o (flat_map (λ k. further (k * s) xs) ks)) (further_comm o (k * s) xs)
    ∙ ap (λ ys. further (k * s) (further o xs) ++ ys) (turns_further o s xs ks)

turns_none : (s : ℕ) (ks : List ℕ) → flat_map (λ k. further (k * s) []) ks ≡ []
turns_none s [] = refl
turns_none s (k ∷ ks) = turns_none s ks

offsets_further : (d : ℕ) (xs : List ℕ) (turns : List Turn) → offsets_by (further d xs) turns ≡ further d (offsets_by xs turns)
offsets_further d xs [] = refl
offsets_further d xs (t ∷ turns) = ap (λ ys. offsets_by ys turns) (sym (turns_further d t.size xs (range_with_len 0 t.count))) ∙ offsets_further d (in_turns xs t) turns

offsets_turn : (xs : List ℕ) (turns : List Turn) (t : Turn) → offsets_by xs (turns ++ t ∷ []) ≡ in_turns (offsets_by xs turns) t
offsets_turn xs [] t = refl
offsets_turn xs (u ∷ turns) t = offsets_turn (in_turns xs u) turns t

map_none : (d : ℕ) (xs : List ℕ) → further d xs ≡ [] → xs ≡ []
map_none d [] e = refl
map_none d (x ∷ xs) e = absurd cc

from_zero : (x : ℕ) (turns : List Turn) → offsets_by (x ∷ []) turns ≡ further x (offsets_by (0 ∷ []) turns)
from_zero x turns = let e : x ≡ 0 + x = omega arith in ap (λ y. offsets_by (y ∷ []) turns) e ∙ offsets_further x (0 ∷ []) turns

abbrev pub Near : ℕ → Path → Type 0
Near size p = (offsets_of p ≡ []) ⊎ (p.first ≤ size)

moved_told : (q : Path) (by size : ℕ) → by + size < top → Near size q → offsets_of (record q { first = capped (q.first + by) }) ≡ further by (offsets_of q)
moved_told q by size low (inl none) =
    let zero_none : offsets_by (0 ∷ []) q.turns ≡ [] = map_none q.first (offsets_by (0 ∷ []) q.turns) (sym (from_zero q.first q.turns) ∙ none) in
    from_zero (capped (q.first + by)) q.turns ∙ ap (further (capped (q.first + by))) zero_none ∙ sym (ap (further by) none)
moved_told q by size low (inr near) =
    ap (λ f. offsets_by (f ∷ []) q.turns) (under (q.first + by) (omega (arith, near, low))) ∙ offsets_further by (q.first ∷ []) q.turns

either_told : (p q : Option Path) (by size : ℕ) → by + size < top → IfSome q (Near size)
    → option_map offsets_of (either p q by) ≡ option_or (option_map offsets_of p) (option_map (further by) (option_map offsets_of q))
either_told (Some p) q by size low near = refl
either_told None (Some q) by size low near = ap Some (moved_told q by size low near)
either_told None None by size low near = refl

either_near : (p q : Option Path) (by size : ℕ) → by + size < top → IfSome p (Near by) → IfSome q (Near size) → IfSome (either p q by) (Near (by + size))
either_near (Some p) q by size low (inl none) near = inl none
either_near (Some p) q by size low (inr own) near = inr (omega (arith, own))
either_near None (Some q) by size low own (inl none) = inl (moved_told q by size low (inl none) ∙ ap (further by) none)
either_near None (Some q) by size low own (inr near) = let u = under (q.first + by) (omega (arith, near, low)) in inr (omega (arith, u, near))
either_near None None by size low own near = tt

either_held : (p q : Option Path) (u v : Option (List ℕ)) (by : ℕ) → is_some p ≡ is_some u → is_some q ≡ is_some v → is_some (either p q by) ≡ is_some (option_or u (option_map (further by) v))
either_held (Some p) q (Some x) v by e g = refl
either_held (Some p) q None v by e g = absurd cc
either_held None q (Some x) v by e g = absurd cc
either_held None (Some q) None (Some y) by e g = refl
either_held None (Some q) None None by e g = absurd cc
either_held None None None (Some y) by e g = absurd cc
either_held None None None None by e g = refl

-- ---- one more turn

turned_held : (p : Option Path) (u : Option (List ℕ)) (t : Turn) (k : List ℕ → List ℕ) → is_some p ≡ is_some u → is_some (option_map (with_turn t) p) ≡ is_some (option_map k u)
turned_held (Some p) (Some x) t k e = refl
turned_held (Some p) None t k e = absurd cc
turned_held None (Some x) t k e = absurd cc
turned_held None None t k e = refl

turned_told : (p : Option Path) (t : Turn) → option_map offsets_of (option_map (with_turn t) p) ≡ option_map (λ xs. in_turns xs t) (option_map offsets_of p)
turned_told (Some p) t = ap Some (offsets_turn (p.first ∷ []) p.turns t)
turned_told None t = refl

zero_told : (p : Option Path) (u : Option (List ℕ)) (a s : ℕ) → is_some p ≡ is_some u
    → option_map offsets_of (option_map (with_turn (record { count = 0; size = a })) p) ≡ option_map (λ xs. flat_map (λ k. further (k * s) xs) (range_with_len 0 0)) u
zero_told (Some p) (Some x) a s e = ap Some (offsets_turn (p.first ∷ []) p.turns (record { count = 0; size = a }))
zero_told (Some p) None a s e = absurd cc
zero_told None (Some x) a s e = absurd cc
zero_told None None a s e = refl

zero_near : (p : Option Path) (a size : ℕ) → IfSome (option_map (with_turn (record { count = 0; size = a })) p) (Near size)
zero_near (Some p) a size = inl (offsets_turn (p.first ∷ []) p.turns (record { count = 0; size = a }))
zero_near None a size = tt

turned_near : (p : Option Path) (t : Turn) (size more : ℕ) → size ≤ more → IfSome p (Near size) → IfSome (option_map (with_turn t) p) (Near more)
turned_near (Some p) t size more le (inl none) = inl (offsets_turn (p.first ∷ []) p.turns t ∙ ap (λ xs. in_turns xs t) none ∙ turns_none t.size (range_with_len 0 t.count))
turned_near (Some p) t size more le (inr low) = inr (omega (arith, low, le))
turned_near None t size more le near = tt

both : (a b : Bool) → (a && b) ≡ true → (a ≡ true) × (b ≡ true)
both true b e = (refl, e)
both false b e = absurd cc

module _ (l : Location) where
  -- ---- the content that has the location

  abbrev own : Content → List ℕ
  own c = map (λ x. x + (l.offset - c.start)) c.copies

  abbrev looked : List Content → Option (List ℕ)
  looked cs = copies_of cs l

  append_by : (x : Content) (xs ys : List Content) (b : Bool) → looked (xs ++ ys) ≡ option_or (looked xs) (looked ys)
      → option_map own (cond b (Some x) (find (has_all l) (xs ++ ys))) ≡ option_or (option_map own (cond b (Some x) (find (has_all l) xs))) (looked ys)
  append_by x xs ys true e = refl
  append_by x xs ys false e = e

  looked_append : (xs ys : List Content) → looked (xs ++ ys) ≡ option_or (looked xs) (looked ys)
  looked_append [] ys = refl
  looked_append (x ∷ xs) ys = append_by x xs ys (has_all l x) (looked_append xs ys)

  module _ (h k : List ℕ → List ℕ) (same : (o : ℕ) (xs : List ℕ) → further o (h xs) ≡ k (further o xs)) where
    abbrev changed : Content → Content
    changed c = record c { copies = h c.copies }

    map_by : (c : Content) (cs : List Content) (b : Bool) → looked (map changed cs) ≡ option_map k (looked cs)
        → option_map own (cond b (Some (changed c)) (find (has_all l) (map changed cs))) ≡ option_map k (option_map own (cond b (Some c) (find (has_all l) cs)))
    map_by c cs true e = ap Some (same (l.offset - c.start) c.copies)
    map_by c cs false e = e

    looked_map : (cs : List Content) → looked (map changed cs) ≡ option_map k (looked cs)
    looked_map [] = refl
    looked_map (c ∷ cs) = map_by c cs (has_all l c) (looked_map cs)

  looked_moved : (by : ℕ) (cs : List Content) → looked (map (moved by) cs) ≡ option_map (further by) (looked cs)
  looked_moved by cs = looked_map (further by) (further by) (λ o xs. further_comm o by xs) cs

  looked_turned : (n size : ℕ) (cs : List Content) → looked (map (turned n size) cs) ≡ option_map (λ xs. flat_map (λ k. further (k * size) xs) (range_with_len 0 n)) (looked cs)
  looked_turned n size cs =
      looked_map (λ xs. flat_map (λ k. further (k * size) xs) (range_with_len 0 n)) (λ xs. flat_map (λ k. further (k * size) xs) (range_with_len 0 n))
      (λ o xs. turns_further o size xs (range_with_len 0 n)) cs

  -- ---- what is found has the copies

  pub record Tells (a : Found) (s : Spread) : Type 0 where
    pub size : capped a.size ≡ capped s.size
    pub held : is_some a.copies ≡ is_some (looked s.contents)
    pub told : s.size < top → option_map offsets_of a.copies ≡ looked s.contents
    pub near : s.size < top → IfSome a.copies (Near s.size)

  joined_looked : (s t : Spread) → looked (s.contents ++ map (moved s.size) t.contents) ≡ option_or (looked s.contents) (option_map (further s.size) (looked t.contents))
  joined_looked s t = looked_append s.contents (map (moved s.size) t.contents) ∙ ap (option_or (looked s.contents)) (looked_moved s.size t.contents)

  is_some_further : (u : Option (List ℕ)) (by other : ℕ) → is_some (option_map (further by) u) ≡ is_some (option_map (further other) u)
  is_some_further (Some x) by other = refl
  is_some_further None by other = refl

  is_some_or : (u v w : Option (List ℕ)) → is_some v ≡ is_some w → is_some (option_or u v) ≡ is_some (option_or u w)
  is_some_or (Some x) v w e = refl
  is_some_or None v w e = e

  join_tells : (a c : Found) (s t : Spread) → Tells a s → Tells c t → Tells (joined a c) (spreads.join s t)
  join_tells a c s t p q = record {
    size = cap_sum a.size c.size s.size t.size p.size q.size;
    held = either_held a.copies c.copies (looked s.contents) (looked t.contents) a.size p.held q.held
        ∙ is_some_or (looked s.contents) _ _ (is_some_further (looked t.contents) a.size s.size) ∙ sym (ap is_some (joined_looked s t));
    told = λ low.
        let same : a.size ≡ s.size = exact a.size s.size p.size (omega (arith, low)) in
        ap (λ n. option_map offsets_of (either a.copies c.copies n)) same
        ∙ either_told a.copies c.copies s.size t.size low (q.near (omega (arith, low)))
        ∙ ap (λ u. option_or u (option_map (further s.size) (option_map offsets_of c.copies))) (p.told (omega (arith, low)))
        ∙ ap (λ u. option_or (looked s.contents) (option_map (further s.size) u)) (q.told (omega (arith, low)))
        ∙ sym (joined_looked s t);
    near = λ low.
        let same : s.size ≡ a.size = sym (exact a.size s.size p.size (omega (arith, low))) in
        subst (λ n. IfSome (either a.copies c.copies n) (Near (s.size + t.size))) same (either_near a.copies c.copies s.size t.size low (p.near (omega (arith, low))) (q.near (omega (arith, low))));
  }

  again_tells : (n : ℕ) (a : Found) (s : Spread) → Tells a s → Tells (repeated n a) (spreads.again n s)
  again_tells zero a s p = record {
    size = cap_twice (0 * a.size) ∙ cap_product 0 a.size s.size p.size;
    held = turned_held a.copies (looked s.contents) (record { count = 0; size = a.size }) _ p.held ∙ sym (ap is_some (looked_turned 0 s.size s.contents));
    told = λ low. zero_told a.copies (looked s.contents) a.size s.size p.held ∙ sym (looked_turned 0 s.size s.contents);
    near = λ low. zero_near a.copies a.size (0 * s.size);
  }
  again_tells (suc n) a s p =
      let all : suc n * s.size ≡ n * s.size + s.size = suc-mul n s.size in
      let t : Turn = record { count = suc n; size = a.size } in
      record {
        size = cap_twice (suc n * a.size) ∙ cap_product (suc n) a.size s.size p.size;
        held = turned_held a.copies (looked s.contents) t _ p.held ∙ sym (ap is_some (looked_turned (suc n) s.size s.contents));
        told = λ low.
            let own_low : s.size < top = omega (arith, low, all) in
            turned_told a.copies t ∙ ap (option_map (λ xs. in_turns xs t)) (p.told own_low)
            ∙ ap (λ k. option_map (λ xs. in_turns xs (record { count = suc n; size = k })) (looked s.contents)) (exact a.size s.size p.size own_low)
            ∙ sym (looked_turned (suc n) s.size s.contents);
        near = λ low.
            let own_low : s.size < top = omega (arith, low, all) in
            turned_near a.copies t s.size (suc n * s.size) (omega (arith, all)) (p.near own_low);
      }

  abbrev path : ℕ → Path
  path start = record { first = l.offset - start; turns = [] }

  abbrev one : ℕ → ℕ → Content
  one start size = record { start = start; size = size; copies = 0 ∷ [] }

  held_by : (start size : ℕ) (b : Bool) → is_some (cond b (Some (path start)) None) ≡ is_some (option_map own (cond b (Some (one start size)) None))
  held_by start size true = refl
  held_by start size false = refl

  told_by : (start size : ℕ) (b : Bool) → option_map offsets_of (cond b (Some (path start)) None) ≡ option_map own (cond b (Some (one start size)) None)
  told_by start size true = let e : l.offset - start ≡ 0 + (l.offset - start) = omega arith in ap (λ x. Some (x ∷ [])) e
  told_by start size false = refl

  near_by : (start size : ℕ) (b : Bool) → (nat_le start l.offset && nat_le (l.offset + l.size) (start + size)) ≡ b → IfSome (cond b (Some (path start)) None) (Near size)
  near_by start size true e = let h = both (nat_le start l.offset) (nat_le (l.offset + l.size) (start + size)) e in
      let low : l.offset + l.size ≤ start + size = leb-true (l.offset + l.size) (start + size) h.1 in inr (omega (arith, low))
  near_by start size false e = tt

  text_one : (start size : ℕ) → Tells (record { size = size; copies = copy_in start size l }) (record { size = size; contents = one start size ∷ [] })
  text_one start size = record {
    size = refl;
    held = held_by start size (has_all l (one start size));
    told = λ low. told_by start size (has_all l (one start size));
    near = λ low. near_by start size (has_all l (one start size)) refl;
  }

  found_tells : Related (finds l) spreads Tells
  found_tells = record {
    none = record { size = refl; held = refl; told = λ low. refl; near = λ low. tt };
    join = join_tells;
    again = again_tells;
    text = λ at bytes. same_then Tells (len_data at bytes) _ _ (λ a. (refl, refl, text_one (at + 1) a.value));
  }

-- ---- the blocks are within the limits

abbrev SameSize : ℕ → Spread → Type 0
SameSize n s = capped n ≡ capped s.size

size_of_text : (q : Result (After ℕ) Fault) (at : ℕ)
    → Both SameSize q (and_then q (λ a. Ok (after (record { size = a.value; contents = record { start = at + 1; size = a.value; copies = 0 ∷ [] } ∷ [] }) a.within a.rest)))
size_of_text (Ok a) at = (refl, refl, refl)
size_of_text (Err e) at = refl

sizes_tell : Related lengths spreads SameSize
sizes_tell = record {
  none = refl;
  join = λ n m s t e g. cap_sum n m s.size t.size e g;
  again = λ count n s e. cap_twice (count * n) ∙ cap_product count n s.size e;
  text = λ at bytes. size_of_text (len_data at bytes) at;
}

module _ (limit : ℕ) (small : limit < top) where
  small_by : (r : Result Blocks Fault) (q : Result Spread Fault) (s : Spread) → q ≡ Ok s → IsOk (length_of limit r) → BothAll SameSize (and_then r (λ trees. Ok (capped (blocks_size trees)))) q → s.size < top
  small_by (Ok trees) (Ok t) s is ok rel = elim (leb_tells (blocks_size trees) limit) [
    | inl f ↦ let same : t ≡ s = cc in
        let e : capped s.size ≡ capped (blocks_size trees) = sym (ap (λ u. capped u.size) same) ∙ sym rel ∙ cap_twice (blocks_size trees) in
        let x = exact s.size (blocks_size trees) e (omega (arith, f.1, small)) in omega (arith, x, f.1, small)
    | inr f ↦ absurd (never (nat_le (blocks_size trees) limit) f.0 ok)
  ]
    where
      never : (b : Bool) → b ≡ false → IsOk (judged b (blocks_size trees)) → ⊥
      never true e g = absurd cc
      never false e g = absurd cc
  small_by (Ok trees) (Err d) s is ok rel = absurd cc
  small_by (Err e) q s is ok rel = absurd cc

-- ---- the copies of a location

module _ (width : ℕ) (bytes : List ℕ) (ok : IsOk (expanded_length width profile_limits bytes)) where
  spread_small : (s : Spread) → spread_all width 64 bytes ≡ Ok s → s.size < top
  spread_small s is =
      small_by 268435456 (omega arith) (read_blocks width 64 bytes) (spread_all width 64 bytes) s is ok
      (subst (λ r. BothAll SameSize r (spread_all width 64 bytes)) (blocks_count width 64 bytes) (blocks_both lengths spreads SameSize sizes_tell width 64 bytes))

  module _ (l : Location) where
    by_all : (q : Result Spread Fault) (r : Result Found Fault) → q ≡ spread_all width 64 bytes → BothAll (Tells l) r q → (a : Found) → Ok a ≡ r → option_map offsets_of a.copies ≡ copies_of (contents_or_none q) l
    by_all (Ok s) (Ok b) is rel a e = let same : a ≡ b = cc in ap (λ x. option_map offsets_of x.copies) same ∙ rel.told (spread_small s (sym is))
    by_all (Err d) (Ok b) is rel a e = absurd rel
    by_all q (Err f) is rel a e = absurd cc

    none_all : (q : Result Spread Fault) (r : Result Found Fault) → BothAll (Tells l) r q → (f : Fault) → Err f ≡ r → copies_of (contents_or_none q) l ≡ None
    none_all (Err d) r rel f e = refl
    none_all (Ok s) (Err g) rel f e = absurd rel
    none_all (Ok s) (Ok b) rel f e = absurd cc

    abbrev rel_all : BothAll (Tells l) (found_all l (found_block l width 64) (length bytes) nothing 0 bytes) (spread_all width 64 bytes)
    rel_all = blocks_both (finds l) spreads (Tells l) (found_tells l) width 64 bytes

    pub found_ok : (a : Found) → Ok a ≡ found_all l (found_block l width 64) (length bytes) nothing 0 bytes → option_map offsets_of a.copies ≡ copies_of (contents_in width profile_limits.nesting bytes) l
    found_ok a e = by_all (spread_all width 64 bytes) _ refl rel_all a e

    pub found_none : (why : Stop) (copies : Option Path) → IsUnfound why copies → GivesAll {A = Found} (Err why) (found_all l (found_block l width 64) (length bytes) nothing 0 bytes)
        → option_map offsets_of copies ≡ copies_of (contents_in width profile_limits.nesting bytes) l
    found_none stop.Memory copies is e = absurd is
    found_none (stop.At f) copies is e = ap (option_map offsets_of) is ∙ sym (none_all (spread_all width 64 bytes) _ rel_all f e)

pub on_ok : {A E : Type 0} {P Q : A → Type 0} (r : Result A E) → ((x : A) → P x → Q x) → IfOk r P → IfOk r Q
on_ok (Ok x) f h = f x h
on_ok (Err e) f h = h
