-- What a fixup adds at a moved placement.
use Rattle.std.proofs.Common.{◌≡◌, ℕ, ◌+◌, ◌*◌, ◌-◌, List, [], ◌∷◌, Bool, true, false, cond, refl, ◌∙◌, ap, ap₂, arith}
use Rattle.std.specs.Prelude.{Option, Some, None, option_map, option_and_then, nat_le, nat_lt, ◌==◌, ◌||◌, ◌&&◌, ◌^◌, filter, filter_map, Result, Ok, Err}
use Rattle.std.specs.Option.{option_zip}
use Rattle.std.specs.List.{cons_option}
use Rattle.std.proofs.lemmas.Bool.{le-leb, leb-true}
use Rattle.omf_frame.specs.Bytes.{difference}
use Rattle.omf_records.specs.Inner.Names.{offset_bits, self_relative_bits, width_bits}
use Rattle.omf_records.specs.Values.{location_type, location_offset, is_segment_relative}
use Rattle.omf_records.specs.declared.location.LocationType.{LocationType}
use Rattle.omf_records.specs.declared.location.LocationType.TheVariants.{LowByte, Offset16, Base, Pointer16, HighByte, LoaderOffset16, Offset32, Pointer32, LoaderOffset32}
use Rattle.omf_check.specs.Tables.{entry}
use Rattle.omf_check.specs.Threads.{same}
use Rattle.omf_image.specs.Parts.{Addition}
use Rattle.omf_placement.specs.declared.frame.Frame.{Frame}
use Rattle.omf_placement.specs.declared.frame.Placed.{Placed}
use Rattle.omf_placement.specs.Placement.{place_of, framed}
use Rattle.omf_reloc.specs.Inner.Names.{additions, map_ok, first_or, if_named}
use Rattle.omf_reloc.specs.declared.fault.Cause.{Cause}
use Rattle.omf_reloc.specs.declared.fault.Cause.TheVariants as cause
use Rattle.omf_reloc.specs.Additions.{additions_at, type_of_number}
use Rattle.omf_reloc.specs.Offsets.{readings, offsets, in_frame, from_location, additions_in, in_bits}
use Rattle.omf_reloc.specs.Plain.{PlainFixup}
use Rattle.omf_output.specs.declared.exe.movers.Moving.{Moving}
use Rattle.omf_output.specs.Exe.Moved.{moved, moved_frame, moved_place, parted_place, moving_of, moves}
use Rattle.omf_output.specs.Exe.Relocations.{selector_at, more}
use Rattle.omf_output.specs.Exe.Laws.{OutcomesMove}
use Rattle.omf_output.proofs.PlaceMoves.{place_moves, segment_moves}

-- Both moved, a difference is the same.
difference-moves : (m x y : ℕ) → difference (x + m) (y + m) ≡ difference x y
difference-moves m x y = by (nat_le y x) (nat_le (y + m) (x + m)) refl refl
  where
    by : (a b : Bool) → nat_le y x ≡ a → nat_le (y + m) (x + m) ≡ b → cond b (Some ((x + m) - (y + m))) None ≡ cond a (Some (x - y)) None
    by true true e f = ap Some (omega arith)
    by true false e f = absurd (let l = leb-true y x e in let g = le-leb (y + m) (x + m) (omega arith) in cc)
    by false true e f = absurd (let l = leb-true (y + m) (x + m) f in let g = le-leb y x (omega arith) in cc)
    by false false e f = refl

filter_map-same : {A B : Type 0} (f g : A → Option B) → ((x : A) → f x ≡ g x) → (xs : List A) → filter_map f xs ≡ filter_map g xs
filter_map-same f g h [] = refl
filter_map-same f g h (x ∷ xs) = ap₂ cons_option (h x) (filter_map-same f g h xs)

pub offsets-move : (m w n address u base : ℕ) → offsets w n (address + m) u (base + m) ≡ offsets w n address u base
offsets-move m w n address u base = ap (filter (λ o. nat_lt o (2 ^ w))) (filter_map-same _ _ each (readings n u))
  where
    each : (less : ℕ) → difference (address + m + u) (base + m + less) ≡ difference (address + u) (base + less)
    each less = ap₂ difference (omega arith) (omega arith) ∙ difference-moves m (address + u) (base + less)

-- A selector with k more.
pub additions-more : (t : LocationType) (k o s : ℕ) → additions_at t o (s + k) ≡ more k (selector_at t) (additions_at t o s)
additions-more LowByte k o s = refl
additions-more Offset16 k o s = refl
additions-more Base k o s = refl
additions-more Pointer16 k o s = refl
additions-more HighByte k o s = refl
additions-more LoaderOffset16 k o s = refl
additions-more Offset32 k o s = refl
additions-more Pointer32 k o s = refl
additions-more LoaderOffset32 k o s = refl

none-more : (k : ℕ) (r : Result (List Addition) Cause) → r ≡ map_ok (more k None) r
none-more k (Ok parts) = refl
none-more k (Err c) = refl

frame-more : (t k s : ℕ) (os : List ℕ) → in_frame t (s + k) os ≡ map_ok (more k (selector_at (type_of_number t))) (in_frame t s os)
frame-more t k s os = by (t == 2) (first_or cause.Target os)
  where
    by : (b : Bool) (r : Result ℕ Cause) → cond b (Ok (additions t 0 (s + k))) (map_ok (λ o. additions t o (s + k)) r)
        ≡ map_ok (more k (selector_at (type_of_number t))) (cond b (Ok (additions t 0 s)) (map_ok (λ o. additions t o s) r))
    by true r = ap Ok (additions-more (type_of_number t) k 0 s)
    by false (Ok o) = ap Ok (additions-more (type_of_number t) k o s)
    by false (Err c) = refl

-- A base is the frame's alone.
base-alone : (t s : ℕ) (xs ys : List ℕ) → (t == 2) ≡ true → in_frame t s xs ≡ in_frame t s ys
base-alone t s xs ys e = by (t == 2) e
  where
    by : (b : Bool) → b ≡ true → cond b (Ok (additions t 0 s)) (map_ok (λ o. additions t o s) (first_or cause.Target xs))
        ≡ cond b (Ok (additions t 0 s)) (map_ok (λ o. additions t o s) (first_or cause.Target ys))
    by true e = refl
    by false e = absurd cc

or-second : (b c : Bool) → (b || c) ≡ true → c ≡ false → b ≡ true
or-second true c e f = refl
or-second false true e f = absurd cc
or-second false false e f = e

-- What a fixup adds, by its frame, its target's address and its own offset.
abbrev gives : ℕ → Bool → ℕ → ℕ → Frame → ℕ → Option ℕ → Result (List Addition) Cause
gives t relative n u g address location =
    cond relative (in_frame t g.selector (offsets (offset_bits t) n address u g.base))
    (from_location t (offsets (self_relative_bits t) n address u g.base) (in_bits (self_relative_bits t) location))

module _ (t k n u offset within : ℕ) (g : Frame) (address : ℕ) where
  abbrev here_in : Option Placed → ℕ → Option ℕ
  here_in here base = option_and_then (λ p. difference (p.address + offset + within) base) here

  abbrev here_moved : Bool → Option Placed → Option Placed
  here_moved b here = option_map (λ p. cond b (moved_place k p) p) here

  moved-here : (here : Option Placed) → here_in (here_moved true here) (g.base + 16 * k) ≡ here_in here g.base
  moved-here None = refl
  moved-here (Some p) =
      let sum : p.address + 16 * k + offset + within ≡ p.address + offset + within + 16 * k = omega arith in
      ap (λ x. difference x (g.base + 16 * k)) sum ∙ difference-moves (16 * k) (p.address + offset + within) g.base

  staying-here : (here : Option Placed) → here_in (here_moved false here) g.base ≡ here_in here g.base
  staying-here None = refl
  staying-here (Some p) = refl

  abbrev now : Bool → Frame
  now b = cond b (moved_frame k g) g

  module _ (here : Option Placed) where
    abbrev Moves : Bool → Bool → Bool → Bool → Type 0
    Moves relative frame target data_too = gives t relative n u (now frame) (cond target (address + 16 * k) address) (here_in (here_moved data_too here) (now frame).base)
        ≡ map_ok (more k (cond (relative && frame) (selector_at (type_of_number t)) None)) (gives t relative n u g address (here_in here g.base))

    gives-more : (relative frame target data_too : Bool) → cond relative ((t == 2) || same frame target) (same frame target && same frame data_too) ≡ true → Moves relative frame target data_too
    gives-more true true true d e = ap (in_frame t (g.selector + k)) (offsets-move (16 * k) (offset_bits t) n address u g.base) ∙ frame-more t k g.selector (offsets (offset_bits t) n address u g.base)
    gives-more true true false d e = base-alone t (g.selector + k) _ _ (or-second (t == 2) false e refl) ∙ frame-more t k g.selector (offsets (offset_bits t) n address u g.base)
    gives-more true false true d e = base-alone t g.selector _ _ (or-second (t == 2) false e refl) ∙ none-more k (in_frame t g.selector (offsets (offset_bits t) n address u g.base))
    gives-more true false false d e = none-more k (in_frame t g.selector (offsets (offset_bits t) n address u g.base))
    gives-more false true true true e =
        ap₂ (λ os l. from_location t os (in_bits (self_relative_bits t) l)) (offsets-move (16 * k) (self_relative_bits t) n address u g.base) (moved-here here)
        ∙ none-more k (gives t false n u g address (here_in here g.base))
    gives-more false false false false e = ap (λ l. gives t false n u g address l) (staying-here here) ∙ none-more k (gives t false n u g address (here_in here g.base))
    gives-more false true true false e = absurd cc
    gives-more false true false d e = absurd cc
    gives-more false false true d e = absurd cc
    gives-more false false false true e = absurd cc

abbrev added_for : ℕ → ℕ × PlainFixup → Option Placed → Option Placed → Option Placed → Result (List Addition) Cause
added_for offset f at q p = if_named (additions_in at offset f) (option_zip (option_map (λ x. x.frame) q) p)

module _ (k offset : ℕ) (f : ℕ × PlainFixup) (here there : Option Placed) (data_too : Bool) (h : there ≡ option_map (λ p. cond data_too (moved_place k p) p) here) where
  abbrev selector : Moving → Option ℕ
  selector a = cond (is_segment_relative f.1.locat && a.frame) (selector_at (type_of_number (location_type f.1.locat))) None

  abbrev Together : Moving → Moving → Type 0
  Together a b = cond (is_segment_relative f.1.locat) ((location_type f.1.locat == 2) || same a.frame b.address) (same a.frame b.address && same a.frame data_too) ≡ true

  named-moves : (a b : Moving) (q p : Option Placed) → Together a b
      → added_for offset f there (option_map (parted_place k a) q) (option_map (parted_place k b) p) ≡ map_ok (more k (selector a)) (added_for offset f here q p)
  named-moves a b None p e = refl
  named-moves a b (Some q) None e = refl
  named-moves a b (Some q) (Some p) e =
      ap (λ at. added_for offset f at (Some (parted_place k a q)) (Some (parted_place k b p))) h
      ∙ gives-more (location_type f.1.locat) k (width_bits f.0) f.1.reference.displacement offset (location_offset f.1.locat) q.frame p.address here
      (is_segment_relative f.1.locat) a.frame b.address data_too e

pub outcomes : OutcomesMove
outcomes k mv pl segment offset f h e =
    let r = f.1.reference in
    let source = framed segment r.target r.frame in
    let there = entry (moved k mv pl).segments segment in
    ap₂ (λ q p. added_for offset f there q p) (place_moves k mv pl h source) (place_moves k mv pl h r.target)
    ∙ named-moves k offset f (entry pl.segments segment) there (moves mv.segments segment) (segment_moves k mv pl h segment) (moving_of mv source) (moving_of mv r.target)
    (place_of pl source) (place_of pl r.target) e
