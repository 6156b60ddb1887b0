-- The start and the stack of a program at placements that are moved.
use Rattle.std.proofs.Common.{◌≡◌, ℕ, ◌+◌, ◌-◌, ◌*◌, List, [], ◌∷◌, ◌++◌, Bool, true, false, cond, map, max, refl, sym, ◌∙◌, ap, ap₂, arith}
use Rattle.std.specs.Prelude.{All, Option, Some, None, option_map, Ok, Err, filter, filter_map, fold, zip, nat_le, nat_lt, not, ◌&&◌, ◌%◌}
use Rattle.std.specs.List.{cons_option}
use Rattle.std.specs.Option.{option_or}
use Rattle.std.proofs.lemmas.List.{map-append}
use Rattle.std.proofs.lemmas.List.Elements.{All-head, All-tail}
use Rattle.omf_frame.specs.Bytes.{last}
use Rattle.omf_records.specs.Values.{Contents, Names, Rec, Segment, SegmentItem}
use Rattle.omf_check.specs.Module.{recs_of}
use Rattle.omf_check.specs.Tables.{defined_segments, segments}
use Rattle.omf_check.specs.declared.segment.SegInfo.{SegInfo}
use Rattle.omf_placement.specs.declared.frame.Placed.{Placed}
use Rattle.omf_reloc.specs.Image.{start}
use Rattle.omf_output.specs.declared.exe.fault.ExeFault.TheVariants as fault
use Rattle.omf_output.specs.declared.exe.room.Stack.{Stack}
use Rattle.omf_output.specs.Exe.Based.{Holds, IsBased, is_movable, segments_moving}
use Rattle.omf_output.specs.Exe.Linked.{code, in_16_bits, in_registers, is_main, main_start, ok_or, one_start, stack_at, starts}
use Rattle.omf_output.specs.Exe.Members.{Member, Portion, all_moving, has_byte, is_stack, joined, lower, member_at, moving, of_parts, portion, portion_of, portions, portions_in, segdefs, segdefs_in, stack}
use Rattle.omf_output.specs.Exe.Memory.{ModuleMoves, moved_start}
use Rattle.omf_output.specs.Exe.Moved.{moved, moved_frame, moved_place, where_moving}
use Rattle.omf_output.proofs.MainLaws.{main-starts}
use Rattle.omf_output.proofs.StartMoves.{start-moves}

abbrev pub is_free : ℕ × SegmentItem → Bool
is_free d = is_movable d.1.absolute

-- The flags of the segments are those of the SEGDEFs.
flags-in : (kind : ℕ) (c : Contents) → map (λ (s : SegInfo). is_movable s.absolute) (defined_segments kind c) ≡ map is_free (segdefs_in kind c)
flags-in kind (Segment s) = refl
flags-in kind (Names items) = refl
flags-in kind _ = refl

pub flags-are : (m : List Rec) → segments_moving m ≡ map is_free (segdefs m)
flags-are [] = refl
flags-are (r ∷ rs) =
    map-append (λ (s : SegInfo). is_movable s.absolute) (defined_segments r.kind r.contents) (segments rs)
    ∙ ap₂ (λ xs ys. xs ++ ys) (flags-in r.kind r.contents) (flags-are rs)
    ∙ sym (map-append is_free (segdefs_in r.kind r.contents) (segdefs rs))

module _ (k : ℕ) where
  abbrev at_k : List Member → List Member
  at_k ms = map (member_at k) ms

  -- ---- the start

  main-moves : (m : Member) → Holds m → ModuleMoves (moving m) → main_start (member_at k m) ≡ option_map (moved_start k) (main_start m)
  main-moves m holds h = by (is_main (last (recs_of m.bytes))) refl
    where
      by : (b : Bool) → is_main (last (recs_of m.bytes)) ≡ b
          → cond b (start (moved k m.movers m.places) (recs_of m.bytes)) None ≡ option_map (moved_start k) (cond b (start m.places (recs_of m.bytes)) None)
      by true e = start-moves k (moving m) h (main-starts (moving m) holds e h)
      by false e = refl

  abbrev moved_entry : ℕ × (ℕ × ℕ) → ℕ × (ℕ × ℕ)
  moved_entry s = (s.0, moved_start k s.1)

  starts-move : (ms : List Member) → All Holds ms → All ModuleMoves (all_moving ms) → starts (at_k ms) ≡ map moved_entry (starts ms)
  starts-move [] holds h = refl
  starts-move (m ∷ ms) holds h =
      ap₂ (λ o xs. cons_option (option_map (λ s. (m.number, s)) o) xs) (main-moves m (All-head Holds m ms holds) (All-head ModuleMoves (moving m) (all_moving ms) h))
      (starts-move ms (All-tail Holds m ms holds) (All-tail ModuleMoves (moving m) (all_moving ms) h))
      ∙ by (main_start m)
    where
      by : (o : Option (ℕ × ℕ)) → cons_option (option_map (λ s. (m.number, s)) (option_map (moved_start k) o)) (map moved_entry (starts ms))
          ≡ map moved_entry (cons_option (option_map (λ s. (m.number, s)) o) (starts ms))
      by None = refl
      by (Some s) = refl

  one-moves : (xs : List (ℕ × (ℕ × ℕ))) (a : ℕ × ℕ) → one_start xs ≡ Ok a → one_start (map moved_entry xs) ≡ Ok (moved_start k a)
  one-moves [] a e = absurd cc
  one-moves (s ∷ []) a e = by (nat_lt s.1.1 65536) e
    where
      by : (b : Bool) → cond b (Ok s.1) (Err (fault.FarStart s.0)) ≡ Ok a → cond b (Ok (moved_start k s.1)) (Err (fault.FarStart s.0)) ≡ Ok (moved_start k a)
      by true f = let same : s.1 ≡ a = cc in ap (λ x. Ok (moved_start k x)) same
      by false f = absurd cc
  one-moves (s ∷ t ∷ more) a e = absurd cc

  pub code-at : (ms : List Member) (a : ℕ × ℕ) → All Holds ms → All ModuleMoves (all_moving ms) → one_start (starts ms) ≡ Ok a → code (at_k ms) ≡ moved_start k a
  code-at ms a holds h e = ap (λ r. ok_or (0, 0) r) (ap one_start (starts-move ms holds h) ∙ one-moves (starts ms) a e)

  pub code-moves : (ms : List Member) (a : ℕ × ℕ) → All Holds ms → All ModuleMoves (all_moving ms) → one_start (starts ms) ≡ Ok a → in_16_bits (code (at_k ms)) ≡ ((a.0 + k) % 65536, a.1)
  code-moves ms a holds h e = ap in_16_bits (code-at ms a holds h e)

  -- ---- the segments

  abbrev moved_portion : Portion → Portion
  moved_portion p = record { place = moved_place k p.place; end = p.end + 16 * k; is_stack = p.is_stack }

  portion-moves : (o : Option (ℕ × ℕ)) (p : Placed) (d : ℕ × SegmentItem) → portion_of o (cond (is_movable o) (moved_place k p) p, d) ≡ option_map moved_portion (portion_of o (p, d))
  portion-moves (Some frame) p d = refl
  portion-moves None p d = ap (λ n. Some (record { place = moved_place k p; end = n; is_stack = is_stack d.1.attribute })) (omega arith)

  one-portion : (o : Option Portion) (xs : List Portion) → cons_option (option_map moved_portion o) (map moved_portion xs) ≡ map moved_portion (cons_option o xs)
  one-portion None xs = refl
  one-portion (Some p) xs = refl

  portions-move-in : (ds : List (ℕ × SegmentItem)) (ps : List Placed) → filter_map portion (zip (where_moving (moved_place k) (map is_free ds) ps) ds) ≡ map moved_portion (filter_map portion (zip ps ds))
  portions-move-in [] [] = refl
  portions-move-in [] (p ∷ ps) = refl
  portions-move-in (d ∷ ds) [] = refl
  portions-move-in (d ∷ ds) (p ∷ ps) =
      ap₂ (λ o xs. cons_option o xs) (portion-moves d.1.absolute p d) (portions-move-in ds ps) ∙ one-portion (portion (p, d)) (filter_map portion (zip ps ds))

  portions-move : (ms : List Member) → All IsBased ms → portions (at_k ms) ≡ map moved_portion (portions ms)
  portions-move [] h = refl
  portions-move (m ∷ ms) h =
      let b = All-head IsBased m ms h in
      let flags = b.segments ∙ flags-are (recs_of m.bytes) in
      let ds = segdefs (recs_of m.bytes) in
      ap₂ (λ xs ys. xs ++ ys)
      (ap (λ bs. filter_map portion (zip (where_moving (moved_place k) bs m.places.segments) ds)) flags ∙ portions-move-in ds m.places.segments)
      (portions-move ms (All-tail IsBased m ms h))
      ∙ sym (map-append moved_portion (portions_in m) (portions ms))

  -- ---- the stack

  abbrev moved_stack : Stack → Stack
  moved_stack s = record { frame = moved_frame k s.frame; first = s.first + 16 * k; end = s.end + 16 * k }

  max-shift : (n : ℕ) (ps : List Portion) → fold max (n + 16 * k) (map (λ p. p.end) (map moved_portion ps)) ≡ fold max n (map (λ p. p.end) ps) + 16 * k
  max-shift n [] = refl
  max-shift n (p ∷ ps) =
      let same : max (n + 16 * k) (p.end + 16 * k) ≡ max n p.end + 16 * k = omega arith in
      ap (λ a. fold max a (map (λ q. q.end) (map moved_portion ps))) same ∙ max-shift (max n p.end) ps

  filter-moves : (c : Portion → Bool) → ((p : Portion) → c (moved_portion p) ≡ c p) → (ps : List Portion) → filter c (map moved_portion ps) ≡ map moved_portion (filter c ps)
  filter-moves c same [] = refl
  filter-moves c same (p ∷ ps) =
      ap₂ (λ b xs. cond b (moved_portion p ∷ xs) xs) (same p) (filter-moves c same ps) ∙ by (c p)
    where
      by : (b : Bool) → cond b (moved_portion p ∷ map moved_portion (filter c ps)) (map moved_portion (filter c ps)) ≡ map moved_portion (cond b (p ∷ filter c ps) (filter c ps))
      by true = refl
      by false = refl

  lt-shift : (a b d : ℕ) → nat_lt (a + d) (b + d) ≡ nat_lt a b
  lt-shift a b d = grind arith

  lower-moves : (l : Portion) (ps : List Portion) → fold lower (moved_portion l) (map moved_portion ps) ≡ moved_portion (fold lower l ps)
  lower-moves l [] = refl
  lower-moves l (p ∷ ps) =
      ap (λ x. fold lower x (map moved_portion ps)) (ap (λ b. cond b (moved_portion p) (moved_portion l)) (lt-shift p.place.address l.place.address (16 * k)) ∙ by (nat_lt p.place.address l.place.address))
      ∙ lower-moves (lower l p) ps
    where
      by : (b : Bool) → cond b (moved_portion p) (moved_portion l) ≡ moved_portion (cond b p l)
      by true = refl
      by false = refl

  joined-moves : (ps : List Portion) → joined (map moved_portion ps) ≡ option_map moved_stack (joined ps)
  joined-moves [] = refl
  joined-moves (p ∷ ps) = ap₂ (λ (l : Portion) n. Some (of_parts l n)) (lower-moves p ps) (max-shift p.end ps)

  byte-moves : (p : Portion) → has_byte (moved_portion p) ≡ has_byte p
  byte-moves p = lt-shift p.place.address p.end (16 * k)

  either-moves : (a b : Option Stack) → option_or (option_map moved_stack a) (option_map moved_stack b) ≡ option_map moved_stack (option_or a b)
  either-moves None b = refl
  either-moves (Some s) b = refl

  parts-move : (c : Portion → Bool) → ((p : Portion) → c (moved_portion p) ≡ c p) → (ps : List Portion) → joined (filter c (map moved_portion ps)) ≡ option_map moved_stack (joined (filter c ps))
  parts-move c same ps = ap joined (filter-moves c same ps) ∙ joined-moves (filter c ps)

  stack-of-moved : (ps : List Portion) → stack (map moved_portion ps) ≡ option_map moved_stack (stack ps)
  stack-of-moved ps =
      ap₂ (λ (a : Option Stack) b. option_or a b)
      (parts-move (λ p. p.is_stack && has_byte p) (λ p. ap (λ b. p.is_stack && b) (byte-moves p)) ps)
      (parts-move (λ p. p.is_stack && not (has_byte p)) (λ p. ap (λ b. p.is_stack && not b) (byte-moves p)) ps)
      ∙ either-moves (joined (filter (λ p. p.is_stack && has_byte p) ps)) (joined (filter (λ p. p.is_stack && not (has_byte p)) ps))

  stacks-move : (ms : List Member) → All IsBased ms → stack (portions (at_k ms)) ≡ option_map moved_stack (stack (portions ms))
  stacks-move ms h = ap stack (portions-move ms h) ∙ stack-of-moved (portions ms)

  le-shift : (a b d : ℕ) → nat_le (a + d) (b + d) ≡ nat_le a b
  le-shift a b d = grind arith

  registers-move : (s : Stack) (a : ℕ × ℕ) → in_registers (Some s) ≡ Ok a → in_registers (Some (moved_stack s)) ≡ Ok (moved_start k a)
  registers-move s a e =
      let low = le-shift s.frame.base s.end (16 * k) in
      let same : s.frame.base + 16 * k + 65536 ≡ s.frame.base + 65536 + 16 * k = omega arith in
      let high = ap (λ n. nat_le (s.end + 16 * k) n) same ∙ le-shift s.end (s.frame.base + 65536) (16 * k) in
      let distance : s.end + 16 * k - (s.frame.base + 16 * k) ≡ s.end - s.frame.base = omega arith in
      ap₂ (λ b d. cond b (Ok (s.frame.selector + k, d % 65536)) (Err fault.FarStack)) (ap₂ (λ b c. b && c) low high) distance
      ∙ by (nat_le s.frame.base s.end && nat_le s.end (s.frame.base + 65536)) e
    where
      by : (b : Bool) → cond b (Ok (s.frame.selector, (s.end - s.frame.base) % 65536)) (Err fault.FarStack) ≡ Ok a
          → cond b (Ok (s.frame.selector + k, (s.end - s.frame.base) % 65536)) (Err fault.FarStack) ≡ Ok (moved_start k a)
      by true f = let same : (s.frame.selector, (s.end - s.frame.base) % 65536) ≡ a = cc in ap (λ x. Ok (moved_start k x)) same
      by false f = absurd cc

  pub stack-moves : (ms : List Member) (a : ℕ × ℕ) → All IsBased ms → in_registers (stack (portions ms)) ≡ Ok a → stack_at k ms (stack (portions ms)) ≡ ((a.0 + k) % 65536, a.1)
  stack-moves ms a h e = by (stack (portions ms)) e (stacks-move ms h)
    where
      by : (o : Option Stack) → in_registers o ≡ Ok a → stack (portions (at_k ms)) ≡ option_map moved_stack o → stack_at k ms o ≡ ((a.0 + k) % 65536, a.1)
      by None f g =
          let same : (0, 0) ≡ a = cc in
          let here : k ≡ 0 + k = omega arith in
          let zeros : (k % 65536, 0) ≡ ((0 + k) % 65536, 0) = ap (λ n. (n % 65536, 0)) here in
          zeros ∙ ap (λ (x : ℕ × ℕ). ((x.0 + k) % 65536, x.1)) same
      by (Some s) f g = ap (λ o. in_16_bits (ok_or (0, 0) (in_registers o))) g ∙ ap (λ r. in_16_bits (ok_or (0, 0) r)) (registers-move s a f)
