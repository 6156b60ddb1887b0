-- The modules of a link text, one after another, and their placements.
use Rattle.std.proofs.Common.{◌≡◌, inl, inr, ℕ, zero, suc, ◌+◌, ◌-◌, ◌<◌, ◌≤◌, true, false, Result, Ok, Err, List, [], ◌∷◌, ◌++◌, get_or, length, map, take, refl, sym, ap, subst, ◌∙◌, append_assoc, length-append, arith}
use Rattle.std.specs.Prelude.{◌==◌, IfOk, MatchOption, Option, Some, None, flat_map, slice_get, ⊤}
use Rattle.std.specs.List.{AllZip, range_with_len}
use Rattle.std.proofs.lemmas.List.{append-nil, get_or-map, length-map, take_all, take_more}
use Rattle.std.proofs.lemmas.Option.{slice_get_within, get_or_from_slice_get}
use Rattle.std.proofs.lemmas.Bool.{eq-eqb}
use Rattle.omf_frame.specs.Bytes.{is_one_of}
use Rattle.omf_check.specs.Module.{Module, recs_of}
use Rattle.omf_check.specs.Tables.{entry, segments}
use Rattle.omf_check.specs.declared.segment.SegInfo.{SegInfo}
use Rattle.omf_placement.specs.declared.frame.Placed.{Placed}
use Rattle.omf_placement.proofs.NamedLaws.{entry-suc}
use Rattle.omf_placement.specs.Placement.{Places}
use Rattle.omf_finding.specs.Finding.{IsHeld, IsTold}
use Rattle.omf_finding.specs.declared.findings.Found.{Found}
use Rattle.omf_finding.specs.declared.findings.Verdict.{Verdict}
use Rattle.omf_finding.specs.declared.findings.Verdict.TheVariants as verdict
use Rattle.omf_finding.specs.declared.program.Program.{Program}
use Rattle.omf_find.specs.Room.{IsLeftOf, IsRoom}
use Rattle.omf_find.specs.declared.room.Room.{Room}
use Rattle.omf_find.specs.declared.parts.Part.{Part}
use Rattle.omf_find.specs.declared.parts.Parts.{Parts}
use Rattle.omf_find.specs.Parts.{Adds, AreAddresses, AreKept, AreParts, IsAddress, IsHeldIf, IsPart, IsPlaced, IsPlacedIf, IsRoomFor}
use Rattle.omf_find.proofs.RoomLaws.{room_earlier}

-- ---- entries, one after another

pub one_more_entry : {A : Type 0} (xs : List A) (i : ℕ) (x : A) → entry xs (i + 1) ≡ Some x → take (i + 1) xs ≡ take i xs ++ x ∷ []
one_more_entry xs i x e =
    let a : suc i ≡ i + 1 = omega arith in
    let here : slice_get xs i ≡ Some x = sym (entry-suc xs i) ∙ ap (entry xs) a ∙ e in
    take_more xs i x (slice_get_within xs i x here) ∙ ap (λ y. take i xs ++ y ∷ []) (get_or_from_slice_get xs i x x here)

pub all_entries : {A : Type 0} (xs : List A) (i : ℕ) → length xs ≤ i → take i xs ≡ xs
all_entries xs i h = take_all i xs h

-- ---- two lists with the same values

module _ {A B C : Type 0} (f : A → C) (h : B → C) (xs : List A) (ys : List B) (same : map f xs ≡ map h ys) where
  pub as_many : length xs ≡ length ys
  as_many = sym (length-map xs f) ∙ ap length same ∙ length-map ys h

  pub same_at : (n : ℕ) (x : A) (y : B) → x ≡ get_or xs n x → y ≡ get_or ys n y → n < length ys → f x ≡ h y
  same_at n x y a b low =
      ap f a ∙ sym (get_or-map f xs n x (f x) (omega (arith, low, as_many))) ∙ ap (λ zs. get_or zs n (f x)) same ∙ get_or-map h ys n y (f x) low ∙ ap h (sym b)

-- ---- segments at other places

pub one_more_kept : (absent : List ℕ) (k : ℕ) (old new : List Placed) (n : ℕ) (p x : Placed) → p ≡ get_or old n p → n < length old → AreKept absent k (take n old) new
    → (is_one_of absent (k + n) ≡ false → x ≡ p) → AreKept absent k (take (n + 1) old) (new ++ x ∷ [])
one_more_kept absent k [] new n p x e l h r = absurd (omega (arith, l))
one_more_kept absent k (o ∷ olds) [] zero p x e l h r =
    let same : k + 0 ≡ k = omega arith in
    ((λ a. subst (λ (i : ℕ). is_one_of absent i ≡ false → x ≡ p) same r a ∙ e), tt)
one_more_kept absent k (o ∷ olds) (y ∷ new) zero p x e l h r = absurd h
one_more_kept absent k (o ∷ olds) [] (suc n) p x e l h r = absurd h
one_more_kept absent k (o ∷ olds) (y ∷ new) (suc n) p x e l h r =
    let same : suc (n + 1) ≡ suc n + 1 = omega arith in
    let next : k + suc n ≡ k + 1 + n = omega arith in
    subst (λ (m : ℕ). AreKept absent k (take m (o ∷ olds)) (y ∷ (new ++ x ∷ []))) same
    (h.0, one_more_kept absent (k + 1) olds new n p x e (omega (arith, l)) h.1 (subst (λ (i : ℕ). is_one_of absent i ≡ false → x ≡ p) next r))

pub all_kept : (absent : List ℕ) (k : ℕ) (old new : List Placed) (n : ℕ) → length old ≤ n → AreKept absent k (take n old) new → AreKept absent k old new
all_kept absent k old new n l h = subst (λ (t : List Placed). AreKept absent k t new) (take_all n old l) h

pub all_same_kept : (absent : List ℕ) (k : ℕ) (xs : List Placed) → AreKept absent k xs xs
all_same_kept absent k [] = tt
all_same_kept absent k (x ∷ xs) = ((λ a. refl), all_same_kept absent (k + 1) xs)

-- the placement of the search, and one with absent segments
pub placed_there : (p : Program) (m : Module) (f : Found) (pl : Places) → IsHeld p m f → pl ≡ f.placement → IsPlaced p m f pl
placed_there p m f pl h e = subst (IsPlaced p m f) (sym e) (record { found = h.found; segments = all_same_kept f.absent 1 f.placement.segments; groups = refl; externals = refl })

pub some_absent : (xs : List ℕ) (n : ℕ) → n ≡ length xs → (n == 0) ≡ false → xs ≡ [] → ⊥
some_absent xs n long some e = let t = eq-eqb n 0 (long ∙ ap length e) in let w : true ≡ false = sym t ∙ some in cc

pub placed_if : (p : Program) (m : Module) (f : Found) (o : Option Places) → (f.absent ≡ [] → ⊥) → MatchOption o ⊤ (IsPlaced p m f) → IsPlacedIf p m f o
placed_if p m f None some h = some
placed_if p m f (Some pl) some h = h

pub placed_or_none : {E : Type 0} (p : Program) (m : Module) (f : Found) (r : Result (Option Places) E) → (f.absent ≡ [] → ⊥) → IfOk r (λ o. MatchOption o ⊤ (IsPlaced p m f)) → IfOk r (IsPlacedIf p m f)
placed_or_none p m f (Ok o) some h = placed_if p m f o some h
placed_or_none p m f (Err e) some h = h

-- ---- addresses of segments

pub one_more_address : (m : Module) (f : Found) (r : Room) (k : ℕ) (xs : List ℕ) (a : ℕ) → AreAddresses m f r k xs → IsAddress m f r (k + length xs) a → AreAddresses m f r k (xs ++ a ∷ [])
one_more_address m f r k [] a h one =
    let here : k + 0 ≡ k = omega arith in
    (subst (λ (n : ℕ). IsAddress m f r n a) here one, tt)
one_more_address m f r k (x ∷ xs) a h one =
    let next : k + suc (length xs) ≡ k + 1 + length xs = omega arith in
    (h.0, one_more_address m f r (k + 1) xs a h.1 (subst (λ (n : ℕ). IsAddress m f r n a) next one))

pub one_longer : (xs : List ℕ) (a n : ℕ) → length xs ≡ n → length (xs ++ a ∷ []) ≡ n + 1
one_longer xs a n e = omega (arith, length-append xs (a ∷ []), e)

pub earlier_address : (m : Module) (f : Found) (old now : Room) (k a : ℕ) → IsLeftOf old now → IsAddress m f now k a → IsAddress m f old k a
earlier_address m f old now k a left h = elim h [
  | inl e ↦ inl e
  | inr r ↦ inr (record { place = r.place; has_place = r.has_place; info = r.info; has_info = r.has_info; room = room_earlier old now r.place.frame.base r.info.length a left r.room })
]

pub room_for : (m : Module) (f : Found) (r : Room) (segment : ℕ) (place : Placed) (info : SegInfo) (o : Option ℕ) → entry f.placement.segments segment ≡ Some place → entry (segments (recs_of m.bytes)) segment ≡ Some info
    → MatchOption o ⊤ (IsRoom r place.frame.base info.length) → MatchOption o ⊤ (IsRoomFor m f segment r)
room_for m f r segment place info None e g h = tt
room_for m f r segment place info (Some a) e g h = record { place = place; has_place = e; info = info; has_info = g; room = h }

pub from_room : (m : Module) (f : Found) (r : Room) (segment : ℕ) (o : Option ℕ) → MatchOption o ⊤ (IsRoomFor m f segment r) → MatchOption o ⊤ (IsAddress m f r segment)
from_room m f r segment None h = tt
from_room m f r segment (Some a) h = inr h

-- ---- lines of entries

module _ (f : ℕ → List ℕ) where
  pub more_lines : (old now new : List ℕ) (k n : ℕ) → k < n → new ≡ now ++ f (k + 1) → now ++ flat_map f (range_with_len (k + 1) (n - k)) ≡ old → new ++ flat_map f (range_with_len (k + 1 + 1) (n - (k + 1))) ≡ old
  more_lines old now new k n h e whole =
      let next : n - k ≡ suc (n - (k + 1)) = omega arith in
      ap (λ t. t ++ flat_map f (range_with_len (k + 1 + 1) (n - (k + 1)))) e
      ∙ append_assoc now (f (k + 1)) (flat_map f (range_with_len (k + 1 + 1) (n - (k + 1))))
      ∙ ap (λ j. now ++ flat_map f (range_with_len (k + 1) j)) (sym next) ∙ whole

  pub all_lines : (old now : List ℕ) (k n : ℕ) → n ≤ k → now ++ flat_map f (range_with_len (k + 1) (n - k)) ≡ old → now ≡ old
  all_lines old now k n h whole =
      let none : n - k ≡ 0 = omega arith in
      sym (append-nil now) ∙ ap (λ j. now ++ flat_map f (range_with_len (k + 1) j)) (sym none) ∙ whole

-- ---- modules, one after another

pub held_if : (p : Program) (most : ℕ) (m : Module) (v : Verdict) → IsTold p most m v → IsHeldIf p m v
held_if p most m (verdict.Found f) h = h
held_if p most m (verdict.Possible cs) h = tt
held_if p most m verdict.NotThere h = tt

pub all_held : (p : Program) (most : ℕ) (ms : List Module) (vs : List Verdict) → AllZip (IsTold p most) ms vs → AllZip (IsHeldIf p) ms vs
all_held p most [] [] a = tt
all_held p most [] (v ∷ vs) a = absurd a
all_held p most (m ∷ ms) [] a = absurd a
all_held p most (m ∷ ms) (v ∷ vs) a = (held_if p most m v a.0, all_held p most ms vs a.1)

pub held_at : (p : Program) (ms : List Module) (vs : List Verdict) (n : ℕ) (m : Module) → AllZip (IsHeldIf p) ms vs → m ≡ get_or ms n m → n < length ms → MatchOption (slice_get vs n) ⊤ (IsHeldIf p m)
held_at p [] vs n m a e low = absurd (omega (arith, low))
held_at p (x ∷ ms) [] n m a e low = absurd a
held_at p (x ∷ ms) (v ∷ vs) zero m a e low = subst (λ (y : Module). IsHeldIf p y v) (sym e) a.0
held_at p (x ∷ ms) (v ∷ vs) (suc n) m a e low = held_at p ms vs n m a.1 e (omega (arith, low))

pub adds_more : (old now new : Parts) (ps qs : List Part) (ns ms : List ℕ) → Adds old now ps ns → Adds now new qs ms → Adds old new (ps ++ qs) (ns ++ ms)
adds_more old now new ps qs ns ms a b = (
  b.0 ∙ ap (λ t. t ++ qs) a.0 ∙ append_assoc old.placed.items ps qs,
  b.1 ∙ ap (λ t. t ++ ms) a.1 ∙ append_assoc old.left_out.items ns ms,
)

pub adds_nothing : (old : Parts) → Adds old old [] []
adds_nothing old = (sym (append-nil old.placed.items), sym (append-nil old.left_out.items))

-- a module that is not found
pub nothing_of : (p : Program) (n : ℕ) (m : Module) (o v : Option Verdict) (old : Parts) → o ≡ v → IsPart p n m v [] [] → (one : List Part) × (left : List ℕ) × IsPart p n m o one left × Adds old old one left
nothing_of p n m o v old e h = ([], [], subst (λ (w : Option Verdict). IsPart p n m w [] []) (sym e) h, adds_nothing old)

-- with what is added of the modules that are left, what is added is that of all
abbrev pub IsFront : Program → List Module → List Verdict → ℕ → List Module → Parts → Parts → Type 0
IsFront p ms vs n rest old now =
    (placed : List Part) × (left : List ℕ) × Adds old now placed left
    × ((more : List Part) (more_left : List ℕ) → AreParts p n rest vs more more_left → AreParts p 0 ms vs (placed ++ more) (left ++ more_left))

pub none_added : (p : Program) (ms : List Module) (vs : List Verdict) (old : Parts) → IsFront p ms vs 0 ms old old
none_added p ms vs old = ([], [], adds_nothing old, λ more more_left a. a)

pub one_more_added : (p : Program) (ms : List Module) (vs : List Verdict) (n : ℕ) (m : Module) (others rest : List Module) (old now new : Parts) → IsFront p ms vs n rest old now → rest ≡ m ∷ others
    → (one : List Part) × (left : List ℕ) × IsPart p n m (slice_get vs n) one left × Adds now new one left → IsFront p ms vs (n + 1) others old new
one_more_added p ms vs n m others rest old now new f r g = (
  f.0 ++ g.0,
  f.1 ++ g.1,
  adds_more old now new f.0 g.0 f.1 g.1 f.2 g.3,
  λ more more_left a.
      let whole = subst (λ (xs : List Module). (more : List Part) (more_left : List ℕ) → AreParts p n xs vs more more_left → AreParts p 0 ms vs (f.0 ++ more) (f.1 ++ more_left)) r f.3
      (g.0 ++ more) (g.1 ++ more_left) (g.0, more, g.1, more_left, g.2, a, refl, refl) in
      subst (λ (ts : List Part). AreParts p 0 ms vs ts ((f.1 ++ g.1) ++ more_left)) (sym (append_assoc f.0 g.0 more))
      (subst (λ (ts : List ℕ). AreParts p 0 ms vs (f.0 ++ (g.0 ++ more)) ts) (sym (append_assoc f.1 g.1 more_left)) whole),
)

pub all_added : (p : Program) (ms : List Module) (vs : List Verdict) (n : ℕ) (rest : List Module) (old now : Parts) → IsFront p ms vs n rest old now → rest ≡ []
    → (placed : List Part) × (left : List ℕ) × AreParts p 0 ms vs placed left × Adds old now placed left
all_added p ms vs n rest old now f r =
    let none : AreParts p n rest vs [] [] = rw r (refl, refl) in
    let whole = f.3 [] [] none in (
      f.0,
      f.1,
      subst (λ (ts : List Part). AreParts p 0 ms vs ts f.1) (append-nil f.0) (subst (λ (ts : List ℕ). AreParts p 0 ms vs (f.0 ++ []) ts) (append-nil f.1) whole),
      f.2,
    )

pub only_parts : (p : Program) (ms : List Module) (vs : List Verdict) (old new : Parts) → old.placed.items ≡ [] → old.left_out.items ≡ []
    → (placed : List Part) × (left : List ℕ) × AreParts p 0 ms vs placed left × Adds old new placed left → AreParts p 0 ms vs new.placed.items new.left_out.items
only_parts p ms vs old new a b h =
    let placed : new.placed.items ≡ h.0 = h.3.0 ∙ ap (λ t. t ++ h.0) a in
    let left : new.left_out.items ≡ h.1 = h.3.1 ∙ ap (λ t. t ++ h.1) b in
    subst (λ (ts : List Part). AreParts p 0 ms vs ts new.left_out.items) (sym placed) (subst (λ (ts : List ℕ). AreParts p 0 ms vs h.0 ts) (sym left) h.2)
