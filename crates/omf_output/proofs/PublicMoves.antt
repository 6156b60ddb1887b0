-- The publics of modules at moved placements are their publics, each moved as its base.
use Rattle.std.proofs.Common.{◌≡◌, ℕ, zero, suc, ◌+◌, ◌*◌, List, [], ◌∷◌, ◌++◌, length, Bool, true, false, cond, refl, sym, ap, ap₂, ◌∙◌, append-nil, append_assoc, arith}
use Rattle.std.specs.Prelude.{map, flat_map, Option, Some, None, option_map, option_and_then, option_to_list, is_some, ◌==◌, if◌then◌else◌}
use Rattle.std.proofs.lemmas.Bool.{false≢true, ne_eqb}
use Rattle.std.proofs.lemmas.List.{map-append}
use Rattle.omf_frame.specs.Types.{is_local}
use Rattle.omf_records.specs.Values.{At, Rec, Contents, Header, Comment, Names, Segment, Group, Externs, Publics, Communals, Plain, Iterated, Fixups, ModEnd, Carried, PublicItem, PublicItems}
use Rattle.omf_image.specs.Limits.{profile_limits}
use Rattle.omf_check.specs.Sound.{ModuleHolds}
use Rattle.omf_check.specs.Tables.{entry}
use Rattle.omf_placement.specs.declared.frame.Frame.{Frame}
use Rattle.omf_placement.specs.declared.frame.Placed.{Placed}
use Rattle.omf_placement.specs.Derivation.{IsPlaceOf}
use Rattle.omf_placement.specs.Derive.{PlacedPublic, base_of, in_frame, in_group, paragraph, placed_publics, public_at, publics, publics_at, record_publics, segment_base}
use Rattle.omf_placement.specs.Placement.{Places}
use Rattle.omf_placement.proofs.BaseLaws.{bases-found}
use Rattle.omf_output.specs.declared.exe.movers.Moving.{Moving}
use Rattle.omf_output.specs.Exe.Derived.{MovingPublic, base_moving, moving_in_module, moving_in_record, moving_publics, public_moving}
use Rattle.omf_output.specs.Exe.Moved.{Movers, both, moved, moved_frame, moved_place, moves, parted_place}
use Rattle.omf_output.proofs.PlaceMoves.{entry_moves, segment-both}

-- ---- the base of a PUBDEF

abbrev parts : Bool → Bool → Moving
parts address frame = record { address = address; frame = frame }

not-zero : (n : ℕ) → (suc n == 0) ≡ false
not-zero n = ne_eqb (suc n) 0 (λ e. omega (arith, e))

frame-parted : (k : ℕ) (b c : Bool) (p : Placed) (o : Option Frame)
    → option_map (in_frame (parted_place k (both b) p)) (option_map (λ f. cond c (moved_frame k f) f) o) ≡ option_map (parted_place k (parts b c)) (option_map (in_frame p) o)
frame-parted k b c p None = refl
frame-parted k b c p (Some f) = refl

module _ (k : ℕ) (mv : Movers) (pl : Places) (es : length mv.segments ≡ length pl.segments) (eg : length mv.groups ≡ length pl.groups) where
  start-moves : (s : ℕ) (number : Option ℕ) → segment_base (moved k mv pl) s number ≡ option_map (parted_place k (both (moves mv.segments s))) (segment_base pl s number)
  start-moves zero None = refl
  start-moves zero (Some n) = refl
  start-moves (suc s) number =
      ap (λ z. cond z (option_map paragraph number) (entry (moved k mv pl).segments (suc s))) (not-zero s)
      ∙ entry_moves (moved_place k) mv.segments pl.segments (suc s) es ∙ segment-both k (moves mv.segments (suc s)) (entry pl.segments (suc s))
      ∙ ap (λ z. option_map (parted_place k (both (moves mv.segments (suc s)))) (cond z (option_map paragraph number) (entry pl.segments (suc s)))) (sym (not-zero s))

  group-moves : (g : ℕ) (b : Bool) (o : Option Placed)
      → option_and_then (in_group (moved k mv pl) g) (option_map (parted_place k (both b)) o)
      ≡ option_map (parted_place k (parts b (if g == 0 then b else moves mv.groups g))) (option_and_then (in_group pl g) o)
  group-moves g b None = refl
  group-moves zero b (Some p) = refl
  group-moves (suc g) b (Some p) =
      let q = parted_place k (both b) p in
      ap (λ z. cond z (Some q) (option_map (in_frame q) (entry (moved k mv pl).groups (suc g)))) (not-zero g)
      ∙ ap (option_map (in_frame q)) (entry_moves (moved_frame k) mv.groups pl.groups (suc g) eg)
      ∙ frame-parted k b (moves mv.groups (suc g)) p (entry pl.groups (suc g))
      ∙ ap (λ z. option_map (parted_place k (parts b (cond z b (moves mv.groups (suc g))))) (cond z (Some p) (option_map (in_frame p) (entry pl.groups (suc g))))) (sym (not-zero g))

  base-moves : (g s : ℕ) (number : Option ℕ) → base_of (moved k mv pl) g s number ≡ option_map (parted_place k (base_moving mv g s)) (base_of pl g s number)
  base-moves g s number = ap (option_and_then (in_group (moved k mv pl) g)) (start-moves s number) ∙ group-moves g (moves mv.segments s) (segment_base pl s number)

-- ---- publics

-- A public: its name, its place, and how it moves.
pub record Traced : Type 0 where
  pub name : List ℕ
  pub place : Placed
  pub moving : Moving

abbrev pub raised : ℕ → Traced → Placed
raised k t = parted_place k t.moving t.place

abbrev pub placed_as : Traced → PlacedPublic
placed_as t = record { name = t.name; place = t.place }

abbrev pub raised_as : ℕ → Traced → PlacedPublic
raised_as k t = record { name = t.name; place = raised k t }

abbrev pub moving_as : Traced → MovingPublic
moving_as t = record { name = t.name; moving = t.moving }

-- Publics with their places, the same at moved placements, and how they move, one for one.
pub record AreTraced (k : ℕ) (ps us : List PlacedPublic) (bs : List MovingPublic) : Type 0 where
  pub list : List Traced
  pub placed : ps ≡ map placed_as list
  pub raised : us ≡ map (raised_as k) list
  pub moving : bs ≡ map moving_as list

pub none-traced : (k : ℕ) → AreTraced k [] [] []
none-traced k = record { list = []; placed = refl; raised = refl; moving = refl }

pub both-traced : (k : ℕ) (ps us ps2 us2 : List PlacedPublic) (bs bs2 : List MovingPublic) → AreTraced k ps us bs → AreTraced k ps2 us2 bs2 → AreTraced k (ps ++ ps2) (us ++ us2) (bs ++ bs2)
both-traced k ps us ps2 us2 bs bs2 t u = record {
  list = t.list ++ u.list;
  placed = ap₂ (λ x y. x ++ y) t.placed u.placed ∙ sym (map-append placed_as t.list u.list);
  raised = ap₂ (λ x y. x ++ y) t.raised u.raised ∙ sym (map-append (raised_as k) t.list u.list);
  moving = ap₂ (λ x y. x ++ y) t.moving u.moving ∙ sym (map-append moving_as t.list u.list);
}

if-traced : (k : ℕ) (ps us : List PlacedPublic) (bs : List MovingPublic) (b : Bool) → AreTraced k ps us bs → AreTraced k (cond b ps []) (cond b us []) (cond b bs [])
if-traced k ps us bs true t = t
if-traced k ps us bs false t = none-traced k

unless-traced : (k : ℕ) (ps us : List PlacedPublic) (bs : List MovingPublic) (b : Bool) → AreTraced k ps us bs → AreTraced k (cond b [] ps) (cond b [] us) (cond b [] bs)
unless-traced k ps us bs true t = none-traced k
unless-traced k ps us bs false t = t

address-parted : (k a n : ℕ) (b : Bool) → cond b (a + 16 * k) a + n ≡ cond b (a + n + 16 * k) (a + n)
address-parted k a n true = omega arith
address-parted k a n false = refl

abbrev traced : Placed → Moving → At PublicItem → Traced
traced b x q = record { name = q.item.name; place = record { address = b.address + q.item.offset; frame = b.frame }; moving = x }

module _ (k : ℕ) (b : Placed) (x : Moving) where
  items-placed : (qs : List (At PublicItem)) → publics_at b qs ≡ map placed_as (map (traced b x) qs)
  items-placed [] = refl
  items-placed (q ∷ qs) = ap (λ xs. public_at q.item.name (b.address + q.item.offset) b.frame ∷ xs) (items-placed qs)

  items-raised : (qs : List (At PublicItem)) → publics_at (parted_place k x b) qs ≡ map (raised_as k) (map (traced b x) qs)
  items-raised [] = refl
  items-raised (q ∷ qs) =
      ap₂ (λ n xs. public_at q.item.name n (cond x.frame (moved_frame k b.frame) b.frame) ∷ xs) (address-parted k b.address q.item.offset x.address) (items-raised qs)

  items-moving : (qs : List (At PublicItem)) → map (λ q. public_moving q.item.name x) qs ≡ map moving_as (map (traced b x) qs)
  items-moving [] = refl
  items-moving (q ∷ qs) = ap (λ xs. public_moving q.item.name x ∷ xs) (items-moving qs)

abbrev at_base : List (At PublicItem) → Option Placed → List PlacedPublic
at_base items o = flat_map (λ base. publics_at base items) (option_to_list o)

base-traced : (k : ℕ) (items : List (At PublicItem)) (x : Moving) (o u : Option Placed) → u ≡ option_map (parted_place k x) o → is_some o ≡ true
    → AreTraced k (at_base items o) (at_base items u) (map (λ q. public_moving q.item.name x) items)
base-traced k items x None u e h = absurd (false≢true h)
base-traced k items x (Some b) u e h = record {
  list = map (traced b x) items;
  placed = append-nil (publics_at b items) ∙ items-placed k b x items;
  raised = ap (at_base items) e ∙ append-nil (publics_at (parted_place k x b) items) ∙ items-raised k b x items;
  moving = items-moving k b x items;
}

-- ---- those of a module, whose externals may move in any way

abbrev pub moving_with : (List Rec → Movers) → (List Rec → List Moving) → List Rec → Movers
moving_with bases externals m = record (bases m) { externals = externals m }

module _ (k : ℕ) (mv : Movers) (externals : List Moving) (m : List Rec) (pl : Places) (es : length mv.segments ≡ length pl.segments) (eg : length mv.groups ≡ length pl.groups) where
  abbrev up : Places
  up = moved k (record mv { externals = externals }) pl

  abbrev HasBase : Contents → Type 0
  HasBase c = (p : PublicItems) → c ≡ Publics p → is_some (base_of pl p.group.item p.segment.item p.frame) ≡ true

  contents-traced : (c : Contents) → HasBase c → AreTraced k (placed_publics pl c) (placed_publics up c) (moving_publics mv c)
  contents-traced (Publics p) h =
      base-traced k p.items (base_moving mv p.group.item p.segment.item) (base_of pl p.group.item p.segment.item p.frame) (base_of up p.group.item p.segment.item p.frame)
      (base-moves k mv pl es eg p.group.item p.segment.item p.frame) (h p refl)
  contents-traced (Header a) h = none-traced k
  contents-traced (Comment a b d) h = none-traced k
  contents-traced (Names a) h = none-traced k
  contents-traced (Segment a) h = none-traced k
  contents-traced (Group a) h = none-traced k
  contents-traced (Externs a) h = none-traced k
  contents-traced (Communals a) h = none-traced k
  contents-traced (Plain a) h = none-traced k
  contents-traced (Iterated a) h = none-traced k
  contents-traced (Fixups a) h = none-traced k
  contents-traced (ModEnd a b) h = none-traced k
  contents-traced (Carried a) h = none-traced k

  record-traced : (local : Bool) (r : Rec) → HasBase r.contents
      → AreTraced k (record_publics local pl r.kind r.contents) (record_publics local up r.kind r.contents) (moving_in_record local mv r.kind r.contents)
  record-traced true r h = if-traced k (placed_publics pl r.contents) (placed_publics up r.contents) (moving_publics mv r.contents) (is_local r.kind) (contents-traced r.contents h)
  record-traced false r h = unless-traced k (placed_publics pl r.contents) (placed_publics up r.contents) (moving_publics mv r.contents) (is_local r.kind) (contents-traced r.contents h)

  module _ (holds : ModuleHolds profile_limits m) (own : IsPlaceOf m pl) where
    rest-traced : (local : Bool) (before rs : List Rec) → m ≡ before ++ rs → AreTraced k (publics local (rs, pl)) (publics local (rs, up)) (moving_in_module local (rs, mv))
    rest-traced local before [] e = none-traced k
    rest-traced local before (r ∷ rs) e =
        both-traced k (record_publics local pl r.kind r.contents) (record_publics local up r.kind r.contents) (publics local (rs, pl)) (publics local (rs, up))
        (moving_in_record local mv r.kind r.contents) (moving_in_module local (rs, mv))
        (record-traced local r (λ p s. bases-found profile_limits m pl holds own before rs r p e s))
        (rest-traced local (before ++ r ∷ []) rs (e ∙ sym (append_assoc before (r ∷ []) rs)))

    pub module-traced : (local : Bool) → AreTraced k (publics local (m, pl)) (publics local (m, up)) (moving_in_module local (m, mv))
    module-traced local = rest-traced local [] m refl
