-- The piece of a record does not depend on places.
use Rattle.std.proofs.Common.{◌≡◌, ℕ, List, [], ◌∷◌, ◌++◌, refl, sym, ◌∙◌, ap, ap₂, Bool, true, false, cond, Option, Some, None}
use Rattle.std.specs.Prelude.{map, filter_map, option_map, unwrap_or, ⊤}
use Rattle.std.specs.List.{cons_option}
use Rattle.std.proofs.lemmas.List.Elements.{filter_map-append}
use Rattle.omf_frame.specs.Bytes.{with_before, last}
use Rattle.omf_records.specs.Inner.Names.{frame_thread}
use Rattle.omf_records.specs.Values.{At, nowhere, unplaced, Rec, Contents, Header, Comment, Names, Segment, Group, Externs, Publics, Communals, Plain, Iterated, Fixups, ModEnd, Carried, Reference, Subrecord, Thread, Fixup, frame_by_thread, frame_bits, target_by_thread, target_bits, reference_alone, subrecord_alone, contents_alone, alone}
use Rattle.omf_check.specs.Inner.Names.{frame_from, target_from}
use Rattle.omf_check.specs.Threads.{Setting, setting, setting_of, frame_setting, target_setting, T0, PlainReference, plain}
use Rattle.omf_check.specs.declared.method.FrameMethod.TheVariants.{Target as F5}
use Rattle.omf_reloc.specs.Plain.{Kept, Fixed, End, plain_fixup}
use Rattle.omf_canon.specs.Inner.Names.{end_byte}
use Rattle.omf_canon.proofs.NormalLaws.{normal_of}

-- Subrecords that set the same.
abbrev SetTheSame : List Subrecord → List Subrecord → Type 0
SetTheSame E F = (b : Bool) (k : ℕ) → filter_map (setting_of b k) E ≡ filter_map (setting_of b k) F

setting-datum : (m : ℕ) (o : Option (At ℕ)) → setting m o ≡ setting m (option_map unplaced o)
setting-datum m None = refl
setting-datum m (Some a) = refl

setting-alone : (b : Bool) (k : ℕ) (s : Subrecord) → setting_of b k s ≡ setting_of b k (subrecord_alone s)
setting-alone b k (Thread byte None) = refl
setting-alone b k (Thread byte (Some a)) = refl
setting-alone b k (Fixup locat r) = refl

same-push : (E F : List Subrecord) (s : Subrecord) → SetTheSame E F → SetTheSame (E ++ s ∷ []) (F ++ subrecord_alone s ∷ [])
same-push E F s h b k =
    filter_map-append (setting_of b k) E (s ∷ [])
    ∙ ap₂ (λ x y. x ++ cons_option y []) (h b k) (setting-alone b k s)
    ∙ sym (filter_map-append (setting_of b k) F (subrecord_alone s ∷ []))

module _ (E F : List Subrecord) (h : SetTheSame E F) where
  pub same-frame : (r : Reference) → frame_setting E r ≡ frame_setting F (reference_alone r)
  same-frame r = ap₂ (λ x y. cond (frame_by_thread r.fix.item) x y) (ap last (h true (frame_thread r.fix.item))) (ap (λ s. Some s) (setting-datum (frame_bits r.fix.item) r.frame))

  pub same-target : (r : Reference) → target_setting E r ≡ target_setting F (reference_alone r)
  same-target r = ap₂ (λ x y. cond (target_by_thread r.fix.item) x y) (ap last (h false (target_bits r.fix.item))) (ap (λ s. Some s) (setting-datum (target_bits r.fix.item) r.target))

  pub plain-alone : (r : Reference) → plain E r ≡ plain F (reference_alone r)
  plain-alone r =
      let made : Option Setting → Option Setting → PlainReference = λ x y. record { frame = unwrap_or (option_map frame_from x) F5; target = unwrap_or (option_map target_from y) (T0 0); displacement = unwrap_or r.displacement 0 } in
      ap₂ made (same-frame r) (same-target r)

  fixup-alone : (s : Subrecord) → plain_fixup E s ≡ plain_fixup F (subrecord_alone s)
  fixup-alone (Thread byte datum) = refl
  fixup-alone (Fixup locat r) = ap (λ (x : PlainReference). record { locat = locat; reference = x } ∷ []) (plain-alone r)

fixups-alone : (E F : List Subrecord) → SetTheSame E F → (subs : List (At Subrecord))
    → with_before plain_fixup E (map (λ s. s.item) subs) ≡ with_before plain_fixup F (map (λ s. s.item) (map (λ s. nowhere (subrecord_alone s.item)) subs))
fixups-alone E F h [] = refl
fixups-alone E F h (s ∷ subs) = ap₂ (λ x y. x ++ y) (fixup-alone E F h s.item) (fixups-alone (E ++ s.item ∷ []) (F ++ subrecord_alone s.item ∷ []) (same-push E F s.item h) subs)

start-alone : (earlier : List Subrecord) (o : Option Reference) → option_map (plain earlier) o ≡ option_map (plain earlier) (option_map reference_alone o)
start-alone earlier None = refl
start-alone earlier (Some r) = ap (λ x. Some x) (plain-alone earlier earlier (λ b k. refl) r)

twice : {A : Type 0} (xs : List (At A)) → map unplaced xs ≡ map unplaced (map unplaced xs)
twice [] = refl
twice (x ∷ xs) = ap (λ t. unplaced x ∷ t) (twice xs)

twice-members : (xs : List (At (At ℕ))) → map (λ m. nowhere (unplaced m.item)) xs ≡ map (λ m. nowhere (unplaced m.item)) (map (λ m. nowhere (unplaced m.item)) xs)
twice-members [] = refl
twice-members (x ∷ xs) = ap (λ t. nowhere (unplaced x.item) ∷ t) (twice-members xs)

kept : (kind : ℕ) (c d : Contents) → c ≡ d → Kept (record { kind = kind; contents = c }) ≡ Kept (record { kind = kind; contents = d })
kept kind c d e = ap (λ (x : Contents). Kept (record { kind = kind; contents = x })) e

piece-alone : (earlier : List Subrecord) (kind : ℕ) (c : Contents) → normal_of earlier kind c ≡ normal_of earlier kind (contents_alone c)
piece-alone earlier kind (Fixups subs) = ap (λ x. Fixed kind x) (fixups-alone earlier earlier (λ b k. refl) subs)
piece-alone earlier kind (ModEnd byte start) = ap (λ x. End kind (end_byte byte) x) (start-alone earlier start)
piece-alone earlier kind (Header x) = refl
piece-alone earlier kind (Comment x y z) = refl
piece-alone earlier kind (Names xs) = kept kind (Names (map unplaced xs)) (Names (map unplaced (map unplaced xs))) (ap (λ t. Names t) (twice xs))
piece-alone earlier kind (Segment s) = refl
piece-alone earlier kind (Group g) = ap (λ (t : List (At (At ℕ))). Kept (record { kind = kind; contents = Group (record { name = unplaced g.name; members = t }) })) (twice-members g.members)
piece-alone earlier kind (Externs xs) = kept kind (Externs (map unplaced xs)) (Externs (map unplaced (map unplaced xs))) (ap (λ t. Externs t) (twice xs))
piece-alone earlier kind (Publics p) = kept kind _ _ (ap (λ t. Publics (record { group = unplaced p.group; segment = unplaced p.segment; frame = p.frame; items = t })) (twice p.items))
piece-alone earlier kind (Communals xs) = kept kind (Communals (map unplaced xs)) (Communals (map unplaced (map unplaced xs))) (ap (λ t. Communals t) (twice xs))
piece-alone earlier kind (Plain d) = refl
piece-alone earlier kind (Iterated d) = refl
piece-alone earlier kind (Carried x) = refl

-- Records that are equal but for their places have one piece.
pub same-piece : (earlier : List Subrecord) (r s : Rec) → alone r ≡ alone s → normal_of earlier r.kind r.contents ≡ normal_of earlier s.kind s.contents
same-piece earlier r s e =
    piece-alone earlier r.kind r.contents
    ∙ ap (λ (x : Rec). normal_of earlier x.kind x.contents) e
    ∙ sym (piece-alone earlier s.kind s.contents)

-- Places that are gone are gone.
twice-option : (o : Option (At ℕ)) → option_map unplaced o ≡ option_map unplaced (option_map unplaced o)
twice-option None = refl
twice-option (Some a) = refl

twice-reference : (r : Reference) → reference_alone r ≡ reference_alone (reference_alone r)
twice-reference r = ap₂ (λ (x y : Option (At ℕ)). record { fix = unplaced r.fix; frame = x; target = y; displacement = r.displacement }) (twice-option r.frame) (twice-option r.target)

twice-subrecord : (s : Subrecord) → subrecord_alone s ≡ subrecord_alone (subrecord_alone s)
twice-subrecord (Thread byte datum) = ap (λ x. Thread byte x) (twice-option datum)
twice-subrecord (Fixup locat r) = ap (λ x. Fixup locat x) (twice-reference r)

twice-subrecords : (xs : List (At Subrecord)) → map (λ s. nowhere (subrecord_alone s.item)) xs ≡ map (λ s. nowhere (subrecord_alone s.item)) (map (λ s. nowhere (subrecord_alone s.item)) xs)
twice-subrecords [] = refl
twice-subrecords (x ∷ xs) = ap₂ (λ y t. nowhere y ∷ t) (twice-subrecord x.item) (twice-subrecords xs)

twice-start : (o : Option Reference) → option_map reference_alone o ≡ option_map reference_alone (option_map reference_alone o)
twice-start None = refl
twice-start (Some r) = ap (λ x. Some x) (twice-reference r)

pub twice-contents : (c : Contents) → contents_alone c ≡ contents_alone (contents_alone c)
twice-contents (Fixups subs) = ap (λ x. Fixups x) (twice-subrecords subs)
twice-contents (ModEnd byte start) = ap (λ x. ModEnd byte x) (twice-start start)
twice-contents (Header x) = refl
twice-contents (Comment x y z) = refl
twice-contents (Names xs) = ap (λ t. Names t) (twice xs)
twice-contents (Segment s) = refl
twice-contents (Group g) = ap (λ (t : List (At (At ℕ))). Group (record { name = unplaced g.name; members = t })) (twice-members g.members)
twice-contents (Externs xs) = ap (λ t. Externs t) (twice xs)
twice-contents (Publics p) = ap (λ t. Publics (record { group = unplaced p.group; segment = unplaced p.segment; frame = p.frame; items = t })) (twice p.items)
twice-contents (Communals xs) = ap (λ t. Communals t) (twice xs)
twice-contents (Plain d) = refl
twice-contents (Iterated d) = refl
twice-contents (Carried x) = refl

pub twice-alone : (r : Rec) → alone r ≡ alone (alone r)
twice-alone r = ap (λ (x : Contents). record { kind = r.kind; contents = x }) (twice-contents r.contents)

-- Contents that are no references.
abbrev pub IsOther : Contents → Type 0
IsOther (Fixups subs) = ⊥
IsOther (ModEnd byte start) = ⊥
IsOther _ = ⊤

pub other-alone : (c : Contents) → IsOther c → IsOther (contents_alone c)
other-alone (Fixups subs) h = h
other-alone (ModEnd byte start) h = h
other-alone _ h = tt

pub alone-other : (c : Contents) → IsOther (contents_alone c) → IsOther c
alone-other (Fixups subs) h = h
alone-other (ModEnd byte start) h = h
alone-other _ h = tt
