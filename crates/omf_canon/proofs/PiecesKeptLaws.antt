-- The pieces of a well-formed module keep the rules, one after another; so do those of its skeleton, and those that it is cut into.
use Rattle.std.proofs.Common.{◌≡◌, ◌≢◌, ℕ, suc, ◌+◌, ◌≤◌, List, [], ◌∷◌, ◌++◌, length, refl, sym, ◌∙◌, ap, ap₂, subst, true, Option, Some, None, length-append, append_assoc, append-nil}
use Rattle.std.specs.Prelude.{◌↔◌, map, flat_map, option_map, ◌==◌, ⊤}
use Rattle.std.specs.List.{AllByRecursion as Each, last_or}
use Rattle.std.proofs.lemmas.Bool.{cond_both}
use Rattle.std.proofs.lemmas.List.{map-append}
use Rattle.std.proofs.lemmas.List.Concat.{flat_map-append}
use Rattle.omf_frame.specs.Bytes.{with_before}
use Rattle.omf_image.specs.declared.limits.Limits.{Limits}
use Rattle.omf_records.specs.Inner.Names.{location_size}
use Rattle.omf_records.specs.Values.{At, unplaced, Rec, Contents, Header, Comment, Names, Segment, Group, Externs, Publics, Communals, Plain, Iterated, Fixups, ModEnd, Carried, DataItem, Reference, Subrecord, Thread, Fixup, location_type, location_offset, contents_alone, alone}
use Rattle.omf_check.specs.Rules.{contents_rules}
use Rattle.omf_check.specs.Sound.{FrameIsDefined, TargetIsDefined, SubrecordHolds, ContentsHold}
use Rattle.omf_check.specs.Tables.{entries, is_defined, last_data, data_in, defined_names, defined_segments, defined_groups, defined_externals, subrecords}
use Rattle.omf_check.specs.Threads.{PlainReference, plain}
use Rattle.omf_records.specs.declared.method.Kind.{Kind}
use Rattle.omf_check.specs.declared.method.FrameMethod.{FrameMethod}
use Rattle.omf_check.specs.declared.method.TargetMethod.{TargetMethod}
use Rattle.omf_check.specs.declared.method.FrameMethod.TheVariants.{Of, Location as F4, Target as F5}
use Rattle.omf_records.specs.declared.method.Kind.TheVariants as kinds
use Rattle.omf_check.specs.WellFormed.{HasTrees}
use Rattle.omf_check.specs.declared.profile.Profile.{Profile}
use Rattle.omf_reloc.specs.Plain.{Piece, Kept, Fixed, End, PlainFixup, plain_fixup}
use Rattle.omf_canon.specs.Cut.{cut}
use Rattle.omf_canon.specs.Joined.{cut_pieces}
use Rattle.omf_canon.specs.Skeleton.{join_front, skeleton_of}
use Rattle.omf_canon.proofs.AloneLaws.{IsOther}
use Rattle.omf_canon.proofs.CutLaws.{cut-greedy}
use Rattle.omf_canon.proofs.PlainValueLaws.{each-append, each-front, each-back}
use Rattle.omf_canon.proofs.RulesLaws.{holds, AreTrue, SameTables}

-- A fixup lies in the last data record, and its frame and its target are defined.
pub record FixupIsKept (b : List Rec) (f : PlainFixup) : Type 0 where
  pub data_record : DataItem
  pub last : option_map contents_alone (last_data b) ≡ Some (contents_alone (Plain data_record))
  pub inside : location_offset f.locat + location_size (location_type f.locat) ≤ length data_record.bytes
  pub frame : FrameIsDefined b f.reference.frame
  pub target : TargetIsDefined b f.reference.target

abbrev pub StartIsKept : List Rec → Option PlainReference → Type 0
StartIsKept b None = ⊤
StartIsKept b (Some r) = FrameIsDefined b r.frame × TargetIsDefined b r.target × (r.frame ≢ F4)

module _ (profile : Profile) (limits : Limits) where
  -- A piece keeps the rules after the kept records b.
  abbrev pub PieceIsKept : List Rec → Piece → Type 0
  PieceIsKept b (Kept r) = AreTrue (holds (contents_rules profile limits b r.kind r.contents)) × IsOther r.contents × HasTrees limits r.kind r.contents
  PieceIsKept b (Fixed kind fs) = Each (FixupIsKept b) fs
  PieceIsKept b (End kind byte start) = StartIsKept b start

  -- So do pieces, one after another.
  abbrev pub kept_after : List Rec → Piece → List Rec
  kept_after b (Kept r) = b ++ r ∷ []
  kept_after b (Fixed kind fs) = b
  kept_after b (End kind byte start) = b

  abbrev pub PiecesAreKept : List Rec → List Piece → Type 0
  PiecesAreKept b [] = ⊤
  PiecesAreKept b (p ∷ ps) = PieceIsKept b p × PiecesAreKept (kept_after b p) ps

  kept-join : (b : List Rec) (kind : ℕ) (fs : List PlainFixup) (ps : List Piece) → Each (FixupIsKept b) fs → PiecesAreKept b ps → PiecesAreKept b (join_front (Fixed kind fs) ps)
  kept-join b kind fs [] h k = (h, k)
  kept-join b kind fs (Kept r ∷ ps) h k = (h, k)
  kept-join b kind fs (End other byte s ∷ ps) h k = (h, k)
  kept-join b kind fs (Fixed other gs ∷ ps) h k = cond_both (kind == other) _ _ (PiecesAreKept b) (λ e. (each-append (FixupIsKept b) fs gs h k.0, k.1)) (λ e. (h, k))

  pub kept-skeleton : (b : List Rec) (ps : List Piece) → PiecesAreKept b ps → PiecesAreKept b (skeleton_of ps)
  kept-skeleton b [] h = tt
  kept-skeleton b (Kept r ∷ ps) h = (h.0, kept-skeleton (b ++ r ∷ []) ps h.1)
  kept-skeleton b (Fixed kind [] ∷ ps) h = kept-skeleton b ps h.1
  kept-skeleton b (Fixed kind (f ∷ fs) ∷ ps) h = kept-join b kind (f ∷ fs) (skeleton_of ps) h.0 (kept-skeleton b ps h.1)
  kept-skeleton b (End kind byte s ∷ ps) h = (h.0, kept-skeleton b ps h.1)

  kept-groups : (b : List Rec) (kind : ℕ) (gs : List (List PlainFixup)) (ps : List Piece) → Each (FixupIsKept b) (flat_map (λ g. g) gs) → PiecesAreKept b ps → PiecesAreKept b (map (λ g. Fixed kind g) gs ++ ps)
  kept-groups b kind [] ps h k = k
  kept-groups b kind (g ∷ gs) ps h k = (each-front (FixupIsKept b) g (flat_map (λ x. x) gs) h, kept-groups b kind gs ps (each-back (FixupIsKept b) g (flat_map (λ x. x) gs) h) k)

  pub kept-cut : (b : List Rec) (ps : List Piece) → PiecesAreKept b ps → PiecesAreKept b (cut_pieces ps)
  kept-cut b [] h = tt
  kept-cut b (Kept r ∷ ps) h = (h.0, kept-cut (b ++ r ∷ []) ps h.1)
  kept-cut b (End kind byte s ∷ ps) h = (h.0, kept-cut b ps h.1)
  kept-cut b (Fixed kind fs ∷ ps) h = kept-groups b kind (cut kind fs) (cut_pieces ps) (subst (Each (FixupIsKept b)) (cut-greedy kind fs).whole h.0) (kept-cut b ps h.1)

-- ---- tables as they grow

last-push : {A : Type 0} (o : Option A) (xs ys : List A) → last_or o (xs ++ ys) ≡ last_or (last_or o xs) ys
last-push o [] ys = refl
last-push o (x ∷ xs) ys = last-push (Some x) xs ys

one-more : {A : Type 0} (f : Rec → List A) (b : List Rec) (r : Rec) → flat_map f (b ++ r ∷ []) ≡ flat_map f b ++ f r
one-more f b r = flat_map-append f b (r ∷ []) ∙ ap (λ x. flat_map f b ++ x) (append-nil (f r))

more-length : {A : Type 0} (f : Rec → List A) (b d : List Rec) (r s : Rec) → length (flat_map f b) ≡ length (flat_map f d) → length (f r) ≡ length (f s)
    → length (flat_map f (b ++ r ∷ [])) ≡ length (flat_map f (d ++ s ∷ []))
more-length f b d r s e k =
    ap length (one-more f b r) ∙ length-append (flat_map f b) (f r) ∙ ap₂ (λ x y. x + y) e k ∙ sym (length-append (flat_map f d) (f s)) ∙ sym (ap length (one-more f d s))

-- what one record says, the same without places
record SameEntries (r s : Rec) : Type 0 where
  names : length (defined_names r.contents) ≡ length (defined_names s.contents)
  segments : defined_segments r.kind r.contents ≡ defined_segments s.kind s.contents
  groups : length (defined_groups r.contents) ≡ length (defined_groups s.contents)
  externals : length (defined_externals r.contents) ≡ length (defined_externals s.contents)
  laid : (o q : Option Contents) → option_map contents_alone o ≡ option_map contents_alone q → option_map contents_alone (last_or o (data_in r.contents)) ≡ option_map contents_alone (last_or q (data_in s.contents))

length-map-item : {A B : Type 0} (f : At A → B) (xs : List (At A)) → length (map f xs) ≡ length (map f (map unplaced xs))
length-map-item f [] = refl
length-map-item f (x ∷ xs) = ap suc (length-map-item f xs)

entries-alone : (kind : ℕ) (c : Contents) → SameEntries (record { kind = kind; contents = c }) (record { kind = kind; contents = contents_alone c })
entries-alone kind (Names xs) = record { names = length-map-item (λ n. n.item) xs; segments = refl; groups = refl; externals = refl; laid = λ o q e. e }
entries-alone kind (Externs xs) = record { names = refl; segments = refl; groups = refl; externals = length-map-item (λ x. x.item.name) xs; laid = λ o q e. e }
entries-alone kind (Communals xs) = record { names = refl; segments = refl; groups = refl; externals = length-map-item (λ x. x.item.name) xs; laid = λ o q e. e }
entries-alone kind (Header x) = record { names = refl; segments = refl; groups = refl; externals = refl; laid = λ o q e. e }
entries-alone kind (Comment x y z) = record { names = refl; segments = refl; groups = refl; externals = refl; laid = λ o q e. e }
entries-alone kind (Segment x) = record { names = refl; segments = refl; groups = refl; externals = refl; laid = λ o q e. e }
entries-alone kind (Group x) = record { names = refl; segments = refl; groups = refl; externals = refl; laid = λ o q e. e }
entries-alone kind (Publics x) = record { names = refl; segments = refl; groups = refl; externals = refl; laid = λ o q e. e }
entries-alone kind (Plain x) = record { names = refl; segments = refl; groups = refl; externals = refl; laid = λ o q e. refl }
entries-alone kind (Iterated x) = record { names = refl; segments = refl; groups = refl; externals = refl; laid = λ o q e. refl }
entries-alone kind (Fixups x) = record { names = refl; segments = refl; groups = refl; externals = refl; laid = λ o q e. e }
entries-alone kind (ModEnd x y) = record { names = refl; segments = refl; groups = refl; externals = refl; laid = λ o q e. e }
entries-alone kind (Carried x) = record { names = refl; segments = refl; groups = refl; externals = refl; laid = λ o q e. e }

entries-same : (r s : Rec) → alone r ≡ alone s → SameEntries r s
entries-same r s e =
    let a = entries-alone r.kind r.contents in
    let z = entries-alone s.kind s.contents in
    let q : alone s ≡ alone r = sym e in
    record {
      names = a.names ∙ ap (λ (x : Rec). length (defined_names x.contents)) e ∙ sym z.names;
      segments = a.segments ∙ ap (λ (x : Rec). defined_segments x.kind x.contents) e ∙ sym z.segments;
      groups = a.groups ∙ ap (λ (x : Rec). length (defined_groups x.contents)) e ∙ sym z.groups;
      externals = a.externals ∙ ap (λ (x : Rec). length (defined_externals x.contents)) e ∙ sym z.externals;
      laid = λ o p h. a.laid o p h ∙ ap (λ (x : Rec). option_map contents_alone (last_or p (data_in x.contents))) e ∙ sym (z.laid p p refl);
    }

pub tables-more : (b d : List Rec) (r s : Rec) → SameTables b d → alone r ≡ alone s → SameTables (b ++ r ∷ []) (d ++ s ∷ [])
tables-more b d r s t e =
    let k = entries-same r s e in
    let D : Rec → List Contents = λ x. data_in x.contents in
    record {
      names = more-length (λ x. defined_names x.contents) b d r s t.names k.names;
      segments = one-more (λ x. defined_segments x.kind x.contents) b r ∙ ap₂ (λ x y. x ++ y) t.segments k.segments ∙ sym (one-more (λ x. defined_segments x.kind x.contents) d s);
      groups = more-length (λ x. defined_groups x.contents) b d r s t.groups k.groups;
      externals = more-length (λ x. defined_externals x.contents) b d r s t.externals k.externals;
      last = ap (λ x. option_map contents_alone (last_or None x)) (one-more D b r)
          ∙ ap (option_map contents_alone) (last-push None (flat_map D b) (D r))
          ∙ k.laid (last_data b) (last_data d) t.last
          ∙ sym (ap (option_map contents_alone) (last-push None (flat_map D d) (D s)))
          ∙ sym (ap (λ x. option_map contents_alone (last_or None x)) (one-more D d s));
    }

-- a record that defines nothing
record IsEmpty (r : Rec) : Type 0 where
  names : defined_names r.contents ≡ []
  segments : defined_segments r.kind r.contents ≡ []
  groups : defined_groups r.contents ≡ []
  externals : defined_externals r.contents ≡ []
  laid : data_in r.contents ≡ []

no-more : {A : Type 0} (f : Rec → List A) (b : List Rec) (r : Rec) → f r ≡ [] → flat_map f (b ++ r ∷ []) ≡ flat_map f b
no-more f b r e = one-more f b r ∙ ap (λ x. flat_map f b ++ x) e ∙ append-nil (flat_map f b)

empty-tables : (b d : List Rec) (r : Rec) → IsEmpty r → SameTables b d → SameTables (b ++ r ∷ []) d
empty-tables b d r h t = record {
  names = ap length (no-more (λ x. defined_names x.contents) b r h.names) ∙ t.names;
  segments = no-more (λ x. defined_segments x.kind x.contents) b r h.segments ∙ t.segments;
  groups = ap length (no-more (λ x. defined_groups x.contents) b r h.groups) ∙ t.groups;
  externals = ap length (no-more (λ x. defined_externals x.contents) b r h.externals) ∙ t.externals;
  last = ap (λ x. option_map contents_alone (last_or None x)) (no-more (λ x. data_in x.contents) b r h.laid) ∙ t.last;
}

pub fixups-empty : (b d : List Rec) (kind : ℕ) (subs : List (At Subrecord)) → SameTables b d → SameTables (b ++ record { kind = kind; contents = Fixups subs } ∷ []) d
fixups-empty b d kind subs t = empty-tables b d (record { kind = kind; contents = Fixups subs }) (record { names = refl; segments = refl; groups = refl; externals = refl; laid = refl }) t

pub end-empty : (b d : List Rec) (kind byte : ℕ) (start : Option Reference) → SameTables b d → SameTables (b ++ record { kind = kind; contents = ModEnd byte start } ∷ []) d
end-empty b d kind byte start t = empty-tables b d (record { kind = kind; contents = ModEnd byte start }) (record { names = refl; segments = refl; groups = refl; externals = refl; laid = refl }) t

-- ---- what tables say of frames and targets

same-entries : (b d : List Rec) → SameTables b d → (k : Kind) → entries b k ≡ entries d k
same-entries b d t kinds.Segment = ap length t.segments
same-entries b d t kinds.Group = t.groups
same-entries b d t kinds.External = t.externals

pub target-tables : (b d : List Rec) → SameTables b d → (f : TargetMethod) → TargetIsDefined b f → TargetIsDefined d f
target-tables b d t f h = subst (λ n. is_defined n f.index ≡ true) (same-entries b d t f.kind) h

pub frame-tables : (b d : List Rec) → SameTables b d → (f : FrameMethod) → FrameIsDefined b f → FrameIsDefined d f
frame-tables b d t (Of f) h = target-tables b d t f h
frame-tables b d t F4 h = tt
frame-tables b d t F5 h = tt

-- ---- a well-formed module

fixup-kept : (L b : List Rec) → SameTables L b → (earlier : List Subrecord) (s : Subrecord) → SubrecordHolds L earlier s → Each (FixupIsKept b) (plain_fixup earlier s)
fixup-kept L b t earlier (Thread byte datum) h = tt
fixup-kept L b t earlier (Fixup locat r) h = (
  record {
    data_record = h.data_record;
    last = sym t.last ∙ ap (option_map contents_alone) h.last;
    inside = h.inside;
    frame = frame-tables L b t (plain earlier r).frame h.reference.frame;
    target = target-tables L b t (plain earlier r).target h.reference.target;
  },
  tt,
)

pub fixups-kept : (L b : List Rec) → SameTables L b → (E : List Subrecord) (done subs : List (At Subrecord))
    → ((front rest : List (At Subrecord)) (s : At Subrecord) → subs ≡ front ++ s ∷ rest → SubrecordHolds L (E ++ map (λ e. e.item) (done ++ front)) s.item)
    → Each (FixupIsKept b) (with_before plain_fixup (E ++ map (λ e. e.item) done) (map (λ s. s.item) subs))
fixups-kept L b t E done [] h = tt
fixups-kept L b t E done (s ∷ subs) h =
    let items : List (At Subrecord) → List Subrecord = λ xs. map (λ e. e.item) xs in
    let here : SubrecordHolds L (E ++ items done) s.item = subst (λ xs. SubrecordHolds L (E ++ items xs) s.item) (append-nil done) (h [] subs s refl) in
    let grown : E ++ items (done ++ s ∷ []) ≡ (E ++ items done) ++ s.item ∷ [] = ap (λ x. E ++ x) (map-append (λ (e : At Subrecord). e.item) done (s ∷ [])) ∙ sym (append_assoc E (items done) (s.item ∷ [])) in
    let later : Each (FixupIsKept b) (with_before plain_fixup (E ++ items (done ++ s ∷ [])) (items subs)) = fixups-kept L b t E (done ++ s ∷ []) subs
    (λ front rest q e. subst (λ xs. SubrecordHolds L (E ++ items xs) q.item) (sym (append_assoc done (s ∷ []) front)) (h (s ∷ front) rest q (ap (λ x. s ∷ x) e))) in
    each-append (FixupIsKept b) (plain_fixup (E ++ items done) s.item) _ (fixup-kept L b t (E ++ items done) s.item here)
    (subst (λ x. Each (FixupIsKept b) (with_before plain_fixup x (items subs))) grown later)

pub start-kept : (L b : List Rec) → SameTables L b → (byte : ℕ) (limits : Limits) (kind : ℕ) (start : Option Reference) → ContentsHold limits L kind (ModEnd byte start) → StartIsKept b (option_map (plain (subrecords L)) start)
start-kept L b t byte limits kind None h = tt
start-kept L b t byte limits kind (Some r) h = (
  frame-tables L b t (plain (subrecords L) r).frame h.reference.frame,
  target-tables L b t (plain (subrecords L) r).target h.reference.target,
  h.frame,
)

pub trees-alone : (limits : Limits) (kind : ℕ) (c d : Contents) → contents_alone c ≡ contents_alone d → HasTrees limits kind c → HasTrees limits kind d
trees-alone limits kind c d e h = (trees d).0 (subst (HasTrees limits kind) e ((trees c).1 h))
  where
    alike : (T : Type 0) → T ↔ T
    alike T = (λ t. t, λ t. t)

    trees : (c : Contents) → HasTrees limits kind (contents_alone c) ↔ HasTrees limits kind c
    trees (Iterated x) = alike _
    trees (Header x) = alike _
    trees (Comment x y z) = alike _
    trees (Names x) = alike _
    trees (Segment x) = alike _
    trees (Group x) = alike _
    trees (Externs x) = alike _
    trees (Publics x) = alike _
    trees (Communals x) = alike _
    trees (Plain x) = alike _
    trees (Fixups x) = alike _
    trees (ModEnd x y) = alike _
    trees (Carried x) = alike _
