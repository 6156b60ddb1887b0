-- The records of a module past its FIXUPPs without a FIXUP.
use Rattle.std.proofs.Common.{◌≡◌, ℕ, inl, inr, List, [], ◌∷◌, ◌++◌, refl, sym, ap, ap₂, ◌∙◌, Bool, true, false, append-nil}
use Rattle.std.specs.Prelude.{flat_map, map, not, ◌||◌, Option, Some, None}
use Rattle.std.specs.List.{list_any}
use Rattle.std.proofs.lemmas.Bool.{cases_Bool, cond-true, cond-false}
use Rattle.std.proofs.lemmas.List.Elements.{filter-append}
use Rattle.omf_records.specs.Values.{At, Contents, Fixups, Rec, Subrecord, Thread, Fixup, alone, contents_alone, nowhere, subrecord_alone}
use Rattle.omf_check.specs.Tables.{defined_segments, segments}
use Rattle.omf_check.specs.Inner.Known.{holds_references}
use Rattle.omf_lowering.specs.Marks.{selection_by}
use Rattle.omf_lowering.specs.Unrolled.{is_fixup}
use Rattle.omf_trimming.specs.Choice.{fixes_nothing, marked_after, marked_if, name_by, past_threads}
use Rattle.omf_trimming.specs.Without.{is_thread, threads_alone}
use Rattle.omf_trimming.specs.Inner.Choosing.{marked_named}

pub past-true : (r : Rec) (rest : List Rec) → fixes_nothing r.contents ≡ true → past_threads (r ∷ rest) ≡ past_threads rest
past-true r rest e = cond-false (not (fixes_nothing r.contents)) (r ∷ past_threads rest) (past_threads rest) (ap not e)

pub past-false : (r : Rec) (rest : List Rec) → fixes_nothing r.contents ≡ false → past_threads (r ∷ rest) ≡ r ∷ past_threads rest
past-false r rest e = cond-true (not (fixes_nothing r.contents)) (r ∷ past_threads rest) (past_threads rest) (ap not e)

pub past-append : (xs ys : List Rec) → past_threads (xs ++ ys) ≡ past_threads xs ++ past_threads ys
past-append xs ys = filter-append (λ (r : Rec). not (fixes_nothing r.contents)) xs ys

-- ---- such a FIXUPP defines nothing

pub none-selected : (c : Contents) → fixes_nothing c ≡ true → selection_by c ≡ None
none-selected (Fixups subs) e = refl
none-selected _ e = absurd cc

pub none-held : (c : Contents) → holds_references c ≡ false → false ≡ fixes_nothing c
none-held (Fixups subs) e = absurd cc
none-held _ e = refl

pub fixing-selected : (c : Contents) (k : ℕ) → selection_by c ≡ Some k → fixes_nothing c ≡ false
fixing-selected (Fixups subs) k e = absurd cc
fixing-selected _ k e = refl

none-defined : (kind : ℕ) (c : Contents) → fixes_nothing c ≡ true → defined_segments kind c ≡ []
none-defined kind (Fixups subs) e = refl
none-defined kind _ e = absurd cc

pub flat-past : {A : Type 0} (f : Rec → List A) → ((r : Rec) → fixes_nothing r.contents ≡ true → f r ≡ []) → (m : List Rec) → flat_map f (past_threads m) ≡ flat_map f m
flat-past f none [] = refl
flat-past {A} f none (r ∷ m) = elim (cases_Bool (fixes_nothing r.contents)) [
  | inl t ↦ ap (flat_map f) (past-true r m t) ∙ flat-past f none m ∙ sym (ap (λ (xs : List A). xs ++ flat_map f m) (none r t))
  | inr t ↦ ap (flat_map f) (past-false r m t) ∙ ap (λ (xs : List A). f r ++ xs) (flat-past f none m)
]

pub segments-past : (m : List Rec) → segments (past_threads m) ≡ segments m
segments-past m = flat-past (λ r. defined_segments r.kind r.contents) (λ r t. none-defined r.kind r.contents t) m

-- ---- places do not matter

fixup-alone : (s : Subrecord) → is_fixup s ≡ is_fixup (subrecord_alone s)
fixup-alone (Thread byte datum) = refl
fixup-alone (Fixup locat r) = refl

fixups-alone : (subs : List (At Subrecord)) → list_any (λ s. is_fixup s.item) subs ≡ list_any (λ s. is_fixup s.item) (map (λ s. nowhere (subrecord_alone s.item)) subs)
fixups-alone [] = refl
fixups-alone (s ∷ subs) = ap₂ (λ (a b : Bool). a || b) (fixup-alone s.item) (fixups-alone subs)

pub fixes-alone : (c : Contents) → fixes_nothing (contents_alone c) ≡ fixes_nothing c
fixes-alone (Fixups subs) = ap not (sym (fixups-alone subs))
fixes-alone _ = refl

pub past-alone : (m : List Rec) → past_threads (map alone m) ≡ map alone (past_threads m)
past-alone [] = refl
past-alone (r ∷ m) = elim (cases_Bool (fixes_nothing r.contents)) [
  | inl t ↦ past-true (alone r) (map alone m) (fixes-alone r.contents ∙ t) ∙ past-alone m ∙ sym (ap (map alone) (past-true r m t))
  | inr t ↦ past-false (alone r) (map alone m) (fixes-alone r.contents ∙ t) ∙ ap (λ (xs : List Rec). alone r ∷ xs) (past-alone m) ∙ sym (ap (map alone) (past-false r m t))
]

-- ---- THREADs alone are THREADs

no-fixup : (s : Subrecord) → is_thread s ≡ true → is_fixup s ≡ false
no-fixup (Thread byte datum) e = refl
no-fixup (Fixup locat r) e = absurd cc

none-of-threads : (subs : List (At Subrecord)) → list_any (λ s. is_fixup s.item) (threads_alone subs) ≡ false
none-of-threads [] = refl
none-of-threads (s ∷ subs) = elim (cases_Bool (is_thread s.item)) [
  | inl t ↦ ap (list_any (λ (x : At Subrecord). is_fixup x.item)) (cond-true (is_thread s.item) (s ∷ threads_alone subs) (threads_alone subs) t)
      ∙ ap₂ (λ (a b : Bool). a || b) (no-fixup s.item t) (none-of-threads subs)
  | inr t ↦ ap (list_any (λ (x : At Subrecord). is_fixup x.item)) (cond-false (is_thread s.item) (s ∷ threads_alone subs) (threads_alone subs) t) ∙ none-of-threads subs
]

pub threads-are : (subs : List (At Subrecord)) → fixes_nothing (Fixups (threads_alone subs)) ≡ true
threads-are subs = ap not (none-of-threads subs)

-- ---- a record that is past them, in the module

pub record IsSplit (m before : List Rec) (x : Rec) (after : List Rec) : Type 0 where
  pub front : List Rec
  pub back : List Rec
  pub whole : m ≡ front ++ x ∷ back
  pub front_is : past_threads front ≡ before
  pub back_is : past_threads back ≡ after

same-front : (x y : Rec) (xs ys : List Rec) → x ∷ xs ≡ y ∷ ys → (x ≡ y) × (xs ≡ ys)
same-front x y xs ys e = (cc, cc)

nothing-is : {A : Type 0} (before after : List Rec) (x : Rec) → [] ≡ before ++ x ∷ after → A
nothing-is [] after x e = absurd cc
nothing-is (b ∷ before) after x e = absurd cc

with-front : (r : Rec) (m before : List Rec) (x : Rec) (after own : List Rec) → ((front : List Rec) → past_threads front ≡ before → past_threads (r ∷ front) ≡ own) → IsSplit m before x after → IsSplit (r ∷ m) own x after
with-front r m before x after own more s = record { front = r ∷ s.front; back = s.back; whole = ap (λ (xs : List Rec). r ∷ xs) s.whole; front_is = more s.front s.front_is; back_is = s.back_is }

split-at : (r : Rec) (m before : List Rec) (x : Rec) (after : List Rec) → ((more : List Rec) → past_threads m ≡ more ++ x ∷ after → IsSplit m more x after) → fixes_nothing r.contents ≡ false
    → r ∷ past_threads m ≡ before ++ x ∷ after → IsSplit (r ∷ m) before x after
split-at r m [] x after later t e = let s = same-front r x (past_threads m) after e in record { front = []; back = m; whole = ap (λ (y : Rec). y ∷ m) s.0; front_is = refl; back_is = s.1 }
split-at r m (b ∷ before) x after later t e =
    let s = same-front r b (past_threads m) (before ++ x ∷ after) e in
    with-front r m before x after (b ∷ before) (λ front h. past-false r front t ∙ ap₂ (λ (y : Rec) (ys : List Rec). y ∷ ys) s.0 h) (later before s.1)

pub past-split : (m before : List Rec) (x : Rec) (after : List Rec) → past_threads m ≡ before ++ x ∷ after → IsSplit m before x after
past-split [] before x after e = nothing-is before after x e
past-split (r ∷ m) before x after e = elim (cases_Bool (fixes_nothing r.contents)) [
  | inl t ↦ with-front r m before x after before (λ front h. past-true r front t ∙ h) (past-split m before x after (sym (past-true r m t) ∙ e))
  | inr t ↦ split-at r m before x after (λ more h. past-split m more x after h) t (sym (past-false r m t) ∙ e)
]

-- ---- what follows a SEGDEF, and a SEGDEF and a PUBDEF

after-front : (m : List Rec) (n size : ℕ) (p : Rec) (rest : List Rec) → marked_after m n size (p ∷ rest) ≡ marked_named m n size (name_by n p.kind p.contents) rest
after-front m n size p [] = refl
after-front m n size p (mark ∷ rest) = refl

pub segment-passes : (m : List Rec) (n size : ℕ) (r : Rec) (rest : List Rec) → fixes_nothing r.contents ≡ true → marked_after m n size (past_threads (r ∷ rest)) ≡ marked_after m n size (past_threads rest)
segment-passes m n size r rest t = ap (marked_after m n size) (past-true r rest t)

pub segment-goes-on : (m : List Rec) (n size : ℕ) (r : Rec) (rest : List Rec) → fixes_nothing r.contents ≡ false
    → marked_after m n size (past_threads (r ∷ rest)) ≡ marked_named m n size (name_by n r.kind r.contents) (past_threads rest)
segment-goes-on m n size r rest t = ap (marked_after m n size) (past-false r rest t) ∙ after-front m n size r (past_threads rest)

pub name-passes : (m : List Rec) (n size : ℕ) (name : List ℕ) (r : Rec) (rest : List Rec) → fixes_nothing r.contents ≡ true
    → marked_named m n size (Some name) (past_threads (r ∷ rest)) ≡ marked_if m n size (Some name) (selection_by r.contents) ++ marked_named m n size (Some name) (past_threads rest)
name-passes m n size name r rest t =
    ap (marked_named m n size (Some name)) (past-true r rest t)
    ∙ sym (ap (λ (o : Option ℕ). marked_if m n size (Some name) o ++ marked_named m n size (Some name) (past_threads rest)) (none-selected r.contents t))

pub name-ends : (m : List Rec) (n size : ℕ) (name : List ℕ) (r : Rec) (rest : List Rec) → fixes_nothing r.contents ≡ false
    → marked_named m n size (Some name) (past_threads (r ∷ rest)) ≡ marked_if m n size (Some name) (selection_by r.contents) ++ []
name-ends m n size name r rest t = ap (marked_named m n size (Some name)) (past-false r rest t) ∙ sym (append-nil (marked_if m n size (Some name) (selection_by r.contents)))
