-- The frames that names share, in tables.
use Rattle.std.proofs.Common.{◌≡◌, ℕ, true, false, ◌&&◌, List, [], ◌∷◌, ◌++◌, append-nil, refl, sym, ap, ◌∙◌, inl, inr, cond}
use Rattle.std.specs.Prelude.{bytes_eq, filter_map, option_map, option_and_then, slice_get, Option, Some, None}
use Rattle.std.specs.List.{cons_option}
use Rattle.std.specs.BTreeMap.{BTreeMap, UpdatesBy, is_at}
use Rattle.std.specs.Cmp.Lexicographic.{slice_cmp}
use Rattle.std.specs.Global.{Vec}
use Rattle.std.specs.Map.{lookup}
use Rattle.std.specs.Option.{option_map_or, option_or}
use Rattle.std.specs.Ordering.{nat_cmp}
use Rattle.std.proofs.lemmas.Bool.{cases_Bool, cond-true, cond-false}
use Rattle.std.proofs.lemmas.List.Elements.{filter_map-append}
use Rattle.std.proofs.lemmas.List.Folds.{find-append}
use Rattle.std.proofs.lemmas.Slice.Eq.{bytes_eq-Decides}
use Rattle.omf_records.specs.Values.{Rec}
use Rattle.omf_placement.specs.declared.frame.Frame.{Frame}
use Rattle.omf_linking.specs.Inner.Titling.{AreTitles, IsFrameTable, kept_at, title_text}
use Rattle.omf_linking.specs.Locator.Items.{Item, Title, first_titled, group_given, group_title, in_quotes, is_titled, segment_framed, segment_title, shared_frame}
use Rattle.omf_linking.specs.declared.locator.titles.FrameTable.{FrameTable}
use Rattle.omf_linking.specs.declared.locator.titles.Titles.{Titles}
use Rattle.omf_linking.proofs.KeyTableLaws.{bytes-flip, spelled-both, updated}

abbrev Kept : Type 0
Kept = BTreeMap (Vec ℕ) (Option Frame)

abbrev Framed : Type 0
Framed = (ℕ × ℕ) × Option Frame

pub no-frames : (title : List Rec → ℕ → Title) (ms : List (List Rec)) (s : Kept) → s.entries ≡ [] → IsFrameTable title ms [] s
no-frames title ms s e t = ap (λ es. lookup (is_at (λ (k : Vec ℕ). slice_cmp nat_cmp (title_text t) k.items)) es) e

flat-frame : (o : Option Framed) → option_and_then (λ f. f) (option_map (λ g. g.1) o) ≡ option_and_then (λ g. g.1) o
flat-frame None = refl
flat-frame (Some g) = refl

pub frame-of : (title : List Rec → ℕ → Title) (ms : List (List Rec)) (gs : List Framed) (t : Title) (s : Kept) (text : List ℕ) → text ≡ title_text t → IsFrameTable title ms gs s
    → option_and_then (λ f. f) (kept_at s text) ≡ shared_frame title ms t gs
frame-of title ms gs t s text e table = ap (λ q. option_and_then (λ f. f) (kept_at s q)) e ∙ ap (option_and_then (λ f. f)) (table t) ∙ flat-frame (first_titled title ms t gs)

-- ---- one more line

or-none : (o : Option Framed) → option_or o None ≡ o
or-none None = refl
or-none (Some g) = refl

none-first : (o : Option Framed) (x : Framed) → None ≡ option_map (λ g. g.1) o → option_map (λ g. g.1) (option_or o (Some x)) ≡ Some x.1
none-first None x e = refl
none-first (Some g) x e = absurd cc

some-first : (o : Option Framed) (x : Framed) (v : Option Frame) → Some v ≡ option_map (λ g. g.1) o → option_map (λ g. g.1) (option_or o (Some x)) ≡ Some v
some-first None x v e = absurd cc
some-first (Some g) x v e = sym e

module _ (title : List Rec → ℕ → Title) (ms : List (List Rec)) (gs : List Framed) (j i : ℕ) (m : List Rec) (f : Option Frame) (here : slice_get ms j ≡ Some m) (old : Kept) (table : IsFrameTable title ms gs old) where
  abbrev own : List ℕ
  own = title_text (in_quotes (title m i))

  abbrev line : Framed
  line = ((j, i), f)

  titled : (t : Title) → is_titled title ms t (j, i) ≡ bytes_eq (title_text t) own
  titled t =
      ap (λ o. option_map_or (λ n. bytes_eq t.0 (in_quotes (title n i)).0 && bytes_eq t.1 (in_quotes (title n i)).1) o false) here
      ∙ sym (spelled-both t.0 t.1 (title m i).0 (title m i).1)

  first-more : (t : Title) → first_titled title ms t (gs ++ line ∷ []) ≡ option_or (first_titled title ms t gs) (cond (bytes_eq (title_text t) own) (Some line) None)
  first-more t =
      find-append (λ g. is_titled title ms t g.0) gs (line ∷ [])
      ∙ ap (λ b. option_or (first_titled title ms t gs) (cond b (Some line) None)) (titled t)

  mine : (t : Title) → bytes_eq (title_text t) own ≡ true → first_titled title ms t (gs ++ line ∷ []) ≡ option_or (first_titled title ms t gs) (Some line)
  mine t y = first-more t ∙ ap (option_or (first_titled title ms t gs)) (cond-true (bytes_eq (title_text t) own) (Some line) None y)

  other : (t : Title) → bytes_eq (title_text t) own ≡ false → first_titled title ms t (gs ++ line ∷ []) ≡ first_titled title ms t gs
  other t n = first-more t ∙ ap (option_or (first_titled title ms t gs)) (cond-false (bytes_eq (title_text t) own) (Some line) None n) ∙ or-none (first_titled title ms t gs)

  pub first-line : (new : Kept) (text : List ℕ) → text ≡ own → kept_at old text ≡ None → UpdatesBy (λ x y. slice_cmp nat_cmp x.items y.items) (λ k. slice_cmp nat_cmp text k.items) old new (Some f) → IsFrameTable title ms (gs ++ line ∷ []) new
  first-line new text e none u t = updated text old new (Some f) u (title_text t) ∙ (elim (cases_Bool (bytes_eq (title_text t) own)) [
    | inl y ↦
        let same : title_text t ≡ text = (bytes_eq-Decides (title_text t) own).0 y ∙ sym e in
        cond-true (bytes_eq text (title_text t)) (Some f) (kept_at old (title_text t)) ((bytes_eq-Decides text (title_text t)).1 (sym same))
        ∙ sym (ap (option_map (λ g. g.1)) (mine t y) ∙ none-first (first_titled title ms t gs) line (sym none ∙ ap (kept_at old) (sym same) ∙ table t))
    | inr n ↦
        cond-false (bytes_eq text (title_text t)) (Some f) (kept_at old (title_text t)) (bytes-flip (title_text t) text (ap (bytes_eq (title_text t)) e ∙ n))
        ∙ table t ∙ ap (option_map (λ g. g.1)) (sym (other t n))
  ])

  pub later-line : (text : List ℕ) → text ≡ own → (v : Option Frame) → kept_at old text ≡ Some v → IsFrameTable title ms (gs ++ line ∷ []) old
  later-line text e v some t = elim (cases_Bool (bytes_eq (title_text t) own)) [
    | inl y ↦
        let same : title_text t ≡ text = (bytes_eq-Decides (title_text t) own).0 y ∙ sym e in
        let is : kept_at old (title_text t) ≡ Some v = ap (kept_at old) same ∙ some in
        is ∙ sym (ap (option_map (λ g. g.1)) (mine t y) ∙ some-first (first_titled title ms t gs) line v (sym is ∙ table t))
    | inr n ↦ table t ∙ ap (option_map (λ g. g.1)) (sym (other t n))
  ]

-- ---- the tables after an item

-- what an item adds to what is picked
picked : {A B : Type 0} (pick : A → Option B) (xs : List A) (x : A) (y : B) → pick x ≡ Some y → filter_map pick (xs ++ x ∷ []) ≡ filter_map pick xs ++ y ∷ []
picked pick xs x y e = filter_map-append pick xs (x ∷ []) ∙ ap (λ p. filter_map pick xs ++ cons_option p []) e

unpicked : {A B : Type 0} (pick : A → Option B) (xs : List A) (x : A) → pick x ≡ None → filter_map pick (xs ++ x ∷ []) ≡ filter_map pick xs
unpicked pick xs x e = filter_map-append pick xs (x ∷ []) ∙ ap (λ p. filter_map pick xs ++ cons_option p []) e ∙ append-nil (filter_map pick xs)

module _ (ms : List (List Rec)) (s : Titles) (items : List Item) (x : Item) (at : AreTitles ms s items) where
  pub titles-same : segment_framed x ≡ None → group_given x ≡ None → AreTitles ms s (items ++ x ∷ [])
  titles-same e f = record {
    segments_are = λ t. at.segments_are t ∙ ap (λ gs. option_map (λ g. g.1) (first_titled segment_title ms t gs)) (sym (unpicked segment_framed items x e));
    groups_are = λ t. at.groups_are t ∙ ap (λ gs. option_map (λ g. g.1) (first_titled group_title ms t gs)) (sym (unpicked group_given items x f));
  }

  pub titles-segment : (y : Framed) (new : Titles) → segment_framed x ≡ Some y → group_given x ≡ None → new.groups ≡ s.groups → IsFrameTable segment_title ms (filter_map segment_framed items ++ y ∷ []) new.segments.by_title → AreTitles ms new (items ++ x ∷ [])
  titles-segment y new e f same table = record {
    segments_are = λ t. table t ∙ ap (λ gs. option_map (λ g. g.1) (first_titled segment_title ms t gs)) (sym (picked segment_framed items x y e));
    groups_are = λ t.
        ap (λ (k : FrameTable). kept_at k.by_title (title_text t)) same ∙ at.groups_are t
        ∙ ap (λ gs. option_map (λ g. g.1) (first_titled group_title ms t gs)) (sym (unpicked group_given items x f));
  }

  pub titles-group : (y : Framed) (new : Titles) → segment_framed x ≡ None → group_given x ≡ Some y → new.segments ≡ s.segments → IsFrameTable group_title ms (filter_map group_given items ++ y ∷ []) new.groups.by_title → AreTitles ms new (items ++ x ∷ [])
  titles-group y new e f same table = record {
    segments_are = λ t.
        ap (λ (k : FrameTable). kept_at k.by_title (title_text t)) same ∙ at.segments_are t
        ∙ ap (λ gs. option_map (λ g. g.1) (first_titled segment_title ms t gs)) (sym (unpicked segment_framed items x e));
    groups_are = λ t. table t ∙ ap (λ gs. option_map (λ g. g.1) (first_titled group_title ms t gs)) (sym (picked group_given items x y f));
  }
