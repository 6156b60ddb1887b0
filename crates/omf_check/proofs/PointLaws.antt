-- The offsets kept for names are right.
use Rattle.std.proofs.Common.{◌≡◌, ℕ, zero, suc, ◌+◌, ◌/◌, ◌%◌, ◌<◌, List, [], ◌∷◌, ◌++◌, refl, sym, ◌∙◌, ap, subst, arith, append_assoc, length, map, length-append, true}
use Rattle.std.specs.Prelude.{⊤, Option, Some, None, slice_get}
use Rattle.std.proofs.lemmas.List.{append-nil}
use Rattle.omf_frame.specs.Bytes.{last}
use Rattle.omf_frame.specs.Framing.{Raw, raw_bytes}
use Rattle.omf_records.specs.Entries.{external, communal}
use Rattle.omf_records.specs.Layout.{Layout, SpellsEach, name}
use Rattle.omf_records.specs.Inner.Reading.{typed}
use Rattle.omf_records.specs.Values.{At, Rec, Contents, Header, Names, Group, GroupItem, Externs, Communals, Plain, ModEnd}
use Rattle.omf_records.proofs.LaidOut.{IsLaidOut, laid-out}
use Rattle.omf_check.specs.Inner.Kept.{Kept, with_record, with_contents, starts}
use Rattle.omf_check.specs.Inner.Points.{NameAt, GroupAt, RecordAt, AllAt, IsItemAt, PointsTo}
use Rattle.omf_check.specs.Listed.{IsReadable}
use Rattle.omf_check.specs.Sound.{is_module_end}
use Rattle.omf_check.specs.Tables.{defined_names, defined_groups, defined_externals, items_in}
use Rattle.omf_check.specs.Tables.{names as all_names, groups as all_groups, externals as all_externals}
use Rattle.omf_check.proofs.KeptLaws.{flat_more, last_end}

-- Places of items: weakened, concatenated, and looked up.
all_by : {A : Type 0} (P Q : ℕ → A → Type 0) → ((p : ℕ) (x : A) → P p x → Q p x) → (ps : List ℕ) (xs : List A) → AllAt P ps xs → AllAt Q ps xs
all_by P Q f [] [] h = tt
all_by P Q f (p ∷ ps) (x ∷ xs) h = (f p x h.0, all_by P Q f ps xs h.1)
all_by P Q f [] (x ∷ xs) h = h
all_by P Q f (p ∷ ps) [] h = h

all_join : {A : Type 0} (P : ℕ → A → Type 0) (ps qs : List ℕ) (xs ys : List A) → AllAt P ps xs → AllAt P qs ys → AllAt P (ps ++ qs) (xs ++ ys)
all_join P [] qs [] ys h k = k
all_join P (p ∷ ps) qs (x ∷ xs) ys h k = (h.0, all_join P ps qs xs ys h.1 k)
all_join P [] qs (x ∷ xs) ys h k = absurd h
all_join P (p ∷ ps) qs [] ys h k = absurd h

pub item_at : {A : Type 0} (P : ℕ → A → Type 0) (ps : List ℕ) (xs : List A) (i : ℕ) → AllAt P ps xs → IsItemAt P (slice_get ps i) (slice_get xs i)
item_at P [] [] i h = tt
item_at P (p ∷ ps) (x ∷ xs) zero h = h.0
item_at P (p ∷ ps) (x ∷ xs) (suc i) h = item_at P ps xs i h.1
item_at P [] (x ∷ xs) i h = absurd h
item_at P (p ∷ ps) [] i h = absurd h

-- More bytes after them.
name_more : (bytes more : List ℕ) (p : ℕ) (n : List ℕ) → NameAt bytes p n → NameAt (bytes ++ more) p n
name_more bytes more p n h = record {
  front = h.front;
  rest = h.rest ++ more;
  spelled = ap (λ x. x ++ more) h.spelled ∙ append_assoc h.front ((length n ∷ n) ++ h.rest) more ∙ ap (λ x. h.front ++ x) (append_assoc (length n ∷ n) h.rest more);
  place = h.place;
  short = h.short;
}

group_more : (bytes more : List ℕ) (p : ℕ) (g : GroupItem) → GroupAt bytes p g → GroupAt (bytes ++ more) p g
group_more bytes more p g h = record {
  front = h.front;
  rest = h.rest ++ more;
  one = h.one;
  spelled = ap (λ x. x ++ more) h.spelled ∙ append_assoc h.front (raw_bytes h.one ++ h.rest) more ∙ ap (λ x. h.front ++ x) (append_assoc (raw_bytes h.one) h.rest more);
  place = h.place;
  readable = h.readable;
  is = h.is;
}

record_more : (bytes more : List ℕ) (p : ℕ) (r : Rec) → RecordAt bytes p r → RecordAt (bytes ++ more) p r
record_more bytes more p r h = record {
  front = h.front;
  rest = h.rest ++ more;
  one = h.one;
  spelled = ap (λ x. x ++ more) h.spelled ∙ append_assoc h.front (raw_bytes h.one ++ h.rest) more ∙ ap (λ x. h.front ++ x) (append_assoc (raw_bytes h.one) h.rest more);
  place = h.place;
  readable = h.readable;
  is = h.is;
}

pub points_more : (bytes more : List ℕ) (kept : Kept) (before : List Rec) → PointsTo bytes kept before → PointsTo (bytes ++ more) kept before
points_more bytes more kept before h = record {
  names = all_by (NameAt bytes) (NameAt (bytes ++ more)) (name_more bytes more) kept.names (all_names before) h.names;
  groups = all_by (GroupAt bytes) (GroupAt (bytes ++ more)) (group_more bytes more) kept.groups (all_groups before) h.groups;
  externals = all_by (NameAt bytes) (NameAt (bytes ++ more)) (name_more bytes more) kept.externals (all_externals before) h.externals;
  end = λ r l is. record_more bytes more kept.end r (h.end r l is);
}

-- Items of contents that begin with a name, in their record.
record ItemAt (at : ℕ) (bytes : List ℕ) (within : ℕ) (n : List ℕ) : Type 0 where
  front : List ℕ
  rest : List ℕ
  spelled : bytes ≡ front ++ ((length n ∷ n) ++ rest)
  place : within ≡ at + length front
  short : length n < 256

abbrev EachAt : {A : Type 0} → ℕ → List ℕ → (A → List ℕ) → List (At A) → Type 0
EachAt at bytes f [] = ⊤
EachAt at bytes f (a ∷ items) = ItemAt at bytes a.within (f a.item) × EachAt at bytes f items

shift_one : (at : ℕ) (front back : List ℕ) (w : ℕ) (n : List ℕ) → ItemAt (at + length front) back w n → ItemAt at (front ++ back) w n
shift_one at front back w n h = record {
  front = front ++ h.front;
  rest = h.rest;
  spelled = ap (λ x. front ++ x) h.spelled ∙ sym (append_assoc front h.front ((length n ∷ n) ++ h.rest));
  place = let e = h.place in let l = length-append front h.front in omega (arith, e, l);
  short = h.short;
}

shift_all : {A : Type 0} (at : ℕ) (front back : List ℕ) (f : A → List ℕ) (items : List (At A)) → EachAt (at + length front) back f items → EachAt at (front ++ back) f items
shift_all at front back f [] h = tt
shift_all at front back f (a ∷ items) h = (shift_one at front back a.within (f a.item) h.0, shift_all at front back f items h.1)

-- what begins with a name
abbrev Begins : {A : Type 0} → Layout A → (A → List ℕ) → Type 0
Begins {A} p f = (at : ℕ) (bytes : List ℕ) (x : A) → p.Spells at bytes x → (rest : List ℕ) × (bytes ≡ (length (f x) ∷ f x) ++ rest) × (length (f x) < 256)

each_at : {A : Type 0} (p : Layout A) (f : A → List ℕ) → Begins p f → (at : ℕ) (bytes : List ℕ) (items : List (At A)) → SpellsEach p at bytes items → EachAt at bytes f items
each_at p f b at bytes [] h = tt
each_at p f b at bytes (a ∷ items) (front, back, e, w, s, others) =
    let g = b at front a.item s in
    let here : ItemAt at (front ++ back) a.within (f a.item) = record {
      front = [];
      rest = g.0 ++ back;
      spelled = ap (λ x. x ++ back) g.1 ∙ append_assoc (length (f a.item) ∷ f a.item) g.0 back;
      place = w ∙ zero_more at;
      short = g.2;
    } in
    let there : EachAt at (front ++ back) f items = shift_all at front back f items (each_at p f b (at + length front) back items others) in
    (subst (λ x. ItemAt at x a.within (f a.item)) (sym e) here, subst (λ x. EachAt at x f items) (sym e) there)
  where
    zero_more : (n : ℕ) → n ≡ n + 0
    zero_more n = omega arith

begins_name : Begins name (λ n. n)
begins_name at bytes x (low, e) = ([], e ∙ sym (append-nil (length x ∷ x)), low)

begins_external : Begins external (λ e. e.name)
begins_external at bytes x (f1, b1, n, p1, (low, s1), (f2, b2, i, p2, s2, (none, e))) =
    let same : n ≡ x.name = sym (ap (λ z. z.name) e) in
    (b1, p1 ∙ ap (λ y. y ++ b1) s1 ∙ ap (λ y. (length y ∷ y) ++ b1) same, subst (λ y. length y < 256) same low)

begins_communal : Begins communal (λ c. c.name)
begins_communal at bytes x (f1, b1, n, p1, (low, s1), (f2, b2, i, p2, s2, (f3, b3, z, p3, s3, (none, e)))) =
    let same : n ≡ x.name = sym (ap (λ z. z.name) e) in
    (b1, p1 ∙ ap (λ y. y ++ b1) s1 ∙ ap (λ y. (length y ∷ y) ++ b1) same, subst (λ y. length y < 256) same low)

-- contents
abbrev AreNamed : ℕ → List ℕ → Contents → Type 0
AreNamed at bytes (Names items) = EachAt at bytes (λ n. n) items
AreNamed at bytes (Externs items) = EachAt at bytes (λ e. e.name) items
AreNamed at bytes (Communals items) = EachAt at bytes (λ c. c.name) items
AreNamed at bytes _ = ⊤

laid_named : (kind at : ℕ) (bytes : List ℕ) (c : Contents) → IsLaidOut kind at bytes c → AreNamed at bytes c
laid_named kind at bytes (Names items) h = each_at name (λ n. n) begins_name at bytes items h
laid_named kind at bytes (Externs items) h = each_at external (λ e. e.name) begins_external at bytes items h
laid_named kind at bytes (Communals items) h = each_at communal (λ c. c.name) begins_communal at bytes items h
laid_named kind at bytes (Header n) h = tt
laid_named kind at bytes _ h = tt

-- A record's names in the module, after `before` bytes.
module _ (before : List ℕ) (r : Raw) (start : ℕ) (e : start ≡ length before) where
  in_module : (w : ℕ) (n : List ℕ) → ItemAt 3 r.body w n → NameAt (before ++ raw_bytes r) (start + w) n
  in_module w n h =
      let head : List ℕ = r.kind ∷ (length r.body + 1) % 256 ∷ (length r.body + 1) / 256 ∷ h.front in
      let tail : List ℕ = h.rest ++ r.checksum ∷ [] in
      let body : r.body ++ r.checksum ∷ [] ≡ h.front ++ ((length n ∷ n) ++ tail)
      = ap (λ x. x ++ r.checksum ∷ []) h.spelled ∙ append_assoc h.front ((length n ∷ n) ++ h.rest) (r.checksum ∷ []) ∙ ap (λ x. h.front ++ x) (append_assoc (length n ∷ n) h.rest (r.checksum ∷ [])) in
      record {
        front = before ++ head;
        rest = tail;
        spelled = ap (λ x. before ++ (r.kind ∷ (length r.body + 1) % 256 ∷ (length r.body + 1) / 256 ∷ x)) body ∙ sym (append_assoc before head ((length n ∷ n) ++ tail));
        place = at (start + w) (length before) start w (length h.front) (length (before ++ head)) refl e h.place (length-append before head);
        short = h.short;
      }
    where
      at : (whole b s w f l : ℕ) → whole ≡ s + w → s ≡ b → w ≡ 3 + f → l ≡ b + suc (suc (suc f)) → whole ≡ l
      at whole b s w f l h k m n = omega (arith, h, k, m, n)

  all_in_module : {A : Type 0} (f : A → List ℕ) (items : List (At A)) → EachAt 3 r.body f items → AllAt (NameAt (before ++ raw_bytes r)) (starts start items) (map (λ a. f a.item) items)
  all_in_module f [] h = tt
  all_in_module f (a ∷ items) h = (in_module a.within (f a.item) h.0, all_in_module f items h.1)

  abbrev whole : List ℕ
  whole = before ++ raw_bytes r

  by_names : (kept : Kept) (kind : ℕ) (c : Contents) (old : List (List ℕ)) → AreNamed 3 r.body c → AllAt (NameAt whole) kept.names old → AllAt (NameAt whole) (with_contents kept start kind c).names (old ++ defined_names c)
  by_names kept kind (Names items) old h k = all_join (NameAt whole) kept.names (starts start items) old (map (λ a. a.item) items) k (all_in_module (λ n. n) items h)
  by_names kept kind (Header n) old h k = subst (λ x. AllAt (NameAt whole) kept.names x) (sym (append-nil old)) k
  by_names kept kind _ old h k = subst (λ x. AllAt (NameAt whole) kept.names x) (sym (append-nil old)) k

  by_externals : (kept : Kept) (kind : ℕ) (c : Contents) (old : List (List ℕ)) → AreNamed 3 r.body c → AllAt (NameAt whole) kept.externals old → AllAt (NameAt whole) (with_contents kept start kind c).externals (old ++ defined_externals c)
  by_externals kept kind (Externs items) old h k = all_join (NameAt whole) kept.externals (starts start items) old (map (λ a. a.item.name) items) k (all_in_module (λ x. x.name) items h)
  by_externals kept kind (Communals items) old h k = all_join (NameAt whole) kept.externals (starts start items) old (map (λ a. a.item.name) items) k (all_in_module (λ x. x.name) items h)
  by_externals kept kind (Header n) old h k = subst (λ x. AllAt (NameAt whole) kept.externals x) (sym (append-nil old)) k
  by_externals kept kind _ old h k = subst (λ x. AllAt (NameAt whole) kept.externals x) (sym (append-nil old)) k

  by_groups : (kept : Kept) (kind : ℕ) (c : Contents) (old : List GroupItem) → IsReadable r → (typed r).contents ≡ c → AllAt (GroupAt whole) kept.groups old → AllAt (GroupAt whole) (with_contents kept start kind c).groups (old ++ defined_groups c)
  by_groups kept kind (Group g) old h s k =
      all_join (GroupAt whole) kept.groups (start ∷ []) old (g ∷ []) k
      (record { front = before; rest = []; one = r; spelled = ap (λ x. before ++ x) (sym (append-nil (raw_bytes r))); place = e; readable = h; is = s }, tt)
  by_groups kept kind (Header n) old h s k = subst (λ x. AllAt (GroupAt whole) kept.groups x) (sym (append-nil old)) k
  by_groups kept kind _ old h s k = subst (λ x. AllAt (GroupAt whole) kept.groups x) (sym (append-nil old)) k

  by_end : (kept : Kept) (kind : ℕ) (c : Contents) → is_module_end c ≡ true → (with_contents kept start kind c).end ≡ start
  by_end kept kind (ModEnd t s) is = refl
  by_end kept kind (Plain d) is = absurd cc
  by_end kept kind _ is = absurd cc

  at_end : (kept : Kept) (recs : List Rec) (x : Rec) → IsReadable r → last (recs ++ typed r ∷ []) ≡ Some x → is_module_end x.contents ≡ true → RecordAt whole (with_record kept start (typed r)).end x
  at_end kept recs x readable l is =
      let same : typed r ≡ x = some_same (typed r) x (sym (last_end None recs (typed r)) ∙ l) in
      let c : Contents = (typed r).contents in
      let there : (with_record kept start (typed r)).end ≡ start = by_end (record kept { items = kept.items + items_in c }) r.kind c (subst (λ y. is_module_end y.contents ≡ true) (sym same) is) in
      subst (λ p. RecordAt whole p x) (sym there)
      (record { front = before; rest = []; one = r; spelled = ap (λ y. before ++ y) (sym (append-nil (raw_bytes r))); place = e; readable = readable; is = same })
    where
      some_same : (x y : Rec) → ◌≡◌ {A = Option Rec} (Some x) (Some y) → x ≡ y
      some_same x y h = cc

  pub points_on : (kept : Kept) (recs : List Rec) → IsReadable r → PointsTo before kept recs → PointsTo (before ++ raw_bytes r) (with_record kept start (typed r)) (recs ++ typed r ∷ [])
  points_on kept recs is h =
      let c : Contents = (typed r).contents in
      let named : AreNamed 3 r.body c = laid_named r.kind 3 r.body c (laid-out r.kind 3 r.body c is.typed) in
      let more : PointsTo whole kept recs = points_more before (raw_bytes r) kept recs h in
      record {
        names = subst (λ x. AllAt (NameAt whole) (with_record kept start (typed r)).names x) (sym (flat_more (λ x. defined_names x.contents) recs (typed r)))
            (by_names (record kept { items = kept.items + items_in c }) r.kind c (all_names recs) named more.names);
        groups = subst (λ x. AllAt (GroupAt whole) (with_record kept start (typed r)).groups x) (sym (flat_more (λ x. defined_groups x.contents) recs (typed r)))
            (by_groups (record kept { items = kept.items + items_in c }) r.kind c (all_groups recs) is refl more.groups);
        externals = subst (λ x. AllAt (NameAt whole) (with_record kept start (typed r)).externals x) (sym (flat_more (λ x. defined_externals x.contents) recs (typed r)))
            (by_externals (record kept { items = kept.items + items_in c }) r.kind c (all_externals recs) named more.externals);
        end = λ x l m. at_end kept recs x is l m;
      }
