-- The SEGDEFs and PUBDEFs that are written anew where segments are left out: their contents encode what is written, and are no longer than before.
use Rattle.std.proofs.Common.{◌≡◌, ℕ, ◌+◌, ◌*◌, ◌%◌, ◌<◌, ◌≤◌, Bool, true, false, List, [], ◌∷◌, ◌++◌, length, map, flat_map, Option, Some, None, refl, sym, ap, ap₂, subst, ◌∙◌, arith, append-nil, length-append}
use Rattle.std.specs.Prelude.{⊤, ◌==◌, ◌||◌, not, nat_lt}
use Rattle.byteorder.specs.Endian.{little_bytes}
use Rattle.omf_frame.specs.Fields.{IsIndex, IsLittle, index_bytes, name_bytes}
use Rattle.omf_frame.specs.Inner.FieldLaws.{little_fits, little_spelled}
use Rattle.omf_frame.specs.Types.{type_of}
use Rattle.omf_frame.specs.declared.fault.Reason.TheVariants as reason
use Rattle.omf_frame.specs.declared.kinds.RecordType.{RecordType}
use Rattle.omf_frame.specs.declared.kinds.RecordType.TheVariants.{Theadr, Lheadr, Coment, Lnames, Llnames, Segdef, Grpdef, Extdef, Lextdef, Pubdef, Lpubdef, Comdef, Lcomdef, Ledata, Lidata, Fixupp, Modend, Typdef, Linnum, Linsym, Alias, Vernum, Bakpat, Cextdef, Comdat, Nbkpat, Vendext, Library}
use Rattle.omf_records.specs.Entries.{public_item, unless}
use Rattle.omf_records.specs.Inner.Names.{communals, externs, fixups, names}
use Rattle.omf_records.specs.Layout.{Layout, SpellsEach, called, index, le, when, with_place}
use Rattle.omf_records.specs.Records.{absolute, carried, comment, contents, data_item, group, header, layout_if, layout_of, mod_end, publics, segment}
use Rattle.omf_records.specs.Shortest.{contents_bytes, datum_bytes, option_bytes, public_bytes}
use Rattle.omf_records.specs.Values.{At, Contents, Iterated, Plain, PublicItem, PublicItems, Publics, Segment, SegmentItem, alignment, combination, contents_alone, is_big, is_wide, nowhere, unplaced, width}
use Rattle.omf_records.proofs.Shorter.{plain_index, plain_le, plain_name, plain_when, recast_index}
use Rattle.omf_trimming.specs.Without.{at_start, emptied, left_field, started}
use Rattle.omf_trimming.specs.declared.without.LeftPublics.{LeftPublics}
use Rattle.omf_trimming.specs.declared.without.LeftPublics.TheVariants.{AtStart, Gone, Nameless}

pub record NewSegment (l : LeftPublics) (p : Layout Contents) (kind : ℕ) (body : List ℕ) (s : SegmentItem) : Type 0 where
  pub value : SegmentItem
  pub spelled : p.Spells 3 (contents_bytes kind (Segment (emptied l s))) (Segment value)
  pub name : value.name.item ≡ left_field l s.name.item
  pub class : value.class.item ≡ left_field l s.class.item
  pub same : contents_alone (Segment value) ≡ contents_alone (Segment (emptied l s))
  pub short : length (contents_bytes kind (Segment (emptied l s))) ≤ length body

pub record NewPublics (p : Layout Contents) (kind : ℕ) (body : List ℕ) (q : PublicItems) : Type 0 where
  pub value : PublicItems
  pub spelled : p.Spells 3 (contents_bytes kind (Publics (started q))) (Publics value)
  pub group : value.group.item ≡ q.group.item
  pub segment : value.segment.item ≡ q.segment.item
  pub same : contents_alone (Publics value) ≡ contents_alone (Publics (started q))
  pub short : length (contents_bytes kind (Publics (started q))) ≤ length body

abbrev pub IsAnew : LeftPublics → Layout Contents → ℕ → List ℕ → Contents → Type 0
IsAnew l p kind body (Segment s) = NewSegment l p kind body s
IsAnew l p kind body (Publics q) = NewPublics p kind body q
IsAnew l p kind body _ = ⊤

item_same : (s t : At ℕ) → unplaced s ≡ unplaced t → s.item ≡ t.item
item_same s t e = ap (λ (a : At ℕ). a.item) e

segment-same : (e o : ℕ) (n m c d : At ℕ) → unplaced n ≡ unplaced m → unplaced c ≡ unplaced d
    → contents_alone (Segment (record { attribute = e; absolute = None; size = 0; name = n; class = c; overlay = o })) ≡ contents_alone (Segment (record { attribute = e; absolute = None; size = 0; name = m; class = d; overlay = o }))
segment-same e o n m c d h k = ap₂ (λ (x y : At ℕ). Segment (record { attribute = e; absolute = None; size = 0; name = x; class = y; overlay = o })) h k

publics-same : (f : Option ℕ) (g h s t : At ℕ) (xs ys : List (At PublicItem)) → unplaced g ≡ unplaced h → unplaced s ≡ unplaced t → map unplaced xs ≡ map unplaced ys
    → contents_alone (Publics (record { group = g; segment = s; frame = f; items = xs })) ≡ contents_alone (Publics (record { group = h; segment = t; frame = f; items = ys }))
publics-same f g h s t xs ys e k l =
    ap₂ (λ (x y : At ℕ). Publics (record { group = x; segment = y; frame = f; items = map unplaced xs })) e k
    ∙ ap (λ (zs : List (At PublicItem)). Publics (record { group = unplaced h; segment = unplaced t; frame = f; items = zs })) l

-- ---- lengths

longer : (body front back a b : List ℕ) → body ≡ front ++ back → length a ≤ length front → length b ≤ length back → length (a ++ b) ≤ length body
longer body front back a b e h k = omega (arith, h, k, length-append a b, length-append front back, ap (λ (xs : List ℕ). length xs) e)

last-fits : (body front back a : List ℕ) → body ≡ front ++ back → length a ≤ length front → length a ≤ length body
last-fits body front back a e h = omega (arith, h, length-append front back, ap (λ (xs : List ℕ). length xs) e)

-- ---- a SEGDEF

low-of : (c l : ℕ) → c < 8 → l < 2 → 0x20 + c * 4 + l < 256
low-of c l h k = omega (arith, h, k)

aligned-of : (c l : ℕ) → c < 8 → l < 2 → alignment (0x20 + c * 4 + l) ≡ 1
aligned-of c l h k = omega (arith, h, k)

small-combination : (a : ℕ) → combination a < 8
small-combination a = omega arith

small-width : (a : ℕ) → a % 2 < 2
small-width a = omega arith

no-big : (b : Bool) → unless (not b || (0 == 0)) reason.BigLength ≡ []
no-big true = refl
no-big false = refl

zero-spelled : (k z : ℕ) (a : List ℕ) → IsLittle k z a → IsLittle k 0 (little_bytes k 0)
zero-spelled k z a h = let f = little_fits k z a h in little_spelled k 0 (omega (arith, f))

zero-fits : (k z : ℕ) (a : List ℕ) → IsLittle k z a → length (little_bytes k 0) ≤ length a
zero-fits k z a h = let n = zero-spelled k z a h in let x = n.count in let y = h.count in omega (arith, x, y)

-- The index of a name, and an index with its place: as it was, or 0.
small-left : (l : LeftPublics) (c : ℕ) → c < 8 → left_field l c < 8
small-left Nameless c h = omega arith
small-left Gone c h = h
small-left AtStart c h = h

some-index : (n : ℕ) (body : List ℕ) → IsIndex n body → 1 ≤ length body
some-index n [] h = absurd h
some-index n (a ∷ body) h = omega arith

left-index : (l : LeftPublics) (at there : ℕ) (body : List ℕ) (n : ℕ) → index.Spells at body n
    → index.Spells there (index_bytes (left_field l n)) (left_field l n) × (length (index_bytes (left_field l n)) ≤ length body)
left-index Nameless at there body n h = ((omega arith, refl), some-index n body h)
left-index Gone at there body n h = let q = plain_index at there body n h in (q.0, q.1.count)
left-index AtStart at there body n h = let q = plain_index at there body n h in (q.0, q.1.count)

abbrev left-at : LeftPublics → At ℕ → At ℕ
left-at l n = record n { item = left_field l n.item }

record NewIndex (l : LeftPublics) (there : ℕ) (body : List ℕ) (n : At ℕ) : Type 0 where
  value : At ℕ
  spelled : (with_place index).Spells there (datum_bytes (left-at l n)) value
  named : value.item ≡ left_field l n.item
  same : unplaced value ≡ unplaced (left-at l n)
  short : length (datum_bytes (left-at l n)) ≤ length body

new-index : (l : LeftPublics) (at there : ℕ) (body : List ℕ) (n : At ℕ) → (with_place index).Spells at body n → NewIndex l there body n
new-index l at there body n (w, sp) =
    let q = left-index l at there body n.item sp in
    record { value = record { within = there; item = left_field l n.item }; spelled = (refl, q.0); named = refl; same = refl; short = q.1 }

new-segment : (l : LeftPublics) (kind at : ℕ) (body : List ℕ) (c : Contents) → (segment (is_wide kind)).Spells at body c → IsAnew l (segment (is_wide kind)) kind body c
new-segment l kind at body c (f1, b1, a, p1, (s1, none1), (f2, b2, ab, p2, s2, (f3, b3, z, p3, (s3, none3), (f4, b4, n, p4, s4, (f5, b5, k, p5, s5, (f6, b6, o, p6, s6, (none, is))))))) =
    let d = left_field l (combination a) in
    let low = small-left l (combination a) (small-combination a) in
    let e = 0x20 + d * 4 + a % 2 in
    let Z = little_bytes (width kind) 0 in
    let N = datum_bytes (left-at l n) in
    let K = datum_bytes (left-at l k) in
    let O = index_bytes (left_field l o) in
    let t4 = 4 + length Z in
    let t5 = t4 + length N in
    let t6 = t5 + length K in
    let qn = new-index l (at + length f1 + length f2 + length f3) t4 f4 n s4 in
    let qk = new-index l (at + length f1 + length f2 + length f3 + length f4) t5 f5 k s5 in
    let qo = left-index l (at + length f1 + length f2 + length f3 + length f4 + length f5) t6 f6 o s6 in
    let al : alignment e ≡ 1 = aligned-of d (a % 2) low (small-width a) in
    let first : 1 ≤ length f1 = one-byte f1 a s1.1 in
    rw is (record {
      value = record { attribute = e; absolute = None; size = 0; name = qn.value; class = qk.value; overlay = left_field l o };
      spelled = (
        e ∷ [],
        Z ++ (N ++ (K ++ O)),
        e,
        refl,
        ((low-of d (a % 2) low (small-width a), refl), ap (λ (x : ℕ). unless (nat_lt x 6) reason.Alignment) al),
        (
          [],
          Z ++ (N ++ (K ++ O)),
          None,
          refl,
          subst (λ (x : ℕ). (when (x == 0) absolute).Spells 4 [] None) (sym al) (refl, refl),
          (
            Z,
            N ++ (K ++ O),
            0,
            refl,
            (zero-spelled (width kind) z f3 s3, no-big (is_big e)),
            (
              N,
              K ++ O,
              qn.value,
              refl,
              qn.spelled,
              (
                K,
                O,
                qk.value,
                refl,
                qk.spelled,
                (O, [], left_field l o, sym (append-nil O), qo.0, (refl, refl)),
              ),
            ),
          ),
        ),
      );
      name = qn.named;
      class = qk.named;
      same = segment-same e (left_field l o) qn.value (left-at l n) qk.value (left-at l k) qn.same qk.same;
      short = longer body f1 b1 (e ∷ []) (Z ++ (N ++ (K ++ O))) p1 first
          (longer b1 f2 b2 [] (Z ++ (N ++ (K ++ O))) p2 (omega arith)
          (longer b2 f3 b3 Z (N ++ (K ++ O)) p3 (zero-fits (width kind) z f3 s3)
          (longer b3 f4 b4 N (K ++ O) p4 qn.short
          (longer b4 f5 b5 K O p5 qk.short (last-fits b5 f6 b6 O p6 qo.1)))));
    })
  where
    one-byte : (f : List ℕ) (a : ℕ) → f ≡ a ∷ [] → 1 ≤ length f
    one-byte f a e = let n = ap (λ (xs : List ℕ). length xs) e in omega (arith, n)

-- ---- a PUBDEF

abbrev new_bytes : ℕ → List (At PublicItem) → List ℕ
new_bytes kind ps = flat_map (λ q. public_bytes kind q.item) (map at_start ps)

record NewItems (kind there : ℕ) (body : List ℕ) (ps : List (At PublicItem)) : Type 0 where
  value : List (At PublicItem)
  spelled : SpellsEach (public_item (is_wide kind)) there (new_bytes kind ps) value
  same : map unplaced value ≡ map unplaced (map at_start ps)
  short : length (new_bytes kind ps) ≤ length body

abbrev moved : PublicItem → PublicItem
moved p = record p { offset = 0 }

new-item : (kind at there : ℕ) (body : List ℕ) (p : PublicItem) → (public_item (is_wide kind)).Spells at body p
    → (public_item (is_wide kind)).Spells there (public_bytes kind (moved p)) (moved p) × (length (public_bytes kind (moved p)) ≤ length body)
new-item kind at there body p (f1, b1, n, p1, s1, (f2, b2, o, p2, s2, (f3, b3, t, p3, s3, (none, is)))) =
    let N = name_bytes n in
    let O = little_bytes (width kind) 0 in
    let T = index_bytes t in
    let a = plain_name at there f1 n s1 in
    let c = plain_index (at + length f1 + length f2) (there + length N + length O) f3 t s3 in
    rw is (
      (N, O ++ T, n, refl, a.0, (O, T, 0, refl, zero-spelled (width kind) o f2 s2, (T, [], t, sym (append-nil T), c.0, (refl, refl)))),
      longer body f1 b1 N (O ++ T) p1 a.1.count (longer b1 f2 b2 O T p2 (zero-fits (width kind) o f2 s2) (last-fits b2 f3 b3 T p3 c.1.count)),
    )

new-items : (kind at there : ℕ) (body : List ℕ) (ps : List (At PublicItem)) → SpellsEach (public_item (is_wide kind)) at body ps → NewItems kind there body ps
new-items kind at there body [] none = record { value = []; spelled = refl; same = refl; short = omega arith }
new-items kind at there body (x ∷ xs) (front, back, parts, w, sp, more) =
    let B = public_bytes kind (moved x.item) in
    let q = new-item kind at there front x.item sp in
    let t = new-items kind (at + length front) (there + length B) back xs more in
    record {
      value = record { within = there; item = moved x.item } ∷ t.value;
      spelled = (B, new_bytes kind xs, refl, refl, q.0, t.spelled);
      same = ap (λ (zs : List (At PublicItem)). nowhere (moved x.item) ∷ zs) t.same;
      short = longer body front back B (new_bytes kind xs) parts q.1 t.short;
    }

new-publics : (l : LeftPublics) (kind at : ℕ) (body : List ℕ) (c : Contents) → (publics (is_wide kind)).Spells at body c → IsAnew l (publics (is_wide kind)) kind body c
new-publics l kind at body c (f1, b1, g, p1, s1, (f2, b2, s, p2, s2, (f3, b3, f, p3, s3, (ps, sp, is)))) =
    let G = datum_bytes g in
    let S = datum_bytes s in
    let F = option_bytes (little_bytes 2) f in
    let P = new_bytes kind ps in
    let t2 = 3 + length G in
    let t3 = t2 + length S in
    let t4 = t3 + length F in
    let qg = recast_index at 3 f1 g s1 in
    let qs = recast_index (at + length f1) t2 f2 s s2 in
    let qf = plain_when (s.item == 0) (le 2) (little_bytes 2) (plain_le 2) (at + length f1 + length f2) t3 f3 f s3 in
    let there_frame = subst (λ (i : ℕ). (when (i == 0) (le 2)).Spells t3 F f) (sym (item_same qs.value s qs.same)) qf.0 in
    let qp = new-items kind (at + length f1 + length f2 + length f3) t4 b3 ps sp in
    rw is (record {
      value = record { group = qg.value; segment = qs.value; frame = f; items = qp.value };
      spelled = (G, S ++ (F ++ P), qg.value, refl, qg.spelled, (S, F ++ P, qs.value, refl, qs.spelled, (F, P, f, refl, there_frame, (qp.value, qp.spelled, refl))));
      group = item_same qg.value g qg.same;
      segment = item_same qs.value s qs.same;
      same = publics-same f qg.value g qs.value s qp.value (map at_start ps) qg.same qs.same qp.same;
      short = longer body f1 b1 G (S ++ (F ++ P)) p1 qg.shorter.count (longer b1 f2 b2 S (F ++ P) p2 qs.shorter.count (longer b2 f3 b3 F P p3 qf.1.count qp.short));
    })

-- ---- by the type

module _ (l : LeftPublics) (kind : ℕ) where
  abbrev Makes : Layout Contents → Type 0
  Makes p = (at : ℕ) (body : List ℕ) (c : Contents) → p.Spells at body c → IsAnew l p kind body c

  by : (p : Layout Contents) (body : List ℕ) (c d : Contents) → c ≡ d → IsAnew l p kind body d → IsAnew l p kind body c
  by p body c d e h = subst (IsAnew l p kind body) (sym e) h

  of-header : Makes header
  of-header at body c (f, b, x, p, s, (none, e)) = by header body c _ e tt

  of-comment : Makes comment
  of-comment at body c (f, b, x, p, s, (g, d, y, q, t, (z, u, e))) = by comment body c _ e tt

  of-names : Makes names
  of-names at body c (x, s, e) = by names body c _ e tt

  of-group : Makes group
  of-group at body c (f, b, x, p, s, (y, t, e)) = by group body c _ e tt

  of-externs : Makes externs
  of-externs at body c (x, s, e) = by externs body c _ e tt

  of-communals : Makes communals
  of-communals at body c (x, s, e) = by communals body c _ e tt

  of-plain : Makes (called (data_item (is_wide kind)) Plain)
  of-plain at body c (d, s, e) = by (called (data_item (is_wide kind)) Plain) body c _ e tt

  of-iterated : Makes (called (data_item (is_wide kind)) Iterated)
  of-iterated at body c (d, s, e) = by (called (data_item (is_wide kind)) Iterated) body c _ e tt

  of-fixups : Makes (fixups (is_wide kind))
  of-fixups at body c (x, s, e) = by (fixups (is_wide kind)) body c _ e tt

  of-end : Makes (mod_end (is_wide kind))
  of-end at body c (f1, b1, x1, p1, s1, (f2, b2, x2, p2, s2, (none, e))) = by (mod_end (is_wide kind)) body c _ e tt

  of-carried : Makes carried
  of-carried at body c (x, s, e) = by carried body c _ e tt

  by-type : (t : RecordType) → Makes (layout_of t (is_wide kind))
  by-type Theadr = of-header
  by-type Lheadr = of-header
  by-type Coment = of-comment
  by-type Lnames = of-names
  by-type Llnames = of-names
  by-type Segdef = new-segment l kind
  by-type Grpdef = of-group
  by-type Extdef = of-externs
  by-type Lextdef = of-externs
  by-type Pubdef = new-publics l kind
  by-type Lpubdef = new-publics l kind
  by-type Comdef = of-communals
  by-type Lcomdef = of-communals
  by-type Ledata = of-plain
  by-type Lidata = of-iterated
  by-type Fixupp = of-fixups
  by-type Modend = of-end
  by-type Typdef = of-carried
  by-type Linnum = of-carried
  by-type Linsym = of-carried
  by-type Alias = of-carried
  by-type Vernum = of-carried
  by-type Bakpat = of-carried
  by-type Cextdef = of-carried
  by-type Comdat = of-carried
  by-type Nbkpat = of-carried
  by-type Vendext = of-carried
  by-type Library = of-carried

  by-option : (o : Option RecordType) → Makes (layout_if o (is_wide kind))
  by-option (Some t) = by-type t
  by-option None = of-carried

  pub anew : (body : List ℕ) (c : Contents) → (contents kind).Spells 3 body c → IsAnew l (contents kind) kind body c
  anew = by-option (type_of kind) 3
