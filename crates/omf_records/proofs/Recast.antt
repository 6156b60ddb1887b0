-- The shortest contents of each typed record are contents of that record.
use Rattle.std.proofs.Common.{◌≡◌, ℕ, ◌+◌, ◌/◌, ◌%◌, ◌⊎◌, inl, inr, Bool, true, false, cond, List, [], ◌∷◌, ◌++◌, length, map, flat_map, Option, Some, None, refl, sym, ap, subst, ◌∙◌, arith}
use Rattle.std.specs.Prelude.{option_map, ◌==◌, not, nat_lt}
use Rattle.std.proofs.lemmas.Bool.{eqb-true, lt-ltb, le-ltb, or_cases}
use Rattle.std.proofs.lemmas.List.{append-nil}
use Rattle.byteorder.specs.Endian.{little_bytes}
use Rattle.omf_frame.specs.Bytes.{is_one_of}
use Rattle.omf_frame.specs.Types.{type_of}
use Rattle.omf_frame.specs.declared.kinds.RecordType.{RecordType}
use Rattle.omf_frame.specs.declared.kinds.RecordType.TheVariants.{Theadr, Lheadr, Coment, Lnames, Llnames, Segdef, Grpdef, Extdef, Lextdef, Pubdef, Lpubdef, Comdef, Lcomdef, Ledata, Lidata, Fixupp, Modend, Typdef, Linnum, Linsym, Alias, Vernum, Bakpat, Cextdef, Comdat, Nbkpat, Vendext, Library}
use Rattle.omf_frame.specs.Fields.{index_bytes, name_bytes, communal_length_bytes}
use Rattle.omf_frame.specs.declared.fault.Reason.{Reason}
use Rattle.omf_frame.specs.declared.fault.Reason.TheVariants as reason
use Rattle.omf_records.specs.Inner.Names.{fixup, thread, near_size, wrong_component, wrong_data_type, communals, externs, fixups, names, has_frame_datum, has_target_datum, has_start, has_no_displacement, absolute_bytes}
use Rattle.omf_records.specs.Shortest.{data_bytes, communal_bytes, public_bytes, external_bytes, member_bytes, option_bytes, datum_bytes, size_bytes, reference_bytes, subrecord_bytes, contents_bytes}
use Rattle.omf_records.specs.Values.{At, PublicItem, CommunalSize, Near, Far, DataItem, Thread, Fixup, Contents, Header, Comment, Names, Segment, Group, Externs, Publics, Communals, Plain, Iterated, Fixups, ModEnd, Carried, is_wide, width, alignment, thread_method, nowhere, unplaced, reference_alone, subrecord_alone, contents_alone}
use Rattle.omf_records.specs.Layout.{Layout, many, index, name, le, number_of, with_place, called, choose, when}
use Rattle.omf_records.specs.Entries.{unless, member, external, public_item, far_size, communal_size, communal, reference, subrecord}
use Rattle.omf_records.specs.Records.{header, comment, absolute, segment, group, publics, data_item, mod_end, carried, layout_of, layout_if, contents}
use Rattle.omf_records.proofs.Shorter.{Shorter, shorter_itself, shorter_then, shorter_last, Recasts, Plainly, itself, recast_plainly, plain_byte, plain_name, plain_index, plain_le, plain_length, recast_placed, recast_index, recast_called, recast_when, plain_when, recast_many}

-- a test whose reason is not given holds
not_refused : (b : Bool) (r : Reason) → unless b r ≡ [] → b ≡ true
not_refused true r e = refl
not_refused false r e = absurd cc

-- ---- what records repeat

pub recast_member : Recasts member unplaced member_bytes
recast_member at there body m (front, back, c, parts, (sc, none), sm) =
    let q = recast_index (at + length front) (there + 1) back m sm in
    let one = plain_byte at there front c sc in
    let is : c ≡ 0xFF = component c none in
    record {
      value = q.value;
      spelled = (0xFF ∷ [], datum_bytes m, 0xFF, refl, ((omega arith, refl), refl), q.spelled);
      same = q.same;
      shorter = shorter_then body front back (0xFF ∷ []) (datum_bytes m) parts (subst (λ (b : ℕ). Shorter front (b ∷ [])) is one.1) q.shorter;
    }
  where
    component : (c : ℕ) → wrong_component c ≡ [] → c ≡ 0xFF
    component c e = eqb-true c 0xFF (not_refused (c == 0xFF) reason.GroupComponent e)

pub plain_external : Plainly external external_bytes
plain_external at there body e (f1, b1, n, p1, s1, (f2, b2, t, p2, s2, (none, is))) =
    let a = plain_name at there f1 n s1 in
    let b = plain_index (at + length f1) (there + length (name_bytes n)) f2 t s2 in
    rw is (
      (name_bytes n, index_bytes t, n, refl, a.0, (index_bytes t, [], t, sym (append-nil (index_bytes t)), b.0, (refl, refl))),
      shorter_then body f1 b1 (name_bytes n) (index_bytes t) p1 a.1 (shorter_last b1 f2 b2 (index_bytes t) p2 none b.1),
    )

pub plain_public : (kind : ℕ) → Plainly (public_item (is_wide kind)) (public_bytes kind)
plain_public kind at there body e (f1, b1, n, p1, s1, (f2, b2, o, p2, s2, (f3, b3, t, p3, s3, (none, is)))) =
    let N = name_bytes n in
    let O = little_bytes (width kind) o in
    let T = index_bytes t in
    let a = plain_name at there f1 n s1 in
    let b = plain_le (width kind) (at + length f1) (there + length N) f2 o s2 in
    let c = plain_index (at + length f1 + length f2) (there + length N + length O) f3 t s3 in
    rw is (
      (N, O ++ T, n, refl, a.0, (O, T, o, refl, b.0, (T, [], t, sym (append-nil T), c.0, (refl, refl)))),
      shorter_then body f1 b1 N (O ++ T) p1 a.1 (shorter_then b1 f2 b2 O T p2 b.1 (shorter_last b2 f3 b3 T p3 none c.1)),
    )

-- the bytes of a size behind the data type
abbrev size_tail : CommunalSize → List ℕ
size_tail (Near n) = communal_length_bytes n
size_tail (Far count size) = communal_length_bytes count ++ communal_length_bytes size

data_types : (t : ℕ) → wrong_data_type t ≡ [] → (t ≡ 0x61) ⊎ (t ≡ 0x62)
data_types t e =
    elim (or_cases (0x61 == t) (is_one_of (0x62 ∷ []) t) (not_refused (is_one_of (0x61 ∷ 0x62 ∷ []) t) reason.CommunalType e)) [
      | inl q ↦ inl (sym (eqb-true 0x61 t q))
      | inr q ↦ elim (or_cases (0x62 == t) false q) [ inl z ↦ inr (sym (eqb-true 0x62 t z)) | inr z ↦ absurd cc ]
    ]

plain_near : Plainly near_size (λ s. size_tail s)
plain_near at there body s (n, sp, is) = let q = plain_length at there body n sp in rw is ((n, q.0, refl), q.1)

plain_far : Plainly far_size (λ s. size_tail s)
plain_far at there body s (f1, b1, n, p1, s1, (f2, b2, m, p2, s2, (none, is))) =
    let N = communal_length_bytes n in
    let M = communal_length_bytes m in
    let a = plain_length at there f1 n s1 in
    let b = plain_length (at + length f1) (there + length N) f2 m s2 in
    rw is ((N, M, n, refl, a.0, (M, [], m, sym (append-nil M), b.0, (refl, refl))), shorter_then body f1 b1 N M p1 a.1 (shorter_last b1 f2 b2 M p2 none b.1))

pub plain_size : Plainly communal_size size_bytes
plain_size at there body s (f1, b1, t, p1, (s1, none), s2) = elim (data_types t none) [
  | inl far ↦
      let u : far_size.Spells (at + length f1) b1 s = subst (λ (x : ℕ). (choose (x == 0x62) near_size far_size).Spells (at + length f1) b1 s) far s2 in
      let q = plain_far (at + length f1) (there + 1) b1 s u in
      let front : Shorter f1 (0x61 ∷ []) = subst (λ (x : ℕ). Shorter f1 (x ∷ [])) far (plain_byte at there f1 t s1).1 in
      let is : size_bytes s ≡ 0x61 ∷ size_tail s = far_bytes (at + length f1) b1 s u in
      rw is ((0x61 ∷ [], size_tail s, 0x61, refl, ((omega arith, refl), refl), q.0), shorter_then body f1 b1 (0x61 ∷ []) (size_tail s) p1 front q.1)
  | inr near ↦
      let u : near_size.Spells (at + length f1) b1 s = subst (λ (x : ℕ). (choose (x == 0x62) near_size far_size).Spells (at + length f1) b1 s) near s2 in
      let q = plain_near (at + length f1) (there + 1) b1 s u in
      let front : Shorter f1 (0x62 ∷ []) = subst (λ (x : ℕ). Shorter f1 (x ∷ [])) near (plain_byte at there f1 t s1).1 in
      let is : size_bytes s ≡ 0x62 ∷ size_tail s = near_bytes (at + length f1) b1 s u in
      rw is ((0x62 ∷ [], size_tail s, 0x62, refl, ((omega arith, refl), refl), q.0), shorter_then body f1 b1 (0x62 ∷ []) (size_tail s) p1 front q.1)
]
  where
    far_bytes : (at : ℕ) (body : List ℕ) (s : CommunalSize) → far_size.Spells at body s → size_bytes s ≡ 0x61 ∷ size_tail s
    far_bytes at body s (f1, b1, n, p1, s1, (f2, b2, m, p2, s2, (none, is))) = rw is refl

    near_bytes : (at : ℕ) (body : List ℕ) (s : CommunalSize) → near_size.Spells at body s → size_bytes s ≡ 0x62 ∷ size_tail s
    near_bytes at body s (n, sp, is) = rw is refl

pub plain_communal : Plainly communal communal_bytes
plain_communal at there body e (f1, b1, n, p1, s1, (f2, b2, t, p2, s2, (f3, b3, z, p3, s3, (none, is)))) =
    let N = name_bytes n in
    let T = index_bytes t in
    let Z = size_bytes z in
    let a = plain_name at there f1 n s1 in
    let b = plain_index (at + length f1) (there + length N) f2 t s2 in
    let c = plain_size (at + length f1 + length f2) (there + length N + length T) f3 z s3 in
    rw is (
      (N, T ++ Z, n, refl, a.0, (T, Z, t, refl, b.0, (Z, [], z, sym (append-nil Z), c.0, (refl, refl)))),
      shorter_then body f1 b1 N (T ++ Z) p1 a.1 (shorter_then b1 f2 b2 T Z p2 b.1 (shorter_last b2 f3 b3 Z p3 none c.1)),
    )

-- ---- references and subrecords

pub alone_same : (fix : ℕ) (at there : ℕ) (f g t u : Option (At ℕ)) (d : Option ℕ) → option_map unplaced f ≡ option_map unplaced g → option_map unplaced t ≡ option_map unplaced u
    → reference_alone (record { fix = record { within = there; item = fix }; frame = f; target = t; displacement = d }) ≡ reference_alone (record { fix = record { within = at; item = fix }; frame = g; target = u; displacement = d })
alone_same fix at there f g t u d e h = rw (e, h) refl

pub recast_reference : (kind : ℕ) → Recasts (reference (is_wide kind)) reference_alone (reference_bytes kind)
recast_reference kind at there body r (f1, b1, fix, p1, (w, (s1, none1)), (f2, b2, fr, p2, s2, (f3, b3, tg, p3, s3, (f4, b4, d, p4, s4, (none, is))))) =
    let B = fix.item ∷ [] in
    let F = option_bytes datum_bytes fr in
    let T = option_bytes datum_bytes tg in
    let D = option_bytes (little_bytes (width kind)) d in
    let x = plain_byte at there f1 fix.item s1 in
    let a = recast_when (has_frame_datum fix.item) (with_place index) unplaced datum_bytes recast_index (at + length f1) (there + length B) f2 fr s2 in
    let b = recast_when (has_target_datum fix.item) (with_place index) unplaced datum_bytes recast_index (at + length f1 + length f2) (there + length B + length F) f3 tg s3 in
    let c = plain_when (not (has_no_displacement fix.item)) (number_of (is_wide kind)) (little_bytes (width kind)) (plain_le (width kind)) (at + length f1 + length f2 + length f3) (there + length B + length F + length T) f4 d s4 in
    rw is (record {
      value = record { fix = record { within = there; item = fix.item }; frame = a.value; target = b.value; displacement = d };
      spelled = (B, F ++ (T ++ D), record { within = there; item = fix.item }, refl, (refl, (x.0, none1)), (F, T ++ D, a.value, refl, a.spelled, (T, D, b.value, refl, b.spelled, (D, [], d, sym (append-nil D), c.0, (refl, refl)))));
      same = alone_same fix.item fix.within there a.value fr b.value tg d a.same b.same;
      shorter = shorter_then body f1 b1 B (F ++ (T ++ D)) p1 x.1 (shorter_then b1 f2 b2 F (T ++ D) p2 a.shorter (shorter_then b2 f3 b3 T D p3 b.shorter (shorter_last b3 f4 b4 D p4 none c.1)));
    })

pub recast_subrecord : (kind : ℕ) → Recasts (subrecord (is_wide kind)) subrecord_alone (subrecord_bytes kind)
recast_subrecord kind at there body s (f1, b1, h, p1, (inl (low, is1), none), s2) =
    let t : nat_lt h 128 ≡ true = lt-ltb h 128 low in
    let u = subst (λ (b : Bool). cond b ((thread h).Spells (at + length f1) b1 s) ((fixup (is_wide kind) h).Spells (at + length f1) b1 s)) t s2 in
    let q = recast_when (nat_lt (thread_method h) 3) (with_place index) unplaced datum_bytes recast_index (at + length f1) (there + 1) b1 u.0 u.1 in
    let rest = subst (λ (b : Bool). cond b ((thread h).Spells (there + 1) (option_bytes datum_bytes u.0) (Thread h q.value)) ((fixup (is_wide kind) h).Spells (there + 1) (option_bytes datum_bytes u.0) (Thread h q.value))) (sym t) (q.value, q.spelled, refl) in
    rw u.2 (record {
      value = Thread h q.value;
      spelled = (h ∷ [], option_bytes datum_bytes u.0, h, refl, (inl (low, refl), none), rest);
      same = ap (λ z. Thread h z) q.same;
      shorter = shorter_then body f1 b1 (h ∷ []) (option_bytes datum_bytes u.0) p1 (subst (λ (w : List ℕ). Shorter w (h ∷ [])) (sym is1) (shorter_itself (h ∷ []))) q.shorter;
    })
recast_subrecord kind at there body s (f1, b1, h, p1, (inr (high, low, is1), none), s2) =
    let t : nat_lt h 128 ≡ false = le-ltb h 128 (omega arith) in
    let u = subst (λ (b : Bool). cond b ((thread h).Spells (at + length f1) b1 s) ((fixup (is_wide kind) h).Spells (at + length f1) b1 s)) t s2 in
    let q = recast_reference kind (at + length f1) (there + 2) b1 u.0 u.1 in
    let rest = subst (λ (b : Bool). cond b ((thread h).Spells (there + 2) (reference_bytes kind u.0) (Fixup h q.value)) ((fixup (is_wide kind) h).Spells (there + 2) (reference_bytes kind u.0) (Fixup h q.value))) (sym t) (q.value, q.spelled, refl) in
    rw u.2 (record {
      value = Fixup h q.value;
      spelled = (h / 256 ∷ h % 256 ∷ [], reference_bytes kind u.0, h, refl, (inr (high, low, refl), none), rest);
      same = ap (λ z. Fixup h z) q.same;
      shorter = shorter_then body f1 b1 (h / 256 ∷ h % 256 ∷ []) (reference_bytes kind u.0) p1 (subst (λ (w : List ℕ). Shorter w (h / 256 ∷ h % 256 ∷ [])) (sym is1) (shorter_itself (h / 256 ∷ h % 256 ∷ []))) q.shorter;
    })

-- ---- contents

-- contents by this layout have shortest contents by it
abbrev Shortens : ℕ → Layout Contents → Type 0
Shortens kind p = Recasts p contents_alone (contents_bytes kind)

shortens_header : (kind : ℕ) → Shortens kind header
shortens_header kind at there body c (f1, b1, n, p1, s1, (none, is)) =
    let a = plain_name at there f1 n s1 in
    rw is (record { value = Header n; spelled = (name_bytes n, [], n, sym (append-nil (name_bytes n)), a.0, (refl, refl)); same = refl; shorter = shorter_last body f1 b1 (name_bytes n) p1 none a.1 })

shortens_comment : (kind : ℕ) → Shortens kind comment
shortens_comment kind at there body c (f1, b1, t, p1, s1, (f2, b2, k, p2, s2, (x, sp, is))) =
    let a = plain_byte at there f1 t s1 in
    let b = plain_byte (at + length f1) (there + 1) f2 k s2 in
    let text : Shorter b2 x = subst (λ (w : List ℕ). Shorter b2 w) (sym sp) (shorter_itself b2) in
    rw is (record {
      value = Comment t k x;
      spelled = (t ∷ [], k ∷ x, t, refl, a.0, (k ∷ [], x, k, refl, b.0, (x, refl, refl)));
      same = refl;
      shorter = shorter_then body f1 b1 (t ∷ []) (k ∷ x) p1 a.1 (shorter_then b1 f2 b2 (k ∷ []) x p2 b.1 text);
    })

shortens_names : (kind : ℕ) → Shortens kind names
shortens_names kind = recast_called (many name) Names _ contents_alone _ (contents_bytes kind) (λ x. refl) (λ x y e. ap (λ z. Names z) e) (recast_many name itself name_bytes (recast_plainly name name_bytes plain_name))

plain_absolute : Plainly absolute absolute_bytes
plain_absolute at there body x (f1, b1, f, p1, s1, (f2, b2, o, p2, s2, (none, is))) =
    let F = little_bytes 2 f in
    let a = plain_le 2 at there f1 f s1 in
    let b = plain_byte (at + length f1) (there + length F) f2 o s2 in
    rw is ((F, o ∷ [], f, refl, a.0, (o ∷ [], [], o, refl, b.0, (refl, refl))), shorter_then body f1 b1 F (o ∷ []) p1 a.1 (shorter_last b1 f2 b2 (o ∷ []) p2 none b.1))

segment_same : (a : ℕ) (f : Option (ℕ × ℕ)) (z : ℕ) (n m c d : At ℕ) (o : ℕ) → unplaced n ≡ unplaced m → unplaced c ≡ unplaced d
    → contents_alone (Segment (record { attribute = a; absolute = f; size = z; name = n; class = c; overlay = o })) ≡ contents_alone (Segment (record { attribute = a; absolute = f; size = z; name = m; class = d; overlay = o }))
segment_same a f z n m c d o e h = ap (λ (x : At ℕ). Segment (record { attribute = a; absolute = f; size = z; name = x; class = unplaced c; overlay = o })) e ∙ ap (λ (x : At ℕ). Segment (record { attribute = a; absolute = f; size = z; name = unplaced m; class = x; overlay = o })) h

shortens_segment : (kind : ℕ) → Shortens kind (segment (is_wide kind))
shortens_segment kind at there body c (f1, b1, a, p1, (s1, none1), (f2, b2, ab, p2, s2, (f3, b3, z, p3, (s3, none3), (f4, b4, n, p4, s4, (f5, b5, k, p5, s5, (f6, b6, o, p6, s6, (none, is))))))) =
    let A = a ∷ [] in
    let B = option_bytes absolute_bytes ab in
    let Z = little_bytes (width kind) z in
    let N = datum_bytes n in
    let K = datum_bytes k in
    let O = index_bytes o in
    let t2 = there + length A in
    let t3 = t2 + length B in
    let t4 = t3 + length Z in
    let t5 = t4 + length N in
    let t6 = t5 + length K in
    let qa = plain_byte at there f1 a s1 in
    let qb = plain_when (alignment a == 0) absolute absolute_bytes plain_absolute (at + length f1) t2 f2 ab s2 in
    let qz = plain_le (width kind) (at + length f1 + length f2) t3 f3 z s3 in
    let qn = recast_index (at + length f1 + length f2 + length f3) t4 f4 n s4 in
    let qk = recast_index (at + length f1 + length f2 + length f3 + length f4) t5 f5 k s5 in
    let qo = plain_index (at + length f1 + length f2 + length f3 + length f4 + length f5) t6 f6 o s6 in
    rw is (record {
      value = Segment (record { attribute = a; absolute = ab; size = z; name = qn.value; class = qk.value; overlay = o });
      spelled = (
        A,
        B ++ (Z ++ (N ++ (K ++ O))),
        a,
        refl,
        (qa.0, none1),
        (
          B,
          Z ++ (N ++ (K ++ O)),
          ab,
          refl,
          qb.0,
          (
            Z,
            N ++ (K ++ O),
            z,
            refl,
            (qz.0, none3),
            (
              N,
              K ++ O,
              qn.value,
              refl,
              qn.spelled,
              (
                K,
                O,
                qk.value,
                refl,
                qk.spelled,
                (O, [], o, sym (append-nil O), qo.0, (refl, refl)),
              ),
            ),
          ),
        ),
      );
      same = segment_same a ab z qn.value n qk.value k o qn.same qk.same;
      shorter = shorter_then body f1 b1 A (B ++ (Z ++ (N ++ (K ++ O)))) p1 qa.1
          (shorter_then b1 f2 b2 B (Z ++ (N ++ (K ++ O))) p2 qb.1
          (shorter_then b2 f3 b3 Z (N ++ (K ++ O)) p3 qz.1
          (shorter_then b3 f4 b4 N (K ++ O) p4 qn.shorter
          (shorter_then b4 f5 b5 K O p5 qk.shorter (shorter_last b5 f6 b6 O p6 none qo.1)))));
    })

group_same : (n m : At ℕ) (xs ys : List (At (At ℕ))) → unplaced n ≡ unplaced m → map (λ x. nowhere (unplaced x.item)) xs ≡ map (λ x. nowhere (unplaced x.item)) ys
    → contents_alone (Group (record { name = n; members = xs })) ≡ contents_alone (Group (record { name = m; members = ys }))
group_same n m xs ys e h = ap (λ (x : At ℕ). Group (record { name = x; members = map (λ x. nowhere (unplaced x.item)) xs })) e ∙ ap (λ (x : List (At (At ℕ))). Group (record { name = unplaced m; members = x })) h

shortens_group : (kind : ℕ) → Shortens kind group
shortens_group kind at there body c (f1, b1, n, p1, s1, (ms, sm, is)) =
    let N = datum_bytes n in
    let M = flat_map (λ (m : At (At ℕ)). member_bytes m.item) ms in
    let a = recast_index at there f1 n s1 in
    let b = recast_many member unplaced member_bytes recast_member (at + length f1) (there + length N) b1 ms sm in
    rw is (record {
      value = Group (record { name = a.value; members = b.value });
      spelled = (N, M, a.value, refl, a.spelled, (b.value, b.spelled, refl));
      same = group_same a.value n b.value ms a.same b.same;
      shorter = shorter_then body f1 b1 N M p1 a.shorter b.shorter;
    })

shortens_externs : (kind : ℕ) → Shortens kind externs
shortens_externs kind = recast_called (many external) Externs _ contents_alone _ (contents_bytes kind) (λ x. refl) (λ x y e. ap (λ z. Externs z) e) (recast_many external itself external_bytes (recast_plainly external external_bytes plain_external))

publics_same : (g h s t : At ℕ) (f : Option ℕ) (xs ys : List (At PublicItem)) → unplaced g ≡ unplaced h → unplaced s ≡ unplaced t → map unplaced xs ≡ map unplaced ys
    → contents_alone (Publics (record { group = g; segment = s; frame = f; items = xs })) ≡ contents_alone (Publics (record { group = h; segment = t; frame = f; items = ys }))
publics_same g h s t f xs ys e1 e2 e3 =
    ap (λ (x : At ℕ). Publics (record { group = x; segment = unplaced s; frame = f; items = map unplaced xs })) e1
    ∙ ap (λ (x : At ℕ). Publics (record { group = unplaced h; segment = x; frame = f; items = map unplaced xs })) e2
    ∙ ap (λ (x : List (At PublicItem)). Publics (record { group = unplaced h; segment = unplaced t; frame = f; items = x })) e3

-- the index alone says whether a base frame follows
item_same : (s t : At ℕ) → unplaced s ≡ unplaced t → s.item ≡ t.item
item_same s t e = ap (λ (a : At ℕ). a.item) e

shortens_publics : (kind : ℕ) → Shortens kind (publics (is_wide kind))
shortens_publics kind at there body c (f1, b1, g, p1, s1, (f2, b2, s, p2, s2, (f3, b3, f, p3, s3, (ps, sp, is)))) =
    let G = datum_bytes g in
    let S = datum_bytes s in
    let F = option_bytes (little_bytes 2) f in
    let P = flat_map (λ (x : At PublicItem). public_bytes kind x.item) ps in
    let t2 = there + length G in
    let t3 = t2 + length S in
    let t4 = t3 + length F in
    let qg = recast_index at there f1 g s1 in
    let qs = recast_index (at + length f1) t2 f2 s s2 in
    let qf = plain_when (s.item == 0) (le 2) (little_bytes 2) (plain_le 2) (at + length f1 + length f2) t3 f3 f s3 in
    let there_frame = subst (λ (i : ℕ). (when (i == 0) (le 2)).Spells t3 F f) (sym (item_same qs.value s qs.same)) qf.0 in
    let qp = recast_many (public_item (is_wide kind)) itself (public_bytes kind) (recast_plainly (public_item (is_wide kind)) (public_bytes kind) (plain_public kind)) (at + length f1 + length f2 + length f3) t4 b3 ps sp in
    rw is (record {
      value = Publics (record { group = qg.value; segment = qs.value; frame = f; items = qp.value });
      spelled = (G, S ++ (F ++ P), qg.value, refl, qg.spelled, (S, F ++ P, qs.value, refl, qs.spelled, (F, P, f, refl, there_frame, (qp.value, qp.spelled, refl))));
      same = publics_same qg.value g qs.value s f qp.value ps qg.same qs.same qp.same;
      shorter = shorter_then body f1 b1 G (S ++ (F ++ P)) p1 qg.shorter (shorter_then b1 f2 b2 S (F ++ P) p2 qs.shorter (shorter_then b2 f3 b3 F P p3 qf.1 qp.shorter));
    })

shortens_communals : (kind : ℕ) → Shortens kind communals
shortens_communals kind = recast_called (many communal) Communals _ contents_alone _ (contents_bytes kind) (λ x. refl) (λ x y e. ap (λ z. Communals z) e) (recast_many communal itself communal_bytes (recast_plainly communal communal_bytes plain_communal))

abbrev data_alone : DataItem → DataItem
data_alone d = record d { segment = unplaced d.segment; offset = unplaced d.offset }

data_same : (s t o p : At ℕ) (b : List ℕ) → unplaced s ≡ unplaced t → unplaced o ≡ unplaced p
    → data_alone (record { segment = s; offset = o; bytes = b }) ≡ data_alone (record { segment = t; offset = p; bytes = b })
data_same s t o p b e h = ap (λ (x : At ℕ). record { segment = x; offset = unplaced o; bytes = b }) e ∙ ap (λ (x : At ℕ). record { segment = unplaced t; offset = x; bytes = b }) h

recast_data : (kind : ℕ) → Recasts (data_item (is_wide kind)) data_alone (data_bytes kind)
recast_data kind at there body d (f1, b1, s, p1, s1, (f2, b2, o, p2, s2, (x, sp, is))) =
    let S = datum_bytes s in
    let O = little_bytes (width kind) o.item in
    let a = recast_index at there f1 s s1 in
    let b = recast_placed (number_of (is_wide kind)) (little_bytes (width kind)) (plain_le (width kind)) (at + length f1) (there + length S) f2 o s2 in
    let text : Shorter b2 x = subst (λ (w : List ℕ). Shorter b2 w) (sym sp) (shorter_itself b2) in
    rw is (record {
      value = record { segment = a.value; offset = b.value; bytes = x };
      spelled = (S, O ++ x, a.value, refl, a.spelled, (O, x, b.value, refl, b.spelled, (x, refl, refl)));
      same = data_same a.value s b.value o x a.same b.same;
      shorter = shorter_then body f1 b1 S (O ++ x) p1 a.shorter (shorter_then b1 f2 b2 O x p2 b.shorter text);
    })

shortens_plain : (kind : ℕ) → Shortens kind (called (data_item (is_wide kind)) Plain)
shortens_plain kind = recast_called (data_item (is_wide kind)) Plain data_alone contents_alone (data_bytes kind) (contents_bytes kind) (λ x. refl) (λ x y e. ap (λ z. Plain z) e) (recast_data kind)

shortens_iterated : (kind : ℕ) → Shortens kind (called (data_item (is_wide kind)) Iterated)
shortens_iterated kind = recast_called (data_item (is_wide kind)) Iterated data_alone contents_alone (data_bytes kind) (contents_bytes kind) (λ x. refl) (λ x y e. ap (λ z. Iterated z) e) (recast_data kind)

shortens_fixups : (kind : ℕ) → Shortens kind (fixups (is_wide kind))
shortens_fixups kind = recast_called (many (subrecord (is_wide kind))) Fixups _ contents_alone _ (contents_bytes kind) (λ x. refl) (λ x y e. ap (λ z. Fixups z) e) (recast_many (subrecord (is_wide kind)) subrecord_alone (subrecord_bytes kind) (recast_subrecord kind))

shortens_mod_end : (kind : ℕ) → Shortens kind (mod_end (is_wide kind))
shortens_mod_end kind at there body c (f1, b1, t, p1, s1, (f2, b2, r, p2, s2, (none, is))) =
    let R = option_bytes (reference_bytes kind) r in
    let a = plain_byte at there f1 t s1 in
    let b = recast_when (has_start t) (reference (is_wide kind)) reference_alone (reference_bytes kind) (recast_reference kind) (at + length f1) (there + 1) f2 r s2 in
    rw is (record {
      value = ModEnd t b.value;
      spelled = (t ∷ [], R, t, refl, a.0, (R, [], b.value, sym (append-nil R), b.spelled, (refl, refl)));
      same = ap (λ z. ModEnd t z) b.same;
      shorter = shorter_then body f1 b1 (t ∷ []) R p1 a.1 (shorter_last b1 f2 b2 R p2 none b.shorter);
    })

shortens_carried : (kind : ℕ) → Shortens kind carried
shortens_carried kind at there body c (x, sp, is) = rw is (record { value = Carried x; spelled = (x, refl, refl); same = refl; shorter = subst (λ (w : List ℕ). Shorter body w) (sym sp) (shorter_itself body) })

by_type : (kind : ℕ) (t : RecordType) → Shortens kind (layout_of t (is_wide kind))
by_type kind Theadr = shortens_header kind
by_type kind Lheadr = shortens_header kind
by_type kind Coment = shortens_comment kind
by_type kind Lnames = shortens_names kind
by_type kind Llnames = shortens_names kind
by_type kind Segdef = shortens_segment kind
by_type kind Grpdef = shortens_group kind
by_type kind Extdef = shortens_externs kind
by_type kind Lextdef = shortens_externs kind
by_type kind Pubdef = shortens_publics kind
by_type kind Lpubdef = shortens_publics kind
by_type kind Comdef = shortens_communals kind
by_type kind Lcomdef = shortens_communals kind
by_type kind Ledata = shortens_plain kind
by_type kind Lidata = shortens_iterated kind
by_type kind Fixupp = shortens_fixups kind
by_type kind Modend = shortens_mod_end kind
by_type kind Typdef = shortens_carried kind
by_type kind Linnum = shortens_carried kind
by_type kind Linsym = shortens_carried kind
by_type kind Alias = shortens_carried kind
by_type kind Vernum = shortens_carried kind
by_type kind Bakpat = shortens_carried kind
by_type kind Cextdef = shortens_carried kind
by_type kind Comdat = shortens_carried kind
by_type kind Nbkpat = shortens_carried kind
by_type kind Vendext = shortens_carried kind
by_type kind Library = shortens_carried kind

by_option : (kind : ℕ) (o : Option RecordType) → Shortens kind (layout_if o (is_wide kind))
by_option kind (Some t) = by_type kind t
by_option kind None = shortens_carried kind

pub shortens : (kind : ℕ) → Shortens kind (contents kind)
shortens kind = by_option kind (type_of kind)
