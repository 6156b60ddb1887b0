-- .COM programs of members whose modules have equal keys.
use Rattle.std.proofs.Common.{◌≡◌, ℕ, ◌+◌, List, [], ◌∷◌, ◌++◌, refl, sym, ◌∙◌, ap, ap₂, Bool, true, false, cond, length, max}
use Rattle.std.specs.Prelude.{flat_map, filter_map, find, is_some, drop, nat_lt, Option, Some, None, option_map, option_and_then, slice_get, if◌then◌else◌}
use Rattle.std.specs.List.{AllZip}
use Rattle.std.specs.Option.{option_or}
use Rattle.omf_frame.specs.Framing.{Raw, raw_bytes}
use Rattle.omf_frame.specs.declared.fault.Place.{Place}
use Rattle.omf_records.specs.Inner.Reading.{typed}
use Rattle.omf_records.specs.Values.{Rec, Contents, Plain, Iterated, contents_alone}
use Rattle.omf_check.specs.Listed.{placed_from}
use Rattle.omf_check.specs.Module.{recs_of, records_in}
use Rattle.omf_check.specs.WellFormed.{recs}
use Rattle.omf_placement.specs.Placement.{Places}
use Rattle.omf_reloc.specs.Plain.{Piece, PlainFixup, fixups_in}
use Rattle.omf_output.specs.declared.exe.com_fault.ComFault.{ComFault}
use Rattle.omf_output.specs.declared.exe.com_fault.ComFault.TheVariants as fault
use Rattle.omf_output.specs.Exe.Com.{com_bytes, start_fault, has_low_data, is_low_record, first_low, counts_apart, fixup_fault, piece_fault, first_fixup, part_fault, without_stack, stack_bytes, long_fault, exe_part, com_fault}
use Rattle.omf_output.specs.Exe.Exe.{Program}
use Rattle.omf_output.specs.Exe.Linked.{placed, one_start, starts, member_fault}
use Rattle.omf_output.specs.Exe.Members.{Member, Portion, memory_end}
use Rattle.omf_output.specs.Exe.Memory.{Chunk, data_end}
use Rattle.omf_output.specs.Exe.Relocations.{site}
use Rattle.omf_output.specs.Located.{Located, located}
use Rattle.omf_keys.specs.Keys.{AreAlike}
use Rattle.omf_keys.proofs.KeptLaws.{IsKeptTable, same-records}
use Rattle.omf_keys.proofs.MemberLaws.{AreTwins, AreTwinMembers, with_bytes, by-bytes, placed-same, member-marks, same-all-chunks, same-all-portions, same-starts, same-linked}
use Rattle.omf_keys.proofs.WalkLaws.{told, marks, told-map, told-first, marks-filter, marks-filter-map, zip-marks, cond-told, bared, seen, located_by, located-seen, fixups-bared}

or-told : (a b c d : Option ComFault) → told a ≡ told b → told c ≡ told d → told (option_or a c) ≡ told (option_or b d)
or-told None None c d e h = h
or-told (Some x) (Some y) c d e h = refl
or-told None (Some y) c d e h = absurd cc
or-told (Some x) None c d e h = absurd cc

-- ---- data below 100H

abbrev low_marks : Places → ℕ → Contents → List ℕ
low_marks pl kind c = cond (has_low_data pl kind c) (0 ∷ []) []

low-bare : (pl : Places) (kind : ℕ) (c : Contents) → has_low_data pl kind c ≡ has_low_data pl kind (contents_alone c)
low-bare pl kind (Plain d) = refl
low-bare pl kind (Iterated d) = refl
low-bare pl kind _ = refl

low-kept : (pl : Places) → IsKeptTable (low_marks pl)
low-kept pl = record {
  bare = λ kind c. ap (λ (b : Bool). cond b (0 ∷ []) []) (low-bare pl kind c);
  fixups = λ kind subs. refl;
  end = λ kind byte start. refl;
}

low-step : (b : Bool) (x : Place × Rec) (o : Option (Place × Rec)) (ns : List ℕ) → told (option_map (λ y. y.0) o) ≡ slice_get ns 0
    → told (option_map (λ y. y.0) (cond b (Some x) o)) ≡ slice_get (cond b (0 ∷ []) [] ++ ns) 0
low-step true x o ns h = refl
low-step false x o ns h = h

low-first : (pl : Places) (number start : ℕ) (rs : List Raw) → told (first_low pl (placed_from number start rs)) ≡ slice_get (flat_map (λ r. low_marks pl r.kind r.contents) (recs rs)) 0
low-first pl number start [] = refl
low-first pl number start (r ∷ rs) =
    low-step (is_low_record pl (typed r)) (record { number = number; start = start; within = 0 }, typed r) (find (λ x. is_low_record pl x.1) (placed_from (number + 1) (start + length (raw_bytes r)) rs))
    (flat_map (λ r. low_marks pl r.kind r.contents) (recs rs)) (low-first pl (number + 1) (start + length (raw_bytes r)) rs)

low-same : (pl : Places) (x y : List ℕ) → AreAlike (recs_of x) (recs_of y) → told (first_low pl (placed_from 0 0 (records_in x))) ≡ told (first_low pl (placed_from 0 0 (records_in y)))
low-same pl x y h =
    low-first pl 0 0 (records_in x)
    ∙ ap (λ (ns : List ℕ). slice_get ns 0) (same-records (low_marks pl) (low-kept pl) (recs_of x) (recs_of y) h)
    ∙ sym (low-first pl 0 0 (records_in y))

-- ---- fixups

abbrev at_0 : Place
at_0 = record { number = 0; start = 0; within = 0 }

told-fixup : (m : Member) (p q : Place) (segment : ℕ) (f : ℕ × PlainFixup) → told (fixup_fault m p segment f) ≡ told (fixup_fault m q segment f)
told-fixup m p q segment f =
    cond-told (is_some (site m.movers segment f)) (is_some (site m.movers segment f)) (fault.Words m.number p) (fault.Words m.number q)
    (if counts_apart m.places m.movers segment f.1 then Some (fault.Frame m.number p) else None) (if counts_apart m.places m.movers segment f.1 then Some (fault.Frame m.number q) else None) refl
    (cond-told (counts_apart m.places m.movers segment f.1) (counts_apart m.places m.movers segment f.1) (fault.Frame m.number p) (fault.Frame m.number q) None None refl refl)

abbrev pair_fault : Member → Option ℕ × Piece → Option ComFault
pair_fault m x = piece_fault m (record { place = at_0; segment = x.0; piece = x.1 })

fixups-told : (m : Member) (p : Place) (segment : ℕ) (fs gs : List (ℕ × PlainFixup)) → fs ≡ gs
    → told (slice_get (filter_map (fixup_fault m p segment) fs) 0) ≡ told (slice_get (filter_map (fixup_fault m at_0 segment) gs) 0)
fixups-told m p segment fs gs e =
    told-first (filter_map (fixup_fault m p segment) fs)
    ∙ ap (λ (ns : List ℕ). slice_get ns 0)
    (marks-filter (fixup_fault m p segment) (fixup_fault m at_0 segment) (told-fixup m p at_0 segment) fs ∙ ap (λ (hs : List (ℕ × PlainFixup)). marks (filter_map (fixup_fault m at_0 segment) hs)) e)
    ∙ sym (told-first (filter_map (fixup_fault m at_0 segment) gs))

fault-seen : (m : Member) (l : Located) → told (piece_fault m l) ≡ told (pair_fault m (seen l))
fault-seen m l = by l.segment
  where
    by : (o : Option ℕ) → told (option_and_then (λ segment. slice_get (filter_map (fixup_fault m l.place segment) (fixups_in l.piece)) 0) o) ≡ told (pair_fault m (o, (seen l).1))
    by None = refl
    by (Some segment) = fixups-told m l.place segment (fixups_in l.piece) (fixups_in (seen l).1) (fixups-bared l.piece)

fixup-by : (m : Member) (xs : List (Place × Piece)) → told (first_fixup m xs) ≡ slice_get (marks (filter_map (pair_fault m) (located_by None (bared xs)))) 0
fixup-by m xs =
    told-first (filter_map (piece_fault m) (located xs))
    ∙ ap (λ (ns : List ℕ). slice_get ns 0)
    (marks-filter-map seen (piece_fault m) (pair_fault m) (fault-seen m) (located xs) ∙ ap (λ (ls : List (Option ℕ × Piece)). marks (filter_map (pair_fault m) ls)) (located-seen xs))

fixup-same : (m : Member) (xs ys : List (Place × Piece)) → bared xs ≡ bared ys → told (first_fixup m xs) ≡ told (first_fixup m ys)
fixup-same m xs ys h = fixup-by m xs ∙ ap (λ (ps : List Piece). slice_get (marks (filter_map (pair_fault m) (located_by None ps))) 0) h ∙ sym (fixup-by m ys)

-- ---- programs

abbrev low_fault : Member → Option ComFault
low_fault m = option_map (λ p. fault.Low m.number p) (first_low m.places (placed_from 0 0 (records_in m.bytes)))

low-told : (m : Member) (y : List ℕ) → AreTwins m.bytes y → told (low_fault m) ≡ told (low_fault (with_bytes y m))
low-told m y t =
    told-map (λ p. fault.Low m.number p) (first_low m.places (placed_from 0 0 (records_in m.bytes)))
    ∙ low-same m.places m.bytes y t.alike
    ∙ sym (told-map (λ p. fault.Low m.number p) (first_low m.places (placed_from 0 0 (records_in y))))

part-told : (m : Member) (y : List ℕ) → AreTwins m.bytes y → told (part_fault m) ≡ told (part_fault (with_bytes y m))
part-told m y t =
    or-told (low_fault m) (low_fault (with_bytes y m)) (first_fixup m (placed m)) (first_fixup (with_bytes y m) (placed (with_bytes y m)))
    (low-told m y t) (fixup-same m (placed m) (placed (with_bytes y m)) (placed-same m y t))

abbrev long_by : List Chunk → List Portion → Option ComFault
long_by cs ps =
    let end = max 256 (max (data_end cs) (memory_end (without_stack ps))) in
    if nat_lt 65534 (end + stack_bytes ps) then Some (fault.TooLong end (stack_bytes ps)) else None

module _ (ms ns : List Member) (all : AllZip AreTwinMembers ms ns) where
  first-told : (f : Member → Option ComFault) → ((m : Member) (y : List ℕ) → AreTwins m.bytes y → told (f m) ≡ told (f (with_bytes y m))) → told (slice_get (filter_map f ms) 0) ≡ told (slice_get (filter_map f ns) 0)
  first-told f same =
      told-first (filter_map f ms)
      ∙ ap (λ (ks : List ℕ). slice_get ks 0) (zip-marks AreTwinMembers f f (by-bytes (λ m. told (f m)) same) ms ns all)
      ∙ sym (told-first (filter_map f ns))

  exe-part : told (exe_part ms) ≡ told (exe_part ns)
  exe-part =
      told-map fault.Exe (slice_get (filter_map member_fault ms) 0)
      ∙ (told-first (filter_map member_fault ms) ∙ ap (λ (ks : List ℕ). slice_get ks 0) (member-marks ms ns all) ∙ sym (told-first (filter_map member_fault ns)))
      ∙ sym (told-map fault.Exe (slice_get (filter_map member_fault ns) 0))

  long-same : long_fault ms ≡ long_fault ns
  long-same = ap₂ (λ (cs : List Chunk) (ps : List Portion). long_by cs ps) (same-all-chunks ms ns all) (same-all-portions ms ns all)

  pub com-told : told (com_fault ms) ≡ told (com_fault ns)
  com-told =
      or-told (exe_part ms) (exe_part ns)
      (option_or (start_fault (one_start (starts ms))) (option_or (slice_get (filter_map part_fault ms) 0) (long_fault ms))) (option_or (start_fault (one_start (starts ns))) (option_or (slice_get (filter_map part_fault ns) 0) (long_fault ns)))
      exe-part
      (or-told (start_fault (one_start (starts ms))) (start_fault (one_start (starts ns))) (option_or (slice_get (filter_map part_fault ms) 0) (long_fault ms)) (option_or (slice_get (filter_map part_fault ns) 0) (long_fault ns))
      (ap (λ (ss : List (ℕ × (ℕ × ℕ))). told (start_fault (one_start ss))) (same-starts ms ns all))
      (or-told (slice_get (filter_map part_fault ms) 0) (slice_get (filter_map part_fault ns) 0) (long_fault ms) (long_fault ns)
      (first-told part_fault part-told) (ap (λ (o : Option ComFault). told o) long-same)))

  pub same-com : com_bytes ms ≡ com_bytes ns
  same-com = ap (λ (p : Program). drop 256 p.image) (same-linked ms ns all)
