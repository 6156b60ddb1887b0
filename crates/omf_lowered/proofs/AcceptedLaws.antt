-- No step changes a module that is accepted.
use Rattle.std.proofs.Common.{◌≡◌, ℕ, ◌+◌, ◌<◌, inl, true, false, Bool, List, [], ◌∷◌, ◌++◌, refl, subst, ap, ◌∙◌, length, append_assoc, append-nil, arith, Result, Ok, Err}
use Rattle.std.specs.Prelude.{IsTrue, not, All, flat_map, ◌&&◌, ◌==◌, is_ok, nat_le}
use Rattle.std.proofs.lemmas.Grind.{flat_map-append}
use Rattle.std.proofs.lemmas.List.Elements.{All-head, All-tail, All-cons, All-nil}
use Rattle.omf_frame.specs.Fault.{Fault}
use Rattle.omf_frame.specs.Framing.{Raw, IsRecord, is_end, raw_bytes}
use Rattle.omf_image.specs.declared.limits.Limits.{Limits}
use Rattle.omf_records.specs.Inner.LawProofs.{are_typed}
use Rattle.omf_records.specs.Inner.Reading.{fault_list, read_body, typed}
use Rattle.omf_records.specs.Values.{Contents}
use Rattle.omf_check.specs.WellFormed.{IsAccepted}
use Rattle.omf_check.specs.declared.profile.Profile.{Profile}
use Rattle.omf_check.proofs.FirstLaws.{IsSpelled}
use Rattle.omf_check.proofs.WellLaws.{well-read}
use Rattle.omf_explicit.specs.Explicit.{distinct, gets_segments, is_read, segment_count}
use Rattle.omf_explicit.specs.Modules.{IsModule, IsOpen}
use Rattle.omf_explicit.proofs.ReadLaws.{read_none}
use Rattle.omf_virtual.proofs.ReadLaws.{read_none as no_comdats}
use Rattle.omf_aligned.proofs.StayLaws.{read_stay}
use Rattle.omf_lowering.proofs.AcceptedLaws.{accepted}
use Rattle.omf_lowered.specs.Modules.{IsLoweredModule}

has_value : (x : Result Contents Fault) → fault_list x ≡ [] → is_ok x ≡ true
has_value (Ok c) e = refl
has_value (Err f) e = absurd cc

reads_all : (xs : List Raw) → All IsSpelled xs → All (λ r. is_read r ≡ true) xs
reads_all [] h = All-nil (λ (r : Raw). is_read r ≡ true)
reads_all (x ∷ xs) h =
    let first = has_value (read_body x.kind x.body) (are_typed x (typed x) refl (All-head IsSpelled x xs h)).1 in
    All-cons (λ (r : Raw). is_read r ≡ true) x xs first (reads_all xs (All-tail IsSpelled x xs h))

goes_on : (b : Bool) → not b ≡ true → b ≡ false
goes_on true e = absurd cc
goes_on false e = refl

abbrev IsNoEnd : Raw → Type 0
IsNoEnd r = IsTrue (not (is_end r.kind))

short_one : (r : Raw) → IsRecord r → length r.body < 65535
short_one r is = let s = is.0 in omega arith

open_front : (xs : List Raw) (y : Raw) → All IsRecord (xs ++ y ∷ []) → All IsNoEnd xs → All IsOpen xs
open_front [] y each no_end = All-nil IsOpen
open_front (x ∷ xs) y each no_end =
    All-cons IsOpen x xs (record { short = short_one x (All-head IsRecord x (xs ++ y ∷ []) each); no_end = goes_on (is_end x.kind) (All-head IsNoEnd x xs no_end) })
    (open_front xs y (All-tail IsRecord x (xs ++ y ∷ []) each) (All-tail IsNoEnd x xs no_end))

last_short : (xs : List Raw) (y : Raw) → All IsRecord (xs ++ y ∷ []) → length y.body < 65535
last_short [] y each = short_one y (All-head IsRecord y [] each)
last_short (x ∷ xs) y each = last_short xs y (All-tail IsRecord x (xs ++ y ∷ []) each)

pub accepted_module : (profile : Profile) (limits : Limits) (input : List ℕ) (records : List Raw) (a : IsAccepted profile limits input records) → IsLoweredModule input a.bytes a.rest
accepted_module profile limits input records a =
    let w = well-read profile limits a.bytes records a.well_formed in
    let l = w.framed.last in
    let front = l.0 in
    let end = l.1 in
    let is : records ≡ front ++ end ∷ [] = l.2 in
    let each : All IsRecord (front ++ end ∷ []) = subst (All IsRecord) is w.framed.each in
    let bytes : a.bytes ≡ flat_map raw_bytes (front ++ end ∷ []) = w.framed.spelled ∙ ap (flat_map raw_bytes) is in
    let parts : flat_map raw_bytes (front ++ end ∷ []) ≡ flat_map raw_bytes front ++ raw_bytes end =
    flat_map-append raw_bytes front (end ∷ []) ∙ ap (λ e. flat_map raw_bytes front ++ e) (append-nil (raw_bytes end)) in
    let read : IsModule input records a.rest = record {
      before = front;
      end = end;
      are = is;
      begins = record {
        spelled = a.spelled ∙ ap (λ b. b ++ a.rest) (bytes ∙ parts) ∙ append_assoc (flat_map raw_bytes front) (raw_bytes end) a.rest;
        each = open_front front end each l.4;
      };
      short = last_short front end each;
      ends = l.3;
    } in
    let reads : All (λ r. is_read r ≡ true) records = reads_all records w.spelled in
    let frames : gets_segments records ≡ false = ap (λ ns. not (length ns == 0) && nat_le (segment_count records + length (distinct ns)) 32767) (read_none records reads) in
    inl (
      inl (record { records = records; rest = a.rest; read = read; none = frames }),
      inl (
        inl (record { records = records; rest = a.rest; read = read; none = no_comdats records reads }),
        inl (inl (record { records = records; rest = a.rest; read = read; none = read_stay records reads }), accepted profile limits input records a),
      ),
    )
