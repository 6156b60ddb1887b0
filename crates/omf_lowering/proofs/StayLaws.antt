-- An accepted module is unrolled to itself.
use Rattle.std.proofs.Common.{◌≡◌, ℕ, false, cond, List, [], ◌∷◌, ◌++◌, Option, Some, None, Result, Ok, Err, refl, sym, ap, subst, ◌∙◌, append_assoc, append-nil}
use Rattle.std.specs.Prelude.{IfSome, IsTrue, All, flat_map, map, ◌||◌}
use Rattle.std.specs.List.{last_or, list_any}
use Rattle.std.proofs.lemmas.Grind.{flat_map-append}
use Rattle.std.proofs.lemmas.List.{map-append}
use Rattle.std.proofs.lemmas.List.Elements.{All-head, All-tail}
use Rattle.omf_frame.specs.Bytes.{last, with_before}
use Rattle.omf_frame.specs.Fault.{Fault, Rule}
use Rattle.omf_frame.specs.Framing.{Raw, is_taken}
use Rattle.omf_image.specs.declared.limits.Limits.{Limits}
use Rattle.omf_records.specs.Inner.LawProofs.{are_typed}
use Rattle.omf_records.specs.Inner.Reading.{contents_or, fault_list, read_body, typed}
use Rattle.omf_records.specs.Inner.Reads.{and_then}
use Rattle.omf_records.specs.Records.{IsTyped}
use Rattle.omf_records.specs.Values.{At, Contents, DataItem, Fixup, Fixups, Iterated, Plain, Rec, Subrecord, Thread}
use Rattle.omf_check.specs.Rules.{contents_rules, location_rule, rules, subrecord_rules_at}
use Rattle.omf_check.specs.Tables.{data_in, last_data}
use Rattle.omf_check.specs.WellFormed.{IsAccepted, recs}
use Rattle.omf_check.specs.declared.profile.Profile.{Profile}
use Rattle.omf_check.proofs.WellLaws.{well-read}
use Rattle.omf_lowering.specs.Unrolled.{Before, Blocks, after_contents, after_fixups, after_record, after_records, after_subrecords, begun, blocks_of, is_fixup, kept, start}
use Rattle.omf_lowering.proofs.RollLaws.{records_more}

abbrev IsTaken : Raw → Type 0
IsTaken r = IsTrue (is_taken r.kind)

abbrev IsSpelled : Raw → Type 0
IsSpelled r = IsTyped (typed r) r.body

abbrev Holds : Rule → Type 0
Holds r = IsTrue r.holds

All-back : {A : Type 0} (P : A → Type 0) (xs ys : List A) → All P (xs ++ ys) → All P ys
All-back P [] ys h = h
All-back P (x ∷ xs) ys h = All-back P xs ys (All-tail P x (xs ++ ys) h)

-- ---- the last data record

last_of_more : {A : Type 0} (o : Option A) (xs : List A) (x : A) → last_or o (xs ++ x ∷ []) ≡ Some x
last_of_more o [] x = refl
last_of_more o (y ∷ xs) x = last_of_more (Some y) xs x

abbrev data_of : List Raw → List Contents
data_of rs = flat_map (λ r. data_in r.contents) (recs rs)

data_more : (before : List Raw) (r : Raw) → data_of (before ++ r ∷ []) ≡ data_of before ++ data_in (typed r).contents
data_more before r =
    ap (flat_map (λ r. data_in r.contents)) (map-append typed before (r ∷ []))
    ∙ flat_map-append (λ r. data_in r.contents) (recs before) (typed r ∷ [])
    ∙ ap (λ l. data_of before ++ l) (append-nil (data_in (typed r).contents))

-- If fixups are for an LIDATA, that is the last data record.
abbrev IsLast : List Raw → Type 0
IsLast before = (d : DataItem) × (last_data (recs before) ≡ Some (Iterated d))

abbrev Tied : Option Blocks → List Raw → Type 0
Tied o before = IfSome o (λ k. IsLast before)

tied_by : (o : Option Blocks) (before : List Raw) → IsLast before → Tied o before
tied_by (Some k) before is = is
tied_by None before is = tt

tied_same : (o : Option Blocks) (before after : List Raw) → last_data (recs after) ≡ last_data (recs before) → Tied o before → Tied o after
tied_same (Some k) before after same (d, is) = (d, same ∙ is)
tied_same None before after same is = tt

last_same : (before : List Raw) (r : Raw) → data_in (typed r).contents ≡ [] → last_data (recs (before ++ r ∷ [])) ≡ last_data (recs before)
last_same before r none = ap last (data_more before r ∙ ap (λ l. data_of before ++ l) none ∙ append-nil (data_of before))

last_iterated : (before : List Raw) (r : Raw) (d : DataItem) → (typed r).contents ≡ Iterated d → IsLast (before ++ r ∷ [])
last_iterated before r d is = (d, ap last (data_more before r ∙ ap (λ c. data_of before ++ data_in c) is) ∙ last_of_more None (data_of before) (Iterated d))

-- ---- no fixup is for an LIDATA

subrecord_by : (before : List Rec) (d : DataItem) → last_data before ≡ Some (Iterated d) → (earlier : List Subrecord) (within : ℕ) (s : Subrecord) (more : List Rule)
    → All Holds (subrecord_rules_at before earlier within s ++ more) → (is_fixup s ≡ false) × All Holds more
subrecord_by before d is earlier within (Thread byte datum) more h = (refl, h)
subrecord_by before d is earlier within (Fixup locat r) more h =
    let refused : IsTrue false = subst (λ o. IsTrue (location_rule o within locat).holds) is (All-head Holds _ _ h) in absurd cc

no_fixup : (before : List Rec) (d : DataItem) → last_data before ≡ Some (Iterated d) → (earlier subs : List (At Subrecord))
    → All Holds (with_before (λ e s. subrecord_rules_at before (map (λ x. x.item) e) s.within s.item) earlier subs) → list_any (λ s. is_fixup s.item) subs ≡ false
no_fixup before d is earlier [] h = refl
no_fixup before d is earlier (s ∷ subs) h =
    let one = subrecord_by before d is (map (λ x. x.item) earlier) s.within s.item _ h in
    ap (λ b. b || list_any (λ s. is_fixup s.item) subs) one.0 ∙ no_fixup before d is (earlier ++ s ∷ []) subs one.1

module _ (profile : Profile) (limits : Limits) where
  -- ---- one record

  pub record Stays (b : Before) (before : List Raw) (r : Raw) (step : Result Before Fault) : Type 0 where
    pub next : Before
    pub step_is : step ≡ Ok next
    pub made : next.records ≡ before ++ r ∷ []
    pub tied : Tied next.blocks (before ++ r ∷ [])

  kept_stays : (b : Before) (before : List Raw) (r : Raw) (step : Result Before Fault) → step ≡ Ok (kept b r) → data_in (typed r).contents ≡ [] → b.records ≡ before → Tied b.blocks before → Stays b before r step
  kept_stays b before r step is none same tied = record {
    next = kept b r;
    step_is = is;
    made = ap (λ l. l ++ r ∷ []) same;
    tied = tied_same b.blocks before (before ++ r ∷ []) (last_same before r none) tied;
  }

  fixups_by : (o : Option Blocks) (b : Before) (before : List Raw) (r : Raw) (subs : List (At Subrecord)) → Tied o before
      → All Holds (contents_rules profile limits (recs before) r.kind (Fixups subs)) → after_fixups o b r subs ≡ Ok (kept b r)
  fixups_by None b before r subs tied h = refl
  fixups_by (Some k) b before r subs (d, is) h = ap (λ t. cond t (after_subrecords r.kind k b subs) (Ok (kept b r))) (no_fixup (recs before) d is [] subs h)

  contents_stay : (b : Before) (before : List Raw) (r : Raw) (c : Contents) → (typed r).contents ≡ c → b.records ≡ before → Tied b.blocks before
      → All Holds (contents_rules profile limits (recs before) r.kind c) → Stays b before r (after_contents b r c)
  contents_stay b before r (Plain d) is same tied h = record { next = begun None b r; step_is = refl; made = ap (λ l. l ++ r ∷ []) same; tied = tt }
  contents_stay b before r (Iterated d) is same tied h = record {
    next = begun (blocks_of r.kind d) b r;
    step_is = refl;
    made = ap (λ l. l ++ r ∷ []) same;
    tied = tied_by (blocks_of r.kind d) (before ++ r ∷ []) (last_iterated before r d is);
  }
  contents_stay b before r (Fixups subs) is same tied h = kept_stays b before r _ (fixups_by b.blocks b before r subs tied h) (ap data_in is) same tied
  contents_stay b before r _ is same tied h = kept_stays b before r _ refl (ap data_in is) same tied

  read_is : (body : List ℕ) (q : Result Contents Fault) → fault_list q ≡ [] → q ≡ Ok (contents_or body q)
  read_is body (Ok c) e = refl
  read_is body (Err f) e = absurd cc

  one_stays : (b : Before) (before : List Raw) (r : Raw) → IsTaken r → IsSpelled r → b.records ≡ before → Tied b.blocks before → All Holds (rules profile limits (recs before) (typed r)) → Stays b before r (after_record b r)
  one_stays b before r taken spelled same tied h =
      let read : read_body r.kind r.body ≡ Ok (typed r).contents = read_is r.body (read_body r.kind r.body) (are_typed r (typed r) refl spelled).1 in
      let is : after_record b r ≡ after_contents b r (typed r).contents = ap (λ t. cond t (and_then (read_body r.kind r.body) (after_contents b r)) (Ok (kept b r))) taken ∙ ap (λ q. and_then q (after_contents b r)) read in
      let s = contents_stay b before r (typed r).contents refl same tied (All-back Holds _ _ h) in
      record { next = s.next; step_is = is ∙ s.step_is; made = s.made; tied = s.tied }

  -- ---- all records

  module _ (records : List Raw) (keeps : (before after : List Raw) (r : Raw) → records ≡ before ++ r ∷ after → All Holds (rules profile limits (recs before) (typed r))) where
    pub record StayAll (xs : List Raw) : Type 0 where
      pub last : Before
      pub is : after_records xs ≡ Ok last
      pub same : last.records ≡ xs
      pub tied : Tied last.blocks xs

    stay_all : (before xs tail : List Raw) → records ≡ before ++ (xs ++ tail) → All IsTaken xs → All IsSpelled xs → StayAll before → StayAll (before ++ xs)
    stay_all before [] tail is taken spelled s = subst StayAll (sym (append-nil before)) s
    stay_all before (x ∷ xs) tail is taken spelled s =
        let one = one_stays s.last before x (All-head IsTaken x xs taken) (All-head IsSpelled x xs spelled) s.same s.tied (keeps before (xs ++ tail) x is) in
        let more : StayAll (before ++ x ∷ []) = record { last = one.next; is = records_more before x ∙ ap (λ q. and_then q (λ b. after_record b x)) s.is ∙ one.step_is; same = one.made; tied = one.tied } in
        subst StayAll (append_assoc before (x ∷ []) xs)
        (stay_all (before ++ x ∷ []) xs tail (is ∙ sym (append_assoc before (x ∷ []) (xs ++ tail))) (All-tail IsTaken x xs taken) (All-tail IsSpelled x xs spelled) more)

  -- the records of an accepted module
  pub record Same (xs : List Raw) : Type 0 where
    pub last : Before
    pub is : after_records xs ≡ Ok last
    pub same : last.records ≡ xs

  pub accepted_rolled : (input : List ℕ) (records : List Raw) (a : IsAccepted profile limits input records) → Same records
  accepted_rolled input records a =
      let w = well-read profile limits a.bytes records a.well_formed in
      let none : StayAll records w.kept [] = record { last = start; is = refl; same = refl; tied = tt } in
      let all : StayAll records w.kept records = stay_all records w.kept [] records [] (sym (append-nil records)) w.framed.types w.spelled none in
      record { last = all.last; is = all.is; same = all.same }
