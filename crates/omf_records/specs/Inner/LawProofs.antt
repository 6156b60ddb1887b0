-- The proofs of the laws of typed records.
use Rattle.std.proofs.Common.{◌≡◌, ℕ, zero, suc, List, [], Result, Ok, Err, refl, sym, ap, subst, ◌∙◌, arith}
use Rattle.std.specs.Prelude.{Contains}
use Rattle.omf_frame.specs.Fault.{Fault}
use Rattle.omf_frame.specs.Framing.{Raw}
use Rattle.omf_records.specs.Values.{Rec, Contents}
use Rattle.omf_records.specs.Layout.{Meets}
use Rattle.omf_records.specs.Inner.Meets.{whole_unique, whole_meets}
use Rattle.omf_records.specs.Records.{contents}
use Rattle.omf_records.specs.Inner.RecordReaders.{contents_whole}
use Rattle.omf_records.specs.Inner.Reading.{read_body, fault_list, contents_or, typed}
use Rattle.omf_records.specs.Laws.{AreUnique, ReadingsMeet, AreDecided, AreTyped, FaultsAreLeast, FaultsStandBehind}

same_record : (kind : ℕ) (c d : Contents) → c ≡ d → ◌≡◌ {A = Rec} (record { kind = kind; contents = c }) (record { kind = kind; contents = d })
same_record kind c d e = ap (λ (x : Contents). record { kind = kind; contents = x }) e

pub unique : AreUnique
unique r s body k p q =
    let q2 : (contents r.kind).Spells 3 body s.contents = subst (λ (x : ℕ). (contents x).Spells 3 body s.contents) (sym k) q in
    let e = whole_unique (contents_whole r.kind) 3 body r.contents s.contents p q2 in
    same_record r.kind r.contents s.contents e ∙ ap (λ (x : ℕ). record { kind = x; contents = s.contents }) k

pub meet : ReadingsMeet
meet kind body h = whole_meets (contents_whole kind) 3 body h

-- the reading of encoded contents
given : (r : Raw) (c : Contents) → (contents r.kind).Spells 3 r.body c → read_body r.kind r.body ≡ Ok c
given r c sp = (contents_whole r.kind).again 3 r.body c sp

none_when_read : (q : Result Contents Fault) (c : Contents) → q ≡ Ok c → fault_list q ≡ []
none_when_read q c e = rw e refl

read_when_none : (body : List ℕ) (q : Result Contents Fault) → fault_list q ≡ [] → q ≡ Ok (contents_or body q)
read_when_none body (Ok c) e = refl
read_when_none body (Err f) e = absurd cc

pub decided : AreDecided
decided r h = (
  (λ t. none_when_read (read_body r.kind r.body) (typed r).contents (given r (typed r).contents t)),
  (λ e. (contents_whole r.kind).ok 3 r.body (typed r).contents h (read_when_none r.body (read_body r.kind r.body) e)),
)

value_when_read : (body : List ℕ) (q : Result Contents Fault) (c : Contents) → q ≡ Ok c → c ≡ contents_or body q
value_when_read body q c e = rw e refl

pub are_typed : AreTyped
are_typed r t k p =
    let sp : (contents r.kind).Spells 3 r.body t.contents = subst (λ (x : ℕ). (contents x).Spells 3 r.body t.contents) k p in
    let e = given r t.contents sp in (
      ap (λ (x : ℕ). record { kind = x; contents = t.contents }) k ∙ same_record r.kind t.contents _ (value_when_read r.body (read_body r.kind r.body) t.contents e),
      none_when_read (read_body r.kind r.body) t.contents e,
    )

-- the fault that a reading reports
reported : (q : Result Contents Fault) (f : Fault) → Contains (fault_list q) f → q ≡ Err f
reported (Ok c) f (k, low, is) = absurd (omega (arith, low))
reported (Err g) f (zero, low, is) = ap (λ (x : Fault). Err x) is
reported (Err g) f (suc k, low, is) = absurd (omega (arith, low))

pub least_of_faults : FaultsAreLeast
least_of_faults r f h e =
    let m = meet r.kind r.body h in
    let n = subst (λ (q : Result Contents Fault). Meets (contents r.kind) 3 r.body q) (reported (read_body r.kind r.body) f e) m in
    (n.faulty, n.first)

pub stand_behind : FaultsStandBehind
stand_behind kind = (contents_whole kind).behind
