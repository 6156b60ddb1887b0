-- What is read at the start of a body by the layout of its type.
use Rattle.std.proofs.Common.{◌≡◌, ℕ, Bool, true, List, Option, Some, Result, Ok, Err, refl, sym, subst, inl, inr}
use Rattle.omf_frame.specs.Bytes.{is_one_of}
use Rattle.omf_frame.specs.Fault.{Fault}
use Rattle.omf_frame.specs.Types.{ledata, type_of}
use Rattle.omf_frame.specs.declared.kinds.RecordType.{RecordType}
use Rattle.omf_frame.specs.declared.kinds.RecordType.TheVariants.{Fixupp, Ledata}
use Rattle.omf_records.specs.declared.here.Here.{Here}
use Rattle.omf_records.specs.Values.{Contents, DataItem, Plain, is_wide}
use Rattle.omf_records.specs.Valued.{is_fixupp}
use Rattle.omf_records.specs.Inner.Reading.{read_body}
use Rattle.omf_records.specs.Inner.Reads.{and_then}
use Rattle.omf_records.specs.Inner.Seen.{map_ok}
use Rattle.omf_records.specs.Inner.RecordReaders.{whole_of, whole_if}
use Rattle.omf_records.proofs.TypeBytes.{one_of_two}

pub at_start : (o : Option RecordType) (r : Result Contents Fault) (kind : ℕ) (h : Here) (body : List ℕ)
    → h.within ≡ 3 → h.wide ≡ is_wide kind → h.bytes.now ≡ body → type_of kind ≡ o
    → r ≡ (whole_if o h.wide).read h.within h.bytes.now → r ≡ read_body kind body
at_start o r kind h body place width bytes is e =
    let a = subst (λ (w : Bool). r ≡ (whole_if o w).read h.within h.bytes.now) width e in
    let b = subst (λ (n : ℕ). r ≡ (whole_if o (is_wide kind)).read n h.bytes.now) place a in
    let c = subst (λ (bs : List ℕ). r ≡ (whole_if o (is_wide kind)).read 3 bs) bytes b in
    subst (λ (x : Option RecordType). r ≡ (whole_if x (is_wide kind)).read 3 body) (sym is) c

-- what is read by a type is read by one that equals it
pub by_its_type : (t u : RecordType) (r : Result Contents Fault) (h : Here) → t ≡ u
    → r ≡ (whole_of u h.wide).read h.within h.bytes.now → r ≡ (whole_of t h.wide).read h.within h.bytes.now
by_its_type t u r h is e = subst (λ (x : RecordType). r ≡ (whole_of x h.wide).read h.within h.bytes.now) (sym is) e

pub fixupp_type : (kind : ℕ) → is_fixupp kind ≡ true → type_of kind ≡ Some Fixupp
fixupp_type kind e = elim (one_of_two 0x9C 0x9D kind e) [ inl q ↦ subst (λ (k : ℕ). type_of k ≡ Some Fixupp) (sym q) refl | inr q ↦ subst (λ (k : ℕ). type_of k ≡ Some Fixupp) (sym q) refl ]

pub ledata_type : (kind : ℕ) → is_one_of ledata kind ≡ true → type_of kind ≡ Some Ledata
ledata_type kind e = elim (one_of_two 0xA0 0xA1 kind e) [ inl q ↦ subst (λ (k : ℕ). type_of k ≡ Some Ledata) (sym q) refl | inr q ↦ subst (λ (k : ℕ). type_of k ≡ Some Ledata) (sym q) refl ]

-- the contents of an LEDATA, from its fields
pub plain_read : (r s : Result DataItem Fault) → r ≡ s → map_ok Plain r ≡ and_then s (λ d. Ok (Plain d))
plain_read r (Ok d) e = rw e refl
plain_read r (Err f) e = rw e refl
