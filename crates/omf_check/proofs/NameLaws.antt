-- A name is read at its offset.
use Rattle.std.proofs.Common.{◌≡◌, ℕ, ◌-◌, ◌≤◌, Bool, true, false, List, ◌∷◌, ◌++◌, refl, sym, ◌∙◌, ap, subst, arith, length, take, drop, length-append}
use Rattle.std.specs.Prelude.{Option, Some, None, IfSome, slice_get, cond, nat_le}
use Rattle.std.proofs.lemmas.List.{length-take, take-append-drop}
use Rattle.std.proofs.Math.Seq.{drop-append_seam}
use Rattle.omf_frame.proofs.FramingLaws.{present_raw, front_raw}
use Rattle.omf_frame.specs.Framing.{raw_bytes, front_record, present}
use Rattle.omf_records.specs.Inner.Reading.{typed}
use Rattle.omf_records.specs.Values.{Group, GroupItem, Rec}
use Rattle.omf_frame.specs.Fields.{IsName, IsSpelledAt}
use Rattle.omf_frame.specs.Inner.FieldLaws.{name_free}
use Rattle.omf_check.specs.Inner.Points.{NameAt, HasName, GroupAt, RecordAt, AllAt, IsItemAt}
use Rattle.omf_check.specs.Listed.{StartsWithRecord}
use Rattle.omf_check.specs.Tables.{entry}
use Rattle.omf_check.proofs.PointLaws.{item_at}

behind : (bytes : List ℕ) (p : ℕ) (n : List ℕ) (h : NameAt bytes p n) → drop p bytes ≡ (length n ∷ n) ++ h.rest
behind bytes p n h = ap (λ k. drop k bytes) h.place ∙ ap (drop (length h.front)) h.spelled ∙ drop-append_seam h.front ((length n ∷ n) ++ h.rest)

pub never_none : (bytes : List ℕ) (p : ℕ) → HasName bytes p → ((value : List ℕ) (front back : List ℕ) → IsName value front → drop p bytes ≡ front ++ back → ⊥) → ⊥
never_none bytes p (n, h) none = none n (length n ∷ n) h.rest (h.short, refl) (behind bytes p n h)

pub spelled_name : (bytes : List ℕ) (p to : ℕ) (n : List ℕ) → IsSpelledAt IsName bytes p n to → NameAt bytes p n
spelled_name bytes p to n (le, low, (short, e)) = record {
  front = take p bytes;
  rest = drop (to - p) (drop p bytes);
  spelled = sym (take-append-drop p bytes) ∙ ap (λ x. take p bytes ++ x) (sym (take-append-drop (to - p) (drop p bytes)) ∙ ap (λ x. x ++ drop (to - p) (drop p bytes)) e);
  place = let l = length-take p bytes in omega (arith, l, le, low);
  short = short;
}

pub one_name : (bytes : List ℕ) (p : ℕ) (n m : List ℕ) → NameAt bytes p n → NameAt bytes p m → n ≡ m
one_name bytes p n m h k = (name_free n m (length n ∷ n) (length m ∷ m) h.rest k.rest (h.short, refl) (k.short, refl) (sym (behind bytes p n h) ∙ behind bytes p m k)).1

-- The entry with an index, from 1.
pub entry_at : {A : Type 0} (P : ℕ → A → Type 0) (ps : List ℕ) (xs : List A) (i : ℕ) → AllAt P ps xs → IsItemAt P (entry ps i) (entry xs i)
entry_at P ps xs i h = by (nat_le 1 i)
  where
    by : (b : Bool) → IsItemAt P (cond b (slice_get ps (i - 1)) None) (cond b (slice_get xs (i - 1)) None)
    by true = item_at P ps xs (i - 1) h
    by false = tt

pub found_at : {A : Type 0} (P : ℕ → A → Type 0) (ps : List ℕ) (xs : List A) (i p : ℕ) → AllAt P ps xs → entry ps i ≡ Some p → (x : A) × (entry xs i ≡ Some x) × P p x
found_at {A} P ps xs i p h e = by (entry xs i) refl (subst (λ o. IsItemAt P o (entry xs i)) e (entry_at P ps xs i h))
  where
    by : (found : Option A) → entry xs i ≡ found → IsItemAt P (Some p) found → (x : A) × (entry xs i ≡ Some x) × P p x
    by (Some x) f k = (x, f, k)
    by None f k = absurd k

pub none_at : {A : Type 0} (P : ℕ → A → Type 0) (ps : List ℕ) (xs : List A) (i : ℕ) → AllAt P ps xs → entry ps i ≡ None → entry xs i ≡ None
none_at {A} P ps xs i h e = by (entry xs i) (subst (λ o. IsItemAt P o (entry xs i)) e (entry_at P ps xs i h))
  where
    by : (found : Option A) → IsItemAt P None found → found ≡ None
    by (Some x) k = absurd k
    by None k = refl

some_at : {A : Type 0} (P : ℕ → A → Type 0) (place : Option ℕ) (found : Option A) → IsItemAt P place found → IfSome place (λ p. (x : A) × P p x)
some_at P (Some p) (Some x) h = (x, h)
some_at P None None h = tt
some_at P (Some p) None h = absurd h
some_at P None (Some x) h = absurd h

one_at : (bytes : List ℕ) (place : Option ℕ) (found other : Option (List ℕ)) → IsItemAt (NameAt bytes) place found → IsItemAt (NameAt bytes) place other → found ≡ other
one_at bytes (Some p) (Some n) (Some m) h k = ap (λ (x : List ℕ). Some x) (one_name bytes p n m h k)
one_at bytes None None None h k = refl
one_at bytes (Some p) None other h k = absurd h
one_at bytes None (Some n) other h k = absurd h
one_at bytes (Some p) (Some n) None h k = absurd k
one_at bytes None None (Some m) h k = absurd k

-- The name with an index, in the bytes of the module.
module _ (whole ps : List ℕ) (ns : List (List ℕ)) (i : ℕ) (h : AllAt (NameAt whole) ps ns) (bytes : List ℕ) (same : bytes ≡ whole) (place : Option ℕ) (is : place ≡ entry ps i) where
  there : IsItemAt (NameAt bytes) place (entry ns i)
  there = subst (λ b. IsItemAt (NameAt b) place (entry ns i)) (sym same) (subst (λ o. IsItemAt (NameAt whole) o (entry ns i)) (sym is) (entry_at (NameAt whole) ps ns i h))

  pub has_name : IfSome place (HasName bytes)
  has_name = some_at (NameAt bytes) place (entry ns i) there

  pub is_name : (found : Option (List ℕ)) → IsItemAt (NameAt bytes) place found → found ≡ entry ns i
  is_name found f = one_at bytes place found (entry ns i) f there

record_behind : (bytes : List ℕ) (p : ℕ) (r : Rec) (h : RecordAt bytes p r) → drop p bytes ≡ raw_bytes h.one ++ h.rest
record_behind bytes p r h = ap (λ k. drop k bytes) h.place ∙ ap (drop (length h.front)) h.spelled ∙ drop-append_seam h.front (raw_bytes h.one ++ h.rest)

pub record_starts : (bytes : List ℕ) (p : ℕ) (r : Rec) → RecordAt bytes p r → StartsWithRecord (drop p bytes)
record_starts bytes p r h = record { first = h.one; rest = h.rest; spelled = record_behind bytes p r h; readable = h.readable }

pub record_low : (bytes : List ℕ) (p : ℕ) (r : Rec) → RecordAt bytes p r → p ≤ length bytes
record_low bytes p r h = let e = h.place in let l = ap length h.spelled ∙ length-append h.front (raw_bytes h.one ++ h.rest) in omega (arith, e, l)

pub record_is : (bytes : List ℕ) (p : ℕ) (r : Rec) → RecordAt bytes p r → typed (front_record (present (drop p bytes))) ≡ r
record_is bytes p r h =
    let small = h.readable.is_record.0 in
    ap (λ x. typed (front_record (present x))) (record_behind bytes p r h) ∙ ap (λ x. typed (front_record x)) (present_raw h.one small h.rest)
    ∙ ap typed (front_raw h.one small) ∙ h.is

-- The record of a group is a record.
pub record_of : (bytes : List ℕ) (p : ℕ) (g : GroupItem) (h : GroupAt bytes p g) → RecordAt bytes p (typed h.one)
record_of bytes p g h = record { front = h.front; rest = h.rest; one = h.one; spelled = h.spelled; place = h.place; readable = h.readable; is = refl }

pub group_is : (bytes : List ℕ) (p : ℕ) (g : GroupItem) → GroupAt bytes p g → (typed (front_record (present (drop p bytes)))).contents ≡ Group g
group_is bytes p g h = ap (λ r. r.contents) (record_is bytes p (typed h.one) (record_of bytes p g h)) ∙ h.is
