-- The texts of a module, line by line: what is written, what is kept, and the lines of what is left, are the whole text.
use Rattle.std.proofs.Common.{◌≡◌, ℕ, suc, ◌+◌, ◌-◌, ◌<◌, ◌≤◌, List, [], ◌∷◌, ◌++◌, Bool, true, false, refl, sym, ap, subst, ◌∙◌, arith, length, length-append, append_assoc, drop}
use Rattle.std.proofs.lemmas.Grind.{flat_map-append}
use Rattle.std.proofs.lemmas.List.{append-nil, drop_all, nil_from_length}
use Rattle.std.proofs.lemmas.Bool.{le-leb}
use Rattle.std.proofs.lemmas.Option.{slice_get_within, get_or_from_slice_get, slice_get-get_or}
use Rattle.std.proofs.Math.Seq.{drop-cons}
use Rattle.std.specs.List.{enumerate_from}
use Rattle.std.specs.Result.{IsErr}
use Rattle.std.specs.Prelude.{flat_map, Result, Option, Some, None, option_map, slice_get, nat_le, cond, codes, decimal}
use Rattle.omf_frame.specs.Bytes.{with_before}
use Rattle.omf_frame.specs.Framing.{Raw, raw_bytes, front_record, present, after_front}
use Rattle.omf_records.specs.Inner.Reading.{typed}
use Rattle.omf_records.specs.Values.{Rec, Contents, Group, GroupItem}
use Rattle.omf_check.specs.Tables.{entry}
use Rattle.omf_check.specs.Listed.{placed_from}
use Rattle.omf_check.specs.WellFormed.{recs}
use Rattle.omf_frame.specs.Types.{type_name}
use Rattle.omf_cmd.specs.Inner.Names.{record_line}
use Rattle.omf_cmd.specs.Printed.{line}
use Rattle.omf_placement.specs.Quoted.{hex}
use Rattle.omf_cmd.specs.Runs.{IsPart}
use Rattle.omf_cmd.specs.Inner.Printing.{IsWrittenUpTo, Passes}
use Rattle.omf_cmd.specs.Listing.{public_lines}
use Rattle.omf_reloc.proofs.LeftLaws.{AreLeft, parts, left-kind, left-body, left-next}
use Rattle.omf_cmd.specs.declared.fault.RunFault.{RunFault}
use Rattle.omf_cmd.proofs.Pieces.{none_written, stopped_by, went_on}

-- ---- a list of any items

-- an item is due, and those after it
pub item_due : {A : Type 0} (f : A → List ℕ) (x : A) (all left : List A) (now due : List ℕ) → all ≡ x ∷ left → due ≡ now ++ f x → due ++ flat_map f left ≡ now ++ flat_map f all
item_due f x all left now due e is = ap (λ t. t ++ flat_map f left) is ∙ append_assoc now (f x) (flat_map f left) ∙ ap (λ l. now ++ flat_map f l) (sym e)

-- ---- the entries of a table, from 1 on

by_test : {A : Type 0} (b : Bool) (o : Option A) → b ≡ true → cond b o None ≡ o
by_test true o e = refl
by_test false o e = absurd cc

entry_is : {A : Type 0} (xs : List A) (i : ℕ) → entry xs (i + 1) ≡ slice_get xs i
entry_is xs i =
    let low : 1 ≤ i + 1 = omega arith in
    let back : i + 1 - 1 ≡ i = omega arith in
    by_test (nat_le 1 (i + 1)) (slice_get xs (i + 1 - 1)) (le-leb 1 (i + 1) low) ∙ ap (slice_get xs) back

left_from : {A : Type 0} (xs : List A) (i : ℕ) (x : A) → slice_get xs i ≡ Some x → drop i xs ≡ x ∷ drop (i + 1) xs
left_from xs i x e =
    let low = slice_get_within xs i x e in
    let a : suc i ≡ i + 1 = omega arith in
    drop-cons xs i x low ∙ ap (λ y. y ∷ drop (suc i) xs) (get_or_from_slice_get xs i x x e) ∙ ap (λ k. x ∷ drop k xs) a

-- the lines of a table from an entry on
abbrev pub lines_from : {A : Type 0} → (ℕ × A → List ℕ) → List A → ℕ → List ℕ
lines_from f xs i = flat_map f (enumerate_from (i + 1) (drop i xs))

-- an entry is due, and those after it
pub entry_due : {A : Type 0} (f : ℕ × A → List ℕ) (xs : List A) (i : ℕ) (x : A) (now due : List ℕ) → entry xs (i + 1) ≡ Some x → due ≡ now ++ f (i + 1, x) → due ++ lines_from f xs (i + 1) ≡ now ++ lines_from f xs i
entry_due f xs i x now due here is =
    ap (λ t. t ++ lines_from f xs (i + 1)) is ∙ append_assoc now (f (i + 1, x)) (lines_from f xs (i + 1))
    ∙ ap (λ l. now ++ flat_map f (enumerate_from (i + 1) l)) (sym (left_from xs i x (sym (entry_is xs i) ∙ here)))

-- behind the last entry none is due
pub none_due : {A : Type 0} (f : ℕ × A → List ℕ) (xs : List A) (i : ℕ) (now : List ℕ) → length xs ≤ i → now ++ lines_from f xs i ≡ now
none_due f xs i now le = ap (λ l. now ++ flat_map f (enumerate_from (i + 1) l)) (drop_all i xs le) ∙ append-nil now

-- a table has its entries
pub has_entry : {A : Type 0} (xs : List A) (i n : ℕ) → n ≡ length xs → i < n → entry xs (i + 1) ≡ None → ⊥
has_entry [] i n e low none = absurd (omega (arith, e, low))
has_entry (x ∷ xs) i n e low none =
    let le : i < length (x ∷ xs) = omega (arith, e, low) in
    absurd (clash _ (sym (slice_get-get_or (x ∷ xs) i x le) ∙ sym (entry_is (x ∷ xs) i) ∙ none))
  where
    clash : {A : Type 0} (y : A) → Some y ≡ None → ⊥
    clash y e = cc

-- a typed record of a group that is there
pub group_here : (c : Contents) (o : Option GroupItem) → Some c ≡ option_map Group o → (g : GroupItem) × (o ≡ Some g) × (c ≡ Group g)
group_here c None e = absurd cc
group_here c (Some g) e = (g, refl, of_some e)
  where
    of_some : {A : Type 0} {x y : A} → Some x ≡ Some y → x ≡ y
    of_some e = cc

pub no_group : (o : Option GroupItem) → None ≡ option_map Group o → o ≡ None
no_group None e = refl
no_group (Some g) e = absurd cc

-- ---- records, one after another

more_left : (records before after : List Raw) (number count : ℕ) → records ≡ before ++ after → number ≡ length before → count ≡ length records → number < count → 0 < length after
more_left records before after number count all n c low =
    let s = ap (λ (rs : List Raw). length rs) all ∙ length-append before after in
    omega (arith, s, n, c, low)

filled_by : (rs : List Raw) (left : List ℕ) → left ≡ flat_map raw_bytes rs → 0 < length rs → 0 < length left
filled_by [] left e low = absurd (omega (arith, low))
filled_by (r ∷ rs) left e low = let s = ap (λ (b : List ℕ). length b) e ∙ length-append (raw_bytes r) (flat_map raw_bytes rs) in omega (arith, s)

-- the line of a record, by what is printed
line_of : (before : List Raw) (one : Raw) (number start kind size : ℕ) → number ≡ length before → start ≡ length (flat_map raw_bytes before) → kind ≡ one.kind → size ≡ length one.body
    → line (codes "R" ∷ decimal number ∷ hex 8 start ∷ hex 2 kind ∷ decimal size ∷ type_name kind ∷ []) ≡ record_line before one
line_of before one number start kind size a b c d = rw (a, b, c, d) refl

-- the records that are left, from one of this number on, and their lines, which are still to be written
pub record AreWritten (records : List Raw) (number : ℕ) (left : List ℕ) (held held' : Option (List ℕ)) (old now : List ℕ) : Type 0 where
  pub before : List Raw
  pub after : List Raw
  pub all : records ≡ before ++ after
  pub count : number ≡ length before
  pub are_left : AreLeft left after
  pub written : IsWrittenUpTo held held' (old ++ with_before record_line [] records) (now ++ with_before record_line before after)

pub none_yet : (records : List Raw) (left : List ℕ) (held : Option (List ℕ)) (old : List ℕ) → AreLeft left records → AreWritten records 0 left held held old old
none_yet records left held old h = record { before = []; after = records; all = refl; count = refl; are_left = h; written = none_written held (old ++ with_before record_line [] records) }

pub all_written : (records : List Raw) (number count : ℕ) (left : List ℕ) (held held' : Option (List ℕ)) (old now : List ℕ) → AreWritten records number left held held' old now → count ≡ length records → count ≤ number
    → IsWrittenUpTo held held' (old ++ with_before record_line [] records) now
all_written records number count left held held' old now h c low =
    let s = ap (λ (rs : List Raw). length rs) h.all ∙ length-append h.before h.after in
    let n = h.count in
    let none : h.after ≡ [] = nil_from_length h.after (omega (arith, s, n, c, low)) in
    subst (IsWrittenUpTo held held' (old ++ with_before record_line [] records)) (ap (λ l. now ++ with_before record_line h.before l) none ∙ append-nil now) h.written

-- the bytes before them are those of the records before them
pub not_before : (bytes : List ℕ) (records : List Raw) (number : ℕ) (left : List ℕ) (held held' : Option (List ℕ)) (old now : List ℕ) (h : AreWritten records number left held held' old now) → bytes ≡ flat_map raw_bytes records
    → length bytes ≡ length (flat_map raw_bytes h.before) + length left
not_before bytes records number left held held' old now h e =
    ap (λ (b : List ℕ). length b) (e ∙ ap (flat_map raw_bytes) h.all ∙ flat_map-append raw_bytes h.before h.after)
    ∙ length-append (flat_map raw_bytes h.before) (flat_map raw_bytes h.after)
    ∙ ap (λ (b : List ℕ). length (flat_map raw_bytes h.before) + length b) (sym h.are_left.spelled)

pub left_within : (bytes : List ℕ) (records : List Raw) (number : ℕ) (left : List ℕ) (held held' : Option (List ℕ)) (old now : List ℕ) → AreWritten records number left held held' old now → bytes ≡ flat_map raw_bytes records
    → length left ≤ length bytes
left_within bytes records number left held held' old now h e = let s = not_before bytes records number left held held' old now h e in omega (arith, s)

module _ (records : List Raw) (number count : ℕ) (left : List ℕ) (held held' : Option (List ℕ)) (old now : List ℕ) (h : AreWritten records number left held held' old now) (c : count ≡ length records) (low : number < count) where
  pub more_bytes : 0 < length left
  more_bytes = filled_by h.after left h.are_left.spelled (more_left records h.before h.after number count h.all h.count c low)

  abbrev one : Raw
  one = (parts left h.after h.are_left more_bytes).0

  abbrev more : List Raw
  more = (parts left h.after h.are_left more_bytes).1

  split : h.after ≡ one ∷ more
  split = (parts left h.after h.are_left more_bytes).2

  abbrev passed : List Raw
  passed = h.before ++ one ∷ []

  here : IsWrittenUpTo held held' (old ++ with_before record_line [] records) (now ++ (record_line h.before one ++ with_before record_line passed more))
  here = subst (λ (rs : List Raw). IsWrittenUpTo held held' (old ++ with_before record_line [] records) (now ++ with_before record_line h.before rs)) split h.written

  module _ (bytes : List ℕ) (e : bytes ≡ flat_map raw_bytes records) (start kind : ℕ) (body : List ℕ) (s : start ≡ length bytes - length left) (k : kind ≡ (front_record (present left)).kind) (b : body ≡ (front_record (present left)).body)
      (due : List ℕ) (p : due ≡ now ++ line (codes "R" ∷ decimal number ∷ hex 8 start ∷ hex 2 kind ∷ decimal (length body) ∷ type_name kind ∷ [])) where
    -- its line is due, and those of the records after it
    line_due : due ++ with_before record_line passed more ≡ now ++ (record_line h.before one ++ with_before record_line passed more)
    line_due =
        let size = not_before bytes records number left held held' old now h e in
        let at : start ≡ length (flat_map raw_bytes h.before) = omega (arith, s, size) in
        ap (λ t. t ++ with_before record_line passed more)
        (p ∙ ap (λ l. now ++ l) (line_of h.before one number start kind (length body) h.count at (left-kind left h.after h.are_left more_bytes kind k) (ap (λ (x : List ℕ). length x) (left-body left h.after h.are_left more_bytes body b))))
        ∙ append_assoc now (record_line h.before one) (with_before record_line passed more)

    -- it went on
    pub more_written : (rest : List ℕ) → rest ≡ after_front left → (held'' : Option (List ℕ)) (kept : List ℕ) → IsWrittenUpTo held' held'' due kept → AreWritten records (number + 1) rest held held'' old kept
    more_written rest r held'' kept w = record {
      before = passed;
      after = more;
      all = h.all ∙ ap (λ (rs : List Raw). h.before ++ rs) split ∙ sym (append_assoc h.before (one ∷ []) more);
      count = ap (λ (n : ℕ). n + 1) h.count ∙ sym (length-append h.before (one ∷ []));
      are_left = left-next left h.after h.are_left more_bytes rest r;
      written = went_on held held' held'' (old ++ with_before record_line [] records) (now ++ (record_line h.before one ++ with_before record_line passed more)) due (with_before record_line passed more) kept here line_due w;
    }

    -- a fault came while it went on
    pub line_stopped : (held'' : Option (List ℕ)) (kept : List ℕ) (r : Result (Unit {0}) RunFault) → IsErr r → IsPart held' held'' due → Passes held held'' r (old ++ with_before record_line [] records) kept
    line_stopped held'' kept r err part =
        stopped_by held held' held'' (old ++ with_before record_line [] records) (now ++ (record_line h.before one ++ with_before record_line passed more)) due (with_before record_line passed more) kept r err here line_due part

-- ---- publics, one record after another

abbrev pub rec_lines : Rec → List ℕ
rec_lines r = public_lines r.contents

-- the lines of numbered records
pub lines-listed : (number start : ℕ) (rs : List Raw) → flat_map (λ x. rec_lines x.1) (placed_from number start rs) ≡ flat_map rec_lines (recs rs)
lines-listed number start [] = refl
lines-listed number start (r ∷ rs) = ap (λ t. rec_lines (typed r) ++ t) (lines-listed (number + 1) (start + length (raw_bytes r)) rs)
