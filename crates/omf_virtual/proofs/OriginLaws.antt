-- The number of records that replace each record.
use Rattle.std.proofs.Common.{◌≡◌, ◌∙◌, ℕ, suc, ◌+◌, Bool, true, false, cond, List, [], ◌∷◌, ◌++◌, length, take, drop, refl, sym, ap, append_assoc}
use Rattle.std.specs.Prelude.{◌&&◌, IfOk, IfSome, Option, Some, None, Result, Ok, Err, is_some, map}
use Rattle.std.specs.List.{list_any}
use Rattle.omf_frame.specs.Bytes.{with_before}
use Rattle.omf_frame.specs.Framing.{Raw}
use Rattle.omf_records.specs.Values.{At}
use Rattle.omf_explicit.specs.Explicit.{is_right}
use Rattle.omf_explicit.specs.Modules.{IsModule}
use Rattle.omf_virtual.specs.Inner.Counts.{count_of}
use Rattle.omf_virtual.specs.Origins.{ComesFrom, comdats_origin, count, counts_by}
use Rattle.omf_virtual.specs.Values.{Before, EntryItem, Table}
use Rattle.omf_virtual.specs.Virtual.{data_in_place, data_of, entries_of, entry_records, externals_in, in_place, is_comdef, is_data, lnames_in, references_in_place, so_far}

entries_count : (t : Table) (before : ℕ) (es : List (At EntryItem)) → length (entry_records t before es) ≡ length es
entries_count t before [] = refl
entries_count t before (e ∷ es) = ap suc (entries_count t (before + 1) es)

by_case : (a b c : Bool) (xs : List Raw) (x y z : Raw) (n : ℕ) → length xs ≡ n → length (cond a (cond b xs (x ∷ [])) (cond c (y ∷ []) (z ∷ []))) ≡ cond a (cond b n 1) 1
by_case true true c xs x y z n e = e
by_case true false c xs x y z n e = refl
by_case false b true xs x y z n e = refl
by_case false b false xs x y z n e = refl

count_is : (t : Table) (b : Before) (r : Raw) → length (in_place t b r) ≡ count_of r
count_is t b r =
    by_case (is_comdef r.kind) (is_right r && list_any (λ x. is_some x) (externals_in r)) (is_data r.kind) (entry_records t b.passed (entries_of r.body)) r (data_in_place t b r (data_of r))
    (references_in_place t.virtuals r) (length (entries_of r.body)) (entries_count t b.passed (entries_of r.body))

counts_are : (t : Table) (before rs : List Raw) → with_before (count t) before rs ≡ map count_of rs
counts_are t before [] = refl
counts_are t before (r ∷ rs) = ap (λ n. n ∷ with_before (count t) (before ++ r ∷ []) rs) (count_is t (so_far t.virtuals before) r) ∙ ap (λ l. count_of r ∷ l) (counts_are t (before ++ r ∷ []) rs)

-- the counts of the front, the number of LNAMES, and the counts of the back
pub all_counts : (t : Table) (n added : ℕ) (rs : List Raw) (o0 o1 o2 o3 : List ℕ) → o0 ≡ [] → o1 ≡ o0 ++ map count_of (take n rs) → added ≡ length (lnames_in t) → o2 ≡ o1 ++ added ∷ [] → o3 ≡ o2 ++ map count_of (drop n rs)
    → o3 ≡ counts_by t n rs
all_counts t n added rs o0 o1 o2 o3 e0 e1 names e2 e3 =
    let front = counts_are t [] (take n rs) in
    let back = counts_are t (take n rs) (drop n rs) in
    let first : o1 ≡ with_before (count t) [] (take n rs) = e1 ∙ ap (λ l. l ++ map count_of (take n rs)) e0 ∙ sym front in
    e3 ∙ ap (λ l. l ++ map count_of (drop n rs)) (e2 ∙ ap (λ l. l ++ added ∷ []) first ∙ ap (λ k. with_before (count t) [] (take n rs) ++ k ∷ []) names)
    ∙ append_assoc (with_before (count t) [] (take n rs)) (length (lnames_in t) ∷ []) (map count_of (drop n rs))
    ∙ ap (λ l. with_before (count t) [] (take n rs) ++ length (lnames_in t) ∷ l) (sym back)

pub origin_comes : {E : Type 0} (input rest : List ℕ) (rs : List Raw) (number : ℕ) (r : Result (Option ℕ) E) → IsModule input rs rest → IfOk r (λ found. found ≡ comdats_origin rs number)
    → IfOk r (λ found. IfSome found (λ n. ComesFrom input number n))
origin_comes input rest rs number (Ok (Some n)) m e = record { records = rs; rest = rest; read = m; is = sym e }
origin_comes input rest rs number (Ok None) m e = tt
origin_comes input rest rs number (Err f) m e = e
