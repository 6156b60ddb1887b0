-- Records with each replaced, one after another.
use Rattle.std.proofs.Common.{◌≡◌, ◌∙◌, ℕ, suc, ◌+◌, ◌<◌, ◌≤◌, Bool, true, false, cond, List, [], ◌∷◌, ◌++◌, length, length-append, drop, drop-cons, get_or, add-one, append_assoc, append-nil, refl, sym, ap, arith}
use Rattle.std.specs.Prelude.{flat_map}
use Rattle.std.specs.List.{filter}
use Rattle.std.proofs.lemmas.Grind.{flat_map-append}
use Rattle.std.proofs.lemmas.List.{drop_all}
use Rattle.std.proofs.lemmas.List.Elements.{filter-append}
use Rattle.omf_frame.specs.Bytes.{with_before}
use Rattle.omf_frame.specs.Framing.{Raw, raw_bytes}
use Rattle.omf_explicit.specs.Explicit.{is_segdef, segment_count}
use Rattle.omf_aligned.specs.Aligned.{replacement}

-- what replaces records, by the index of the next segment
abbrev pub next_index : ℕ → Raw → ℕ
next_index index r = cond (is_segdef r.kind) (index + 1) index

abbrev pub replaced_from : ℕ → List Raw → List Raw
replaced_from index [] = []
replaced_from index (r ∷ rs) = replacement index r ++ replaced_from (next_index index r) rs

one_count : (b : Bool) (r : Raw) (n : ℕ) → n + length (cond b (r ∷ []) []) ≡ cond b (n + 1) n
one_count true r n = refl
one_count false r n = omega arith

later : (b : Bool) (n : ℕ) → cond b (n + 1 + 1) (n + 1) ≡ cond b (n + 1) n + 1
later true n = refl
later false n = refl

count_more : (before : List Raw) (r : Raw) → next_index (segment_count before + 1) r ≡ segment_count (before ++ r ∷ []) + 1
count_more before r =
    let all = ap length (filter-append (λ x. is_segdef x.kind) before (r ∷ [])) in
    let both = length-append (filter (λ x. is_segdef x.kind) before) (filter (λ x. is_segdef x.kind) (r ∷ [])) in
    let one = one_count (is_segdef r.kind) r (segment_count before) in
    later (is_segdef r.kind) (segment_count before) ∙ ap (λ n. n + 1) (sym (all ∙ both ∙ one))

pub replaced_is : (before rs : List Raw) → replaced_from (segment_count before + 1) rs ≡ with_before (λ b r. replacement (segment_count b + 1) r) before rs
replaced_is before [] = refl
replaced_is before (r ∷ rs) = ap (λ l. replacement (segment_count before + 1) r ++ l) (ap (λ n. replaced_from n rs) (count_more before r) ∙ replaced_is (before ++ r ∷ []) rs)

-- one more record
pub next_then : (index next kind : ℕ) (r : Raw) → kind ≡ r.kind → is_segdef kind ≡ true → next ≡ index + 1 → next ≡ next_index index r
next_then index next kind r k is n = n ∙ sym (ap (λ x. cond x (index + 1) index) (ap is_segdef (sym k) ∙ is))

pub next_else : (index next kind : ℕ) (r : Raw) → kind ≡ r.kind → is_segdef kind ≡ false → next ≡ index → next ≡ next_index index r
next_else index next kind r k is n = n ∙ sym (ap (λ x. cond x (index + 1) index) (ap is_segdef (sym k) ∙ is))

small : (b : Bool) (n : ℕ) → cond b (n + 1) n ≤ n + 1
small true n = omega arith
small false n = omega arith

pub next_small : (index next : ℕ) (r : Raw) → next ≡ next_index index r → next ≤ index + 1
next_small index next r n = let low = small (is_segdef r.kind) index in omega (arith, low, n)

pub replaced_more : (old new all : List ℕ) (rs : List Raw) (i index next : ℕ) (d x : Raw) → i < length rs → x ≡ get_or rs i d → next ≡ next_index index x → new ≡ old ++ flat_map raw_bytes (replacement index x)
    → old ++ flat_map raw_bytes (replaced_from index (drop i rs)) ≡ all → new ++ flat_map raw_bytes (replaced_from next (drop (i + 1) rs)) ≡ all
replaced_more old new all rs i index next d x low here n more same =
    let rest = drop (suc i) rs in
    ap (λ k. new ++ flat_map raw_bytes (replaced_from next (drop k rs))) (add-one i)
    ∙ ap (λ l. l ++ flat_map raw_bytes (replaced_from next rest)) more
    ∙ append_assoc old (flat_map raw_bytes (replacement index x)) (flat_map raw_bytes (replaced_from next rest))
    ∙ ap (λ l. old ++ l) (sym (flat_map-append raw_bytes (replacement index x) (replaced_from next rest)))
    ∙ ap (λ k. old ++ flat_map raw_bytes (replacement index x ++ replaced_from k rest)) n
    ∙ ap (λ y. old ++ flat_map raw_bytes (replaced_from index (y ∷ rest))) here
    ∙ ap (λ l. old ++ flat_map raw_bytes (replaced_from index l)) (sym (drop-cons rs i d low))
    ∙ same

-- no more records
pub replaced_all : (out all : List ℕ) (rs : List Raw) (i index : ℕ) → length rs ≤ i → out ++ flat_map raw_bytes (replaced_from index (drop i rs)) ≡ all → out ≡ all
replaced_all out all rs i index high same = sym (ap (λ l. out ++ flat_map raw_bytes (replaced_from index l)) (drop_all i rs high) ∙ append-nil out) ∙ same
