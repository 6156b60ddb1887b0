-- Records one after another, with what the module has up to each.
use Rattle.std.proofs.Common.{◌≡◌, ◌∙◌, ℕ, suc, ◌+◌, ◌<◌, List, [], ◌∷◌, ◌++◌, length, drop, drop-cons, get_or, add-one, append_assoc, append-nil, length-append, refl, sym, ap}
use Rattle.std.specs.Prelude.{Option, flat_map, fold, map, sum}
use Rattle.std.proofs.lemmas.Grind.{flat_map-append}
use Rattle.std.proofs.lemmas.List.Sums.{fold-append, sum_by-cons}
use Rattle.omf_frame.specs.Bytes.{with_before}
use Rattle.omf_frame.specs.Framing.{Raw, raw_bytes}
use Rattle.omf_records.specs.Values.{At}
use Rattle.omf_explicit.specs.Explicit.{distinct, with_number}
use Rattle.omf_virtual.specs.Inner.Writing.{up_to_next, with_state}
use Rattle.omf_virtual.specs.Values.{Before, EntryItem, Table, VirtualItem}
use Rattle.omf_virtual.specs.Virtual.{entry_record, entry_records, externals, externals_in, in_place, indices, indices_in, lnames_in, names_in, replaced, so_far}

before_is : ℕ → List ℕ → Before
before_is n ns = record { passed = n; filled = ns }

-- it begins with nothing
pub begins : (xs : List (Option VirtualItem)) (b : Before) → b.passed ≡ 0 → b.filled ≡ [] → b ≡ so_far xs []
unfolding before_is
begins xs b none empty = ap (λ n. before_is n b.filled) none ∙ ap (before_is 0) empty

-- what the module has up to the next record
module _ (xs : List (Option VirtualItem)) where
  pub so_far_more : (before : List Raw) (r : Raw) → up_to_next xs (so_far xs before) r ≡ so_far xs (before ++ r ∷ [])
  unfolding before_is
  so_far_more before r =
      let count : length (externals before) + length (externals_in r) ≡ length (externals (before ++ r ∷ [])) =
      sym (length-append (externals before) (externals_in r))
      ∙ ap (λ (l : List (Option VirtualItem)). length (externals before ++ l)) (sym (append-nil (externals_in r)))
      ∙ ap length (sym (flat_map-append externals_in before (r ∷ []))) in
      let own : fold with_number (distinct (indices xs before)) (indices_in xs r) ≡ distinct (indices xs (before ++ r ∷ [])) =
      sym (fold-append with_number [] (indices xs before) (indices_in xs r))
      ∙ ap (λ (l : List ℕ). distinct (indices xs before ++ l)) (sym (append-nil (indices_in xs r)))
      ∙ ap distinct (sym (flat_map-append (indices_in xs) before (r ∷ []))) in
      ap (λ n. before_is n (fold with_number (distinct (indices xs before)) (indices_in xs r))) count ∙ ap (before_is (length (externals (before ++ r ∷ [])))) own

  pub so_far_all : (before rs : List Raw) (b : Before) → b ≡ so_far xs before → fold (up_to_next xs) b rs ≡ so_far xs (before ++ rs)
  so_far_all before [] b same = same ∙ ap (so_far xs) (sym (append-nil before))
  so_far_all before (r ∷ rs) b same =
      so_far_all (before ++ r ∷ []) rs (up_to_next xs b r) (ap (λ s. up_to_next xs s r) same ∙ so_far_more before r) ∙ ap (so_far xs) (append_assoc before (r ∷ []) rs)

pub with_state_is : (t : Table) (before rs : List Raw) (b : Before) → b ≡ so_far t.virtuals before → with_state t b rs ≡ with_before (replaced t) before rs
with_state_is t before [] b same = refl
with_state_is t before (r ∷ rs) b same =
    let others = with_state_is t (before ++ r ∷ []) rs (up_to_next t.virtuals b r) (ap (λ s. up_to_next t.virtuals s r) same ∙ so_far_more t.virtuals before r) in
    ap (λ s. in_place t s r ++ with_state t (up_to_next t.virtuals b r) rs) same ∙ ap (λ l. replaced t before r ++ l) others

-- a loop appends what each record gives
module _ (t : Table) where
  pub state_more : (old new all : List ℕ) (rs : List Raw) (i : ℕ) (d r : Raw) (b next : Before) → i < length rs → r ≡ get_or rs i d → new ≡ old ++ flat_map raw_bytes (in_place t b r)
      → next ≡ up_to_next t.virtuals b r → old ++ flat_map raw_bytes (with_state t b (drop i rs)) ≡ all → new ++ flat_map raw_bytes (with_state t next (drop (i + 1) rs)) ≡ all
  state_more old new all rs i d r b next low here more up same =
      let x = get_or rs i d in
      let rest = with_state t (up_to_next t.virtuals b x) (drop (suc i) rs) in
      ap (λ n. new ++ flat_map raw_bytes (with_state t next (drop n rs))) (add-one i)
      ∙ ap (λ s. new ++ flat_map raw_bytes (with_state t s (drop (suc i) rs))) (up ∙ ap (up_to_next t.virtuals b) here)
      ∙ ap (λ l. l ++ flat_map raw_bytes rest) (more ∙ ap (λ y. old ++ flat_map raw_bytes (in_place t b y)) here)
      ∙ append_assoc old (flat_map raw_bytes (in_place t b x)) (flat_map raw_bytes rest)
      ∙ ap (λ l. old ++ l) (sym (flat_map-append raw_bytes (in_place t b x) rest))
      ∙ ap (λ l. old ++ flat_map raw_bytes (with_state t b l)) (sym (drop-cons rs i d low))
      ∙ same

  pub folds_more : (all : Before) (rs : List Raw) (i : ℕ) (d r : Raw) (b next : Before) → i < length rs → r ≡ get_or rs i d → next ≡ up_to_next t.virtuals b r
      → fold (up_to_next t.virtuals) b (drop i rs) ≡ all → fold (up_to_next t.virtuals) next (drop (i + 1) rs) ≡ all
  folds_more all rs i d r b next low here up same =
      ap (λ n. fold (up_to_next t.virtuals) next (drop n rs)) (add-one i)
      ∙ ap (λ s. fold (up_to_next t.virtuals) s (drop (suc i) rs)) (up ∙ ap (up_to_next t.virtuals b) here)
      ∙ ap (fold (up_to_next t.virtuals) b) (sym (drop-cons rs i d low))
      ∙ same

  pub entries_more : (old new all : List ℕ) (es : List (At EntryItem)) (i count next : ℕ) (d e : At EntryItem) → i < length es → e ≡ get_or es i d → next ≡ count + 1
      → new ≡ old ++ raw_bytes (entry_record t next e.item) → old ++ flat_map raw_bytes (entry_records t count (drop i es)) ≡ all
      → new ++ flat_map raw_bytes (entry_records t next (drop (i + 1) es)) ≡ all
  entries_more old new all es i count next d e low here up more same =
      let x = get_or es i d in
      let rest = flat_map raw_bytes (entry_records t (count + 1) (drop (suc i) es)) in
      ap (λ n. new ++ flat_map raw_bytes (entry_records t next (drop n es))) (add-one i)
      ∙ ap (λ n. new ++ flat_map raw_bytes (entry_records t n (drop (suc i) es))) up
      ∙ ap (λ l. l ++ rest) (more ∙ ap (λ (y : At EntryItem). old ++ raw_bytes (entry_record t next y.item)) here ∙ ap (λ n. old ++ raw_bytes (entry_record t n x.item)) up)
      ∙ append_assoc old (raw_bytes (entry_record t (count + 1) x.item)) rest
      ∙ ap (λ l. old ++ flat_map raw_bytes (entry_records t count l)) (sym (drop-cons es i d low))
      ∙ same

-- a loop appends the bytes of the records that each element gives
pub makes_more : {A : Type 0} (f : A → List Raw) (old new all : List ℕ) (xs : List A) (i : ℕ) (d x : A) → i < length xs → x ≡ get_or xs i d → new ≡ old ++ flat_map raw_bytes (f x)
    → old ++ flat_map raw_bytes (flat_map f (drop i xs)) ≡ all → new ++ flat_map raw_bytes (flat_map f (drop (i + 1) xs)) ≡ all
makes_more f old new all xs i d x low here more same =
    let y = get_or xs i d in
    let rest = flat_map f (drop (suc i) xs) in
    ap (λ n. new ++ flat_map raw_bytes (flat_map f (drop n xs))) (add-one i)
    ∙ ap (λ l. l ++ flat_map raw_bytes rest) (more ∙ ap (λ z. old ++ flat_map raw_bytes (f z)) here)
    ∙ append_assoc old (flat_map raw_bytes (f y)) (flat_map raw_bytes rest)
    ∙ ap (λ l. old ++ l) (sym (flat_map-append raw_bytes (f y) rest))
    ∙ ap (λ l. old ++ flat_map raw_bytes (flat_map f l)) (sym (drop-cons xs i d low))
    ∙ same

-- the bytes of all: of the front, of the names, and of the back
pub written_is : (t : Table) (front back : List Raw) (b0 b1 : Before) (o0 o1 o2 o3 : List ℕ) → b0 ≡ so_far t.virtuals [] → o0 ≡ []
    → o1 ≡ o0 ++ flat_map raw_bytes (with_state t b0 front) → b1 ≡ fold (up_to_next t.virtuals) b0 front → o2 ≡ o1 ++ flat_map raw_bytes (lnames_in t)
    → o3 ≡ o2 ++ flat_map raw_bytes (with_state t b1 back)
    → o3 ≡ flat_map raw_bytes (with_before (replaced t) [] front ++ lnames_in t ++ with_before (replaced t) front back)
written_is t front back b0 b1 o0 o1 o2 o3 s0 n0 e1 s1 e2 e3 =
    let f = with_before (replaced t) [] front in
    let k = with_before (replaced t) front back in
    let first : o1 ≡ flat_map raw_bytes f = e1 ∙ ap (λ l. l ++ flat_map raw_bytes (with_state t b0 front)) n0 ∙ ap (flat_map raw_bytes) (with_state_is t [] front b0 s0) in
    let last : with_state t b1 back ≡ k = with_state_is t front back b1 (s1 ∙ so_far_all t.virtuals [] front b0 s0) in
    e3 ∙ ap (λ l. o2 ++ flat_map raw_bytes l) last
    ∙ ap (λ l. l ++ flat_map raw_bytes k) (e2 ∙ ap (λ l. l ++ flat_map raw_bytes (lnames_in t)) first)
    ∙ append_assoc (flat_map raw_bytes f) (flat_map raw_bytes (lnames_in t)) (flat_map raw_bytes k)
    ∙ ap (λ l. flat_map raw_bytes f ++ l) (sym (flat_map-append raw_bytes (lnames_in t) k))
    ∙ sym (flat_map-append raw_bytes f (lnames_in t ++ k))
    ∙ ap (flat_map raw_bytes) (sym (append_assoc f (lnames_in t) k))

-- the numbers of names, added
pub sums_more : (rs : List Raw) (i : ℕ) (d r : Raw) → i < length rs → r ≡ get_or rs i d → names_in r + sum (map names_in (drop (i + 1) rs)) ≡ sum (map names_in (drop i rs))
sums_more rs i d r low here =
    ap (λ n. names_in r + sum (map names_in (drop n rs))) (add-one i)
    ∙ ap (λ x. names_in x + sum (map names_in (drop (suc i) rs))) here
    ∙ sym (sum_by-cons (λ n. n) (names_in (get_or rs i d)) (map names_in (drop (suc i) rs)))
    ∙ ap (λ l. sum (map names_in l)) (sym (drop-cons rs i d low))
