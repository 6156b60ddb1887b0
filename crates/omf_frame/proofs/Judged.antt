-- The tests that the code makes find the fault of framing.
use Rattle.std.proofs.Common.{◌≡◌, ℕ, ◌+◌, ◌*◌, ◌%◌, ◌<◌, Bool, true, false, cond, not, ◌||◌, is_none, Option, Some, None, List, [], ◌∷◌, length, sum, refl, sym, ap, ◌∙◌, arith, subst, lit<}
use Rattle.std.specs.Prelude.{◌==◌, nat_le, slice_index, option_map}
use Rattle.std.specs.Option.{option_or}
use Rattle.omf_frame.specs.Inner.Names.{is_unsupported, is_nonempty, lasting}
use Rattle.omf_frame.specs.declared.fault.Reason.{Reason}
use Rattle.omf_frame.specs.declared.fault.Reason.TheVariants as reason
use Rattle.omf_frame.specs.Fault.{Fault, reason_number, rule, broken, least, first_step}
use Rattle.omf_frame.specs.Framing.{is_taken, is_header, type_faults, standing_fault, frame_fault, is_whole, stated_length}
use Rattle.omf_frame.specs.Inner.Judging.{found, type_fault, whole_fault, fault_of}

no_some : {A : Type 0} (x : A) → Some x ≡ None → ⊥
no_some x e = cc

untrue_is : true ≡ false → ⊥
untrue_is e = cc

-- the steps, over the outcomes of the tests
abbrev steps : Bool → Bool → Bool → Bool → Bool → Bool → Bool → ℕ → ℕ → List (List Fault)
steps some taken unsupported whole empty checked header len at =
    broken (rule some 0 reason.NoEnd ∷ [])
    ∷ broken (rule (taken || unsupported) 0 reason.UnknownType ∷ rule (not unsupported) 0 reason.UnsupportedType ∷ [])
    ∷ broken (rule whole len reason.Cut ∷ [])
    ∷ broken (rule (not empty) 1 reason.EmptyRecord ∷ [])
    ∷ broken (rule checked at reason.Checksum ∷ [])
    ∷ broken (rule header 0 reason.NoHeader ∷ [])
    ∷ []

abbrev type_test : Bool → Bool → Option (Reason × ℕ)
type_test taken unsupported = cond unsupported (Some (reason.UnsupportedType, 0)) (cond taken None (Some (reason.UnknownType, 0)))

abbrev whole_test : Bool → Bool → Bool → Bool → ℕ → Option (Reason × ℕ)
whole_test whole empty checked header at =
    cond (not whole) None (cond empty (Some (reason.EmptyRecord, 1)) (cond (not checked) (Some (reason.Checksum, at)) (cond (not header) (Some (reason.NoHeader, 0)) None)))

tests_find : (t u w e c h : Bool) (len at : ℕ) → lasting (least (first_step (steps true t u w e c h len at))) ≡ option_map found (option_or (type_test t u) (whole_test w e c h at))
tests_find t true w e c h len at = by_type t
  where
    by_type : (t : Bool) → lasting (least (first_step (steps true t true w e c h len at))) ≡ option_map found (option_or (type_test t true) (whole_test w e c h at))
    by_type true = refl
    by_type false = refl
tests_find false false w e c h len at = refl
tests_find true false false e c h len at = refl
tests_find true false true true c h len at = refl
tests_find true false true false false h len at = refl
tests_find true false true false true false len at = refl
tests_find true false true false true true len at = refl

-- the permanent fault is the one that is computed
pub standing_is : (is_first : Bool) (bytes : List ℕ) → standing_fault is_first bytes ≡ option_map found (fault_of is_first bytes)
unfolding type_fault whole_fault
standing_is f [] = refl
standing_is f (t ∷ []) = tests_find (is_taken t) (is_unsupported t) false true ((slice_index (t ∷ []) 2 == 0) || (sum (t ∷ []) % 256 == 0)) (not f || is_header t) 1 2
standing_is f (t ∷ lo ∷ []) = tests_find (is_taken t) (is_unsupported t) false true ((slice_index (t ∷ lo ∷ []) 2 == 0) || (sum (t ∷ lo ∷ []) % 256 == 0)) (not f || is_header t) 2 2
standing_is f (t ∷ lo ∷ hi ∷ rest) = tests_find (is_taken t) (is_unsupported t) (nat_le (lo + 256 * hi) (length rest)) (lo + 256 * hi == 0) _ _ _ _

-- what the tests say where there is no permanent fault and the record is whole
pub all_hold : (t u w e c h : Bool) (len at : ℕ) → w ≡ true → lasting (least (first_step (steps true t u w e c h len at))) ≡ None
    → (t ≡ true) × (e ≡ false) × (c ≡ true) × (least (first_step (steps true t u w e c h len at)) ≡ None)
all_hold t u false e c h len at q n = absurd (untrue_is (sym q))
all_hold true true true e c h len at q n = absurd (no_some _ n)
all_hold false true true e c h len at q n = absurd (no_some _ n)
all_hold false false true e c h len at q n = absurd (no_some _ n)
all_hold true false true true c h len at q n = absurd (no_some _ n)
all_hold true false true false false h len at q n = absurd (no_some _ n)
all_hold true false true false true false len at q n = absurd (no_some _ n)
all_hold true false true false true true len at q n = (refl, refl, refl, refl)

-- what the tests say where there is no permanent fault and the record is not whole
pub cut_tests : (t u w e c h : Bool) (len at : ℕ) → w ≡ false → lasting (least (first_step (steps true t u w e c h len at))) ≡ None
    → least (first_step (steps true t u w e c h len at)) ≡ Some (record { within = len; reason = reason.Cut })
cut_tests t u true e c h len at q n = absurd (untrue_is q)
cut_tests true true false e c h len at q n = absurd (no_some _ n)
cut_tests false true false e c h len at q n = absurd (no_some _ n)
cut_tests false false false e c h len at q n = absurd (no_some _ n)
cut_tests true false false e c h len at q n = refl

-- what is not whole has a fault
any_cut : (s t u w e c h : Bool) (len at : ℕ) → w ≡ false → is_none (least (first_step (steps s t u w e c h len at))) ≡ false
any_cut false t u w e c h len at q = refl
any_cut true true true w e c h len at q = refl
any_cut true false true w e c h len at q = refl
any_cut true false false w e c h len at q = refl
any_cut true true false false e c h len at q = refl
any_cut true true false true e c h len at q = absurd (untrue_is q)

pub uncut : (is_first : Bool) (bytes : List ℕ) → is_whole bytes ≡ false → is_none (frame_fault is_first bytes) ≡ false
uncut f bytes q = any_cut (is_nonempty bytes) (is_taken (slice_index bytes 0)) (is_unsupported (slice_index bytes 0)) (is_whole bytes) (stated_length bytes == 0) _ _ _ _ q

-- what the tests say where no step has a fault
pub clean_tests : (t u w e c h : Bool) (len at : ℕ) → least (first_step (steps true t u w e c h len at)) ≡ None → (t ≡ true) × (h ≡ true)
clean_tests true true w e c h len at n = absurd (no_some _ n)
clean_tests false true w e c h len at n = absurd (no_some _ n)
clean_tests false false w e c h len at n = absurd (no_some _ n)
clean_tests true false false e c h len at n = absurd (no_some _ n)
clean_tests true false true true c h len at n = absurd (no_some _ n)
clean_tests true false true false false h len at n = absurd (no_some _ n)
clean_tests true false true false true false len at n = absurd (no_some _ n)
clean_tests true false true false true true len at n = (refl, refl)

pub some_none : {A B : Type 0} (x : A) (f : A → B) (o : Option A) → o ≡ Some x → option_map f o ≡ None → ⊥
some_none x f None e n = cc
some_none x f (Some y) e n = cc

pub map_none : {A B : Type 0} (f : A → B) (o : Option A) → option_map f o ≡ None → o ≡ None
map_none f None e = refl
map_none f (Some y) e = cc

first_none : {A : Type 0} (a b : Option A) → option_or a b ≡ None → a ≡ None
first_none None b e = refl
first_none (Some x) b e = cc

-- where there is no permanent fault, the type byte has none
pub sound_type : (f : Bool) (bytes : List ℕ) → standing_fault f bytes ≡ None → type_fault bytes ≡ None
sound_type f bytes h = first_none (type_fault bytes) (whole_fault f bytes) (map_none found (fault_of f bytes) (sym (standing_is f bytes) ∙ h))

pub type_none : (bytes : List ℕ) → 0 < length bytes → type_fault bytes ≡ None → type_faults (slice_index bytes 0) ≡ []
unfolding type_fault
type_none [] some h = absurd (omega arith)
type_none (t ∷ bytes) some h = by_tests (is_taken t) (is_unsupported t) h
  where
    by_tests : (t u : Bool) → type_test t u ≡ None → broken (rule (t || u) 0 reason.UnknownType ∷ rule (not u) 0 reason.UnsupportedType ∷ []) ≡ []
    by_tests true true e = cc
    by_tests false true e = cc
    by_tests false false e = cc
    by_tests true false e = refl

-- the permanent fault, where the type's is computed, or the record's
pub by_type : (f : Bool) (bytes : List ℕ) (r : Option (Reason × ℕ)) (fault : Reason × ℕ) → r ≡ type_fault bytes → r ≡ Some fault → standing_fault f bytes ≡ Some (found fault)
by_type f bytes r fault e g = standing_is f bytes ∙ ap (λ t. option_map found (option_or t (whole_fault f bytes))) (sym e ∙ g)

pub by_whole : (f : Bool) (bytes : List ℕ) (r w : Option (Reason × ℕ)) → r ≡ type_fault bytes → r ≡ None → w ≡ whole_fault f bytes → standing_fault f bytes ≡ option_map found w
by_whole f bytes r w e n g = standing_is f bytes ∙ ap (λ t. option_map found (option_or t (whole_fault f bytes))) (sym e ∙ n) ∙ ap (option_map found) (sym g)

pub empty_sound : (f : Bool) → standing_fault f [] ≡ None
empty_sound f = refl

-- the number of a fault's reason, 0 if there is no fault
abbrev number_of : Option Fault → ℕ
number_of None = 0
number_of (Some f) = reason_number f.reason

few : (s t u w e c h : Bool) (len at : ℕ) → number_of (least (first_step (steps s t u w e c h len at))) < 8
few false t u w e c h len at = lit< tt
few true true true w e c h len at = lit< tt
few true false true w e c h len at = lit< tt
few true false false w e c h len at = lit< tt
few true true false false e c h len at = lit< tt
few true true false true true c h len at = lit< tt
few true true false true false false h len at = lit< tt
few true true false true false true false len at = lit< tt
few true true false true false true true len at = lit< tt

-- a framing fault has one of the framing reasons
pub framing_reason : (is_first : Bool) (bytes : List ℕ) (fault : Fault) → frame_fault is_first bytes ≡ Some fault → reason_number fault.reason < 8
framing_reason f bytes fault h = subst (λ o. number_of o < 8) h (few (is_nonempty bytes) (is_taken (slice_index bytes 0)) (is_unsupported (slice_index bytes 0)) (is_whole bytes) (stated_length bytes == 0) _ _ _ _)
