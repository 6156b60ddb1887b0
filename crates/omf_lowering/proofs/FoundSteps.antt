-- Steps of the functions that look for a location in blocks.
use Rattle.std.proofs.Common.{◌≡◌, ℕ, zero, suc, ◌+◌, ◌<◌, ◌≤◌, List, [], ◌∷◌, length, Result, Ok, Err, refl, sym, ap, subst, ◌∙◌, arith}
use Rattle.omf_frame.specs.Fault.{Fault}
use Rattle.omf_image.specs.Blocks.{Repeat}
use Rattle.omf_image.specs.Inner.Folding.{Folded, fold_block}
use Rattle.omf_image.proofs.FoldLaws.{Gives, fold_shrinks}
use Rattle.omf_image.proofs.ReadingSteps.{then_when}
use Rattle.omf_records.specs.Inner.FieldReaders.{name_read, name_reader}
use Rattle.omf_records.specs.Inner.Reads.{After, after, Shrinks, and_then}
use Rattle.omf_records.specs.Inner.Readers.{called_reader}
use Rattle.omf_records.specs.Layout.{name}
use Rattle.omf_lowering.specs.declared.fault.Stop.{Stop}
use Rattle.omf_lowering.specs.declared.fault.Stop.TheVariants as stop
use Rattle.omf_lowering.specs.declared.location.Location.{Location}
use Rattle.omf_lowering.specs.Inner.Turns.{Found, Gives as GivesTo, GivesAll, finds, found_all, found_block, joined, copy_in}
use Rattle.omf_lowering.proofs.SpreadLaws.{Both, Related, block_both}

-- ---- a block has at least one byte

abbrev passes : Folded ℕ
passes = record { none = zero; join = λ a b. zero; text = λ at bytes. and_then (name_read at bytes) (λ a. Ok (after zero a.within a.rest)); again = λ count a. zero }

text_passed : (count at : ℕ) (bytes : List ℕ) → and_then (and_then (name_read at bytes) (λ a. Ok (after zero a.within a.rest))) (λ a. Ok (after zero a.within a.rest))
    ≡ and_then ((called_reader name (λ (text : List ℕ). Repeat count text) name_reader).read at bytes) (λ a. Ok (after zero a.within a.rest))
text_passed count at bytes = by (name_read at bytes)
  where
    by : (q : Result (After (List ℕ)) Fault) → and_then (and_then q (λ a. Ok (after zero a.within a.rest))) (λ a. Ok (after zero a.within a.rest))
        ≡ and_then (and_then q (λ a. Ok (after (Repeat count a.value) a.within a.rest))) (λ a. Ok (after zero a.within a.rest))
    by (Ok a) = refl
    by (Err e) = refl

abbrev Zero : ℕ → Type 0
Zero n = n ≡ zero

gives_nothing : Gives passes (λ b. zero) (λ front trees. zero) Zero
gives_nothing = record {
  none_fits = refl;
  join_fits = λ front b. refl;
  none = λ front fits. fits;
  more = λ front b trees. refl;
  text = text_passed;
  nest = λ count trees. refl;
}

module _ (l : Location) where
  abbrev Any : Found → ℕ → Type 0
  Any a n = n ≡ zero

  finds_pass : Related (finds l) passes Any
  finds_pass = record { none = refl; join = λ a c b d p q. refl; again = λ n a b p. refl; text = λ at bytes. by at (name_read at bytes) }
    where
      by : (at : ℕ) (q : Result (After (List ℕ)) Fault)
          → Both Any (and_then (and_then q (λ a. Ok (after (length a.value) a.within a.rest))) (λ a. Ok (after (record { size = a.value; copies = copy_in (at + 1) a.value l }) a.within a.rest)))
          (and_then q (λ a. Ok (after zero a.within a.rest)))
      by at (Ok a) = (refl, refl, refl)
      by at (Err e) = refl

  found_shrinks : (width levels : ℕ) → Shrinks (found_block l width levels)
  found_shrinks width levels at bytes a e = by (found_block l width levels at bytes) (fold_block passes width levels at bytes) refl e (block_both (finds l) passes Any finds_pass width levels at bytes)
    where
      by : (r : Result (After Found) Fault) (s : Result (After ℕ) Fault) → s ≡ fold_block passes width levels at bytes → r ≡ Ok a → Both Any r s → length a.rest < length bytes
      by (Ok b) (Ok c) is same rel =
          let rest : c.rest ≡ a.rest = sym rel.1 ∙ (let eq : b ≡ a = cc in ap (λ x. x.rest) eq) in
          subst (λ xs. length xs < length bytes) rest (fold_shrinks passes (λ b. zero) (λ front trees. zero) Zero gives_nothing width levels at bytes c (sym is))
      by (Ok b) (Err d) is same rel = absurd rel
      by (Err d) s is same rel = absurd cc

  module _ (width levels : ℕ) where
    abbrev block : ℕ → List ℕ → Result (After Found) Fault
    block = found_block l width levels

    enough : (n m : ℕ) (front : Found) (at : ℕ) (bytes : List ℕ) → length bytes ≤ n → length bytes ≤ m → found_all l block n front at bytes ≡ found_all l block m front at bytes
    enough n m front at [] hn hm = refl
    enough zero m front at (b ∷ bytes) hn hm = absurd (omega arith)
    enough (suc n) zero front at (b ∷ bytes) hn hm = absurd (omega arith)
    enough (suc n) (suc m) front at (b ∷ bytes) hn hm =
        then_when (block at (b ∷ bytes)) _ _ (λ a e.
        let less = found_shrinks width levels at (b ∷ bytes) a e in
        enough n m (joined front a.value) a.within a.rest (omega (arith, less)) (omega (arith, less)))

    -- one of the remaining blocks
    pub found_step : (n : ℕ) (front : Found) (at : ℕ) (bytes : List ℕ) (a : After Found) → 0 < length bytes → length bytes ≤ n → Ok a ≡ block at bytes
        → found_all l block n (joined front a.value) a.within a.rest ≡ found_all l block n front at bytes
    found_step n front at [] a some le e = absurd (omega (arith, some))
    found_step zero front at (b ∷ bytes) a some le e = absurd (omega arith)
    found_step (suc n) front at (b ∷ bytes) a some le e =
        let less = found_shrinks width levels at (b ∷ bytes) a (sym e) in
        enough (suc n) n (joined front a.value) a.within a.rest (omega (arith, less)) (omega (arith, less))
        ∙ ap (λ q. and_then q (λ c. found_all l block n (joined front c.value) c.within c.rest)) e

    pub found_fault : (n : ℕ) (front : Found) (at : ℕ) (bytes : List ℕ) (f : Fault) → 0 < length bytes → length bytes ≤ n → Err f ≡ block at bytes → Err f ≡ found_all l block n front at bytes
    found_fault n front at [] f some le e = absurd (omega (arith, some))
    found_fault zero front at (b ∷ bytes) f some le e = absurd (omega arith)
    found_fault (suc n) front at (b ∷ bytes) f some le e = ap (λ q. and_then q (λ c. found_all l block n (joined front c.value) c.within c.rest)) e

-- ---- a function that stops

pub gives_err : {A B : Type 0} (bytes : List ℕ) (why : Stop) (inner : Result (After A) Fault) (outer : Result (After B) Fault)
    → GivesTo {A = A} bytes (Err why) inner → ((f : Fault) → Err f ≡ inner → Err f ≡ outer) → GivesTo {A = B} bytes (Err why) outer
gives_err bytes stop.Memory inner outer g h = tt
gives_err bytes (stop.At f) inner outer g h = h f g

pub all_err : {A B : Type 0} (bytes : List ℕ) (why : Stop) (inner : Result (After A) Fault) (outer : Result B Fault)
    → GivesTo {A = A} bytes (Err why) inner → ((f : Fault) → Err f ≡ inner → Err f ≡ outer) → GivesAll {A = B} (Err why) outer
all_err bytes stop.Memory inner outer g h = tt
all_err bytes (stop.At f) inner outer g h = h f g
