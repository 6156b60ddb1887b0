-- Readings of blocks to a value other than their trees: of one block, of n blocks, of all up to the end.
use Rattle.std.specs.Prelude.{ℕ, zero, suc, List, [], ◌∷◌, Result, Ok, Err}
use Rattle.omf_frame.specs.Fault.{Fault}
use Rattle.omf_frame.specs.declared.fault.Reason.TheVariants as reason
use Rattle.omf_records.specs.Inner.FieldReaders.{le_read}
use Rattle.omf_records.specs.Layout.{fault}
use Rattle.omf_records.specs.Inner.Reads.{after, Reading, and_then}

-- The value of no blocks, the join of the value of some blocks and that of the next, the value of a block's data, and the value of
-- contents that are repeated.
pub record Folded (A : Type 0) : Type 0 where
  pub none : A
  pub join : A → A → A
  pub text : Reading A
  pub again : ℕ → A → A

-- n blocks, after blocks of value `front`
abbrev pub fold_times : {A : Type 0} → Folded A → Reading A → ℕ → A → Reading A
fold_times f block zero front at bytes = Ok (after front at bytes)
fold_times f block (suc n) front at bytes = and_then (block at bytes) (λ a. fold_times f block n (f.join front a.value) a.within a.rest)

-- the contents of a block, by its block count
abbrev pub fold_contents : {A : Type 0} → Folded A → Reading A → ℕ → Reading A
fold_contents f block zero = f.text
fold_contents f block (suc n) = fold_times f block (suc n) f.none

-- a block, nested at most `levels` deep
abbrev pub fold_block : {A : Type 0} → Folded A → ℕ → ℕ → Reading A
fold_block f width zero at bytes = and_then (le_read width at bytes) (λ count. Err (fault at reason.TooDeep))
fold_block f width (suc levels) at bytes =
    and_then (le_read width at bytes) (λ count. and_then (le_read 2 count.within count.rest) (λ blocks.
    and_then (fold_contents f (fold_block f width levels) blocks.value blocks.within blocks.rest) (λ contents.
    Ok (after (f.again count.value contents.value) contents.within contents.rest))))

-- blocks up to the end, after blocks of value `front`; n is at least the number of bytes
abbrev pub fold_all : {A : Type 0} → Folded A → Reading A → ℕ → A → ℕ → List ℕ → Result A Fault
fold_all f block n front at [] = Ok front
fold_all f block zero front at (b ∷ bytes) = Ok front
fold_all f block (suc n) front at (b ∷ bytes) = and_then (block at (b ∷ bytes)) (λ a. fold_all f block n (f.join front a.value) a.within a.rest)
