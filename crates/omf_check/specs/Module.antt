-- Checked modules, as callers see them.
use Rattle.std.specs.Prelude.{ℕ, zero, suc, List, [], ◌∷◌, length, map}
use Rattle.omf_frame.specs.Framing.{Raw, present, front_record, after_front}
use Rattle.omf_records.specs.Values.{Rec}
use Rattle.omf_check.specs.WellFormed.{recs}
use Rattle.omf_check.specs.declared.profile.Profile.{Profile}

-- The bytes of a module, and the profile it was checked with.
pub record Module : Type 0 where
  pub bytes : List ℕ
  pub profile : Profile

-- The records in bytes, in order.
abbrev pub records_from : ℕ → List ℕ → List Raw
records_from zero bytes = []
records_from (suc n) [] = []
records_from (suc n) (b ∷ bytes) = front_record (present (b ∷ bytes)) ∷ records_from n (after_front (b ∷ bytes))

abbrev pub records_in : List ℕ → List Raw
records_in bytes = records_from (length bytes) bytes

-- The typed records in bytes.
abbrev pub recs_of : List ℕ → List Rec
recs_of bytes = recs (records_in bytes)

-- The typed records of each of several modules.
abbrev pub typed_modules : List Module → List (List Rec)
typed_modules ms = map (λ m. recs_of m.bytes) ms
