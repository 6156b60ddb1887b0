-- What an index has to give.
use Rattle.std.specs.Prelude.{◌≡◌, ℕ, List, filter, Bool, true, Option}
use Rattle.omf_finding.specs.Places.{lies_at}

-- To look at the offsets that pass a weaker test is enough: an index need only list where some closed bytes of the pattern are.
abbrev pub CandidatesSuffice : Type 0
CandidatesSuffice = (pattern : List (Option ℕ)) (program : List ℕ) (test : ℕ → Bool) → ((at : ℕ) → lies_at pattern program at ≡ true → test at ≡ true) → (offsets : List ℕ)
    → filter (lies_at pattern program) (filter test offsets) ≡ filter (lies_at pattern program) offsets
