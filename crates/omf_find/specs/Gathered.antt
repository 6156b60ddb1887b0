-- The modules that are taken of files (TIS OMF 1.1, appendix 2, of libraries; that one is taken by its lowering if it is refused, and left out if that is too, is
-- this profile's rule).
use Rattle.std.specs.Prelude.{◌≡◌, ◌⊎◌, ℕ, ◌+◌, List, [], ◌∷◌, ◌++◌, map}
use Rattle.omf_check.specs.Module.{Module}
use Rattle.omf_check.specs.declared.profile.Profile.{Profile}
use Rattle.omf_making.specs.Taken.{IsTaken, IsUntaken}
use Rattle.omf_library.specs.declared.spans.Span.{Span}
use Rattle.omf_making.specs.declared.taken.Refusal.{Refusal}
use Rattle.omf_making.specs.declared.taken.Taken.{Taken}
use Rattle.omf_find.specs.declared.reading.Gathered.{Gathered}
use Rattle.omf_find.specs.declared.reading.Origin.{Origin}

-- A module with where it comes from.
abbrev pub Sourced : Type 0
Sourced = Origin × Module

-- What is taken of one module: it, its lowering if the check refuses it, or nothing.
abbrev pub IsTakenOf : Profile → Origin → List ℕ → List Sourced → Type 0
IsTakenOf profile origin bytes own =
    ((t : Taken) × IsTaken profile bytes t × (own ≡ (origin, t.«module») ∷ []))
    ⊎ ((why : Refusal) × IsUntaken profile bytes why × (own ≡ []))

-- What is taken of the members of a library, from a number on.
abbrev pub AreTaken : Profile → ℕ → ℕ → List Span → List Sourced → Type 0
AreTaken profile file member [] own = own ≡ []
AreTaken profile file member (s ∷ ss) own = (one : List Sourced) × (others : List Sourced) × IsTakenOf profile (record { file = file; member = member }) s.bytes.now one
    × AreTaken profile file (member + 1) ss others × (own ≡ one ++ others)

-- These are added to what is gathered.
abbrev pub Adds : Gathered → Gathered → List Sourced → Type 0
Adds old new own = (new.modules.items ≡ old.modules.items ++ map (λ t. t.1) own) × (new.origins.items ≡ old.origins.items ++ map (λ t. t.0) own)
