-- What is taken so far, and what is left.
use Rattle.std.proofs.Common.{◌≡◌, ℕ, ◌+◌, ◌<◌, List, [], ◌∷◌, ◌++◌, map, refl, sym, ap, subst, ◌∙◌, append_assoc}
use Rattle.std.proofs.lemmas.List.{append-nil, map-append}
use Rattle.omf_check.specs.declared.profile.Profile.{Profile}
use Rattle.omf_library.specs.declared.spans.Span.{Span}
use Rattle.omf_find.specs.Gathered.{Adds, AreTaken, Sourced, IsTakenOf}
use Rattle.omf_find.specs.declared.reading.Gathered.{Gathered}

-- what is added in two steps
pub adds-more : (old now new : Gathered) (first second : List Sourced) → Adds old now first → Adds now new second → Adds old new (first ++ second)
adds-more old now new first second a b = (
  b.0 ∙ ap (λ ms. ms ++ map (λ (t : Sourced). t.1) second) a.0 ∙ append_assoc old.modules.items (map (λ (t : Sourced). t.1) first) (map (λ (t : Sourced). t.1) second)
      ∙ ap (λ ms. old.modules.items ++ ms) (sym (map-append (λ (t : Sourced). t.1) first second)),
  b.1 ∙ ap (λ os. os ++ map (λ (t : Sourced). t.0) second) a.1 ∙ append_assoc old.origins.items (map (λ (t : Sourced). t.0) first) (map (λ (t : Sourced). t.0) second)
      ∙ ap (λ os. old.origins.items ++ os) (sym (map-append (λ (t : Sourced). t.0) first second)),
)

pub adds-nothing : (old : Gathered) → Adds old old []
adds-nothing old = (sym (append-nil old.modules.items), sym (append-nil old.origins.items))

-- with what is taken of the members that are left, what is added is what is taken of all
abbrev pub IsFrontOf : Profile → ℕ → List Span → ℕ → List Span → Gathered → Gathered → Type 0
IsFrontOf profile file members number rest old now =
    (so_far : List Sourced) × Adds old now so_far × ((later : List Sourced) → AreTaken profile file number rest later → AreTaken profile file 0 members (so_far ++ later))

pub none_taken : (profile : Profile) (file : ℕ) (members : List Span) (old : Gathered) → IsFrontOf profile file members 0 members old old
none_taken profile file members old = ([], adds-nothing old, λ later a. a)

pub one_more_taken : (profile : Profile) (file : ℕ) (members : List Span) (number : ℕ) (m : Span) (ms rest : List Span) (old now new : Gathered) → IsFrontOf profile file members number rest old now → rest ≡ m ∷ ms
    → (own : List Sourced) × IsTakenOf profile (record { file = file; member = number }) m.bytes.now own × Adds now new own → IsFrontOf profile file members (number + 1) ms old new
one_more_taken profile file members number m ms rest old now new f r p = (
  f.0 ++ p.0,
  adds-more old now new f.0 p.0 f.1 p.2,
  λ later a.
      let all = subst (λ (xs : List Span). (later : List Sourced) → AreTaken profile file number xs later → AreTaken profile file 0 members (f.0 ++ later)) r f.2 (p.0 ++ later) (p.0, later, p.1, a, refl) in
      subst (AreTaken profile file 0 members) (sym (append_assoc f.0 p.0 later)) all,
)

pub all_taken : (profile : Profile) (file : ℕ) (members : List Span) (number : ℕ) (rest : List Span) (old now : Gathered) → IsFrontOf profile file members number rest old now → rest ≡ []
    → (own : List Sourced) × AreTaken profile file 0 members own × Adds old now own
all_taken profile file members number rest old now f r =
    let none : AreTaken profile file number rest [] = rw r refl in
    (f.0, subst (AreTaken profile file 0 members) (append-nil f.0) (f.2 [] none), f.1)
