-- A module is well-formed exactly if it is with the records typed by reading them.
use Rattle.std.proofs.Common.{◌≡◌, ℕ, List, [], ◌∷◌, ◌++◌, refl, ◌∙◌, ap, ap₂, subst}
use Rattle.std.specs.Prelude.{All, IsTrue}
use Rattle.std.specs.List.{AllZip}
use Rattle.std.proofs.lemmas.List.{map-append}
use Rattle.std.proofs.lemmas.List.Elements.{All-cons, All-nil, All-head, All-tail}
use Rattle.omf_frame.specs.Framing.{Raw, IsFramed}
use Rattle.omf_records.specs.Records.{IsTyped}
use Rattle.omf_records.specs.Values.{Rec}
use Rattle.omf_records.specs.Inner.LawProofs.{are_typed}
use Rattle.omf_records.specs.Inner.Reading.{typed}
use Rattle.omf_image.specs.declared.limits.Limits.{Limits}
use Rattle.omf_check.specs.Rules.{rules}
use Rattle.omf_check.specs.WellFormed.{IsWellFormed, IsRecOf, HasTrees, recs}
use Rattle.omf_check.specs.declared.profile.Profile.{Profile}

-- A well-formed module, with the records typed by reading them.
pub record IsWellRead (profile : Profile) (limits : Limits) (bytes : List ℕ) (records : List Raw) : Type 0 where
  pub framed : IsFramed bytes records
  pub spelled : All (λ r. IsTyped (typed r) r.body) records
  pub blocks : All (λ r. HasTrees limits r.kind (typed r).contents) records
  pub kept : (before after : List Raw) (r : Raw) → records ≡ before ++ r ∷ after → All (λ r. IsTrue r.holds) (rules profile limits (recs before) (typed r))

-- the typed records of some records are those read
pub read-once : (m : List Rec) (records : List Raw) → AllZip IsRecOf m records → m ≡ recs records
read-once [] [] h = refl
read-once [] (r ∷ records) h = absurd h
read-once (t ∷ m) [] h = absurd h
read-once (t ∷ m) (r ∷ records) h = ap₂ (λ x xs. x ∷ xs) (are_typed r t h.0.0 h.0.1).0 (read-once m records h.1)

abbrev pub IsSpelled : Raw → Type 0
IsSpelled r = IsTyped (typed r) r.body

spelled-by : (m : List Rec) (records : List Raw) → AllZip IsRecOf m records → All IsSpelled records
spelled-by [] [] h = All-nil IsSpelled
spelled-by [] (r ∷ records) h = absurd h
spelled-by (t ∷ m) [] h = absurd h
spelled-by (t ∷ m) (r ∷ records) h =
    All-cons IsSpelled r records (subst (λ x. IsTyped x r.body) (are_typed r t h.0.0 h.0.1).0 h.0.1) (spelled-by m records h.1)

pub zipped : (records : List Raw) → All IsSpelled records → AllZip IsRecOf (recs records) records
zipped [] h = tt
zipped (r ∷ records) h = ((refl, All-head IsSpelled r records h), zipped records (All-tail IsSpelled r records h))

module _ (limits : Limits) where
  abbrev Tree : Rec → Type 0
  Tree r = HasTrees limits r.kind r.contents

  abbrev ReadTree : Raw → Type 0
  ReadTree r = HasTrees limits r.kind (typed r).contents

  trees-read : (records : List Raw) → All Tree (recs records) → All ReadTree records
  trees-read [] h = All-nil ReadTree
  trees-read (r ∷ records) h = All-cons ReadTree r records (All-head Tree (typed r) (recs records) h) (trees-read records (All-tail Tree (typed r) (recs records) h))

  trees-typed : (records : List Raw) → All ReadTree records → All Tree (recs records)
  trees-typed [] h = All-nil Tree
  trees-typed (r ∷ records) h = All-cons Tree (typed r) (recs records) (All-head ReadTree r records h) (trees-typed records (All-tail ReadTree r records h))

-- where the typed records are split, the records are
split-typed : (records : List Raw) (before after : List Rec) (r : Rec) → recs records ≡ before ++ r ∷ after
    → (earlier : List Raw) × (later : List Raw) × (x : Raw) × (records ≡ earlier ++ x ∷ later) × (recs earlier ≡ before) × (typed x ≡ r)
split-typed [] [] after r e = absurd cc
split-typed [] (y ∷ before) after r e = absurd cc
split-typed (x ∷ records) [] after r e = ([], records, x, refl, refl, cc)
split-typed (x ∷ records) (y ∷ before) after r e =
    let others : recs records ≡ before ++ r ∷ after = cc in
    let first : typed x ≡ y = cc in
    let s = split-typed records before after r others in
    (x ∷ s.0, s.1, s.2, ap (λ xs. x ∷ xs) s.3, ap₂ (λ t ts. t ∷ ts) first s.4, s.5)

module _ (profile : Profile) (limits : Limits) (bytes : List ℕ) (records : List Raw) where
  abbrev Kept : List Rec → Type 0
  Kept m = (before after : List Rec) (r : Rec) → m ≡ before ++ r ∷ after → All (λ rule. IsTrue rule.holds) (rules profile limits before r)

  pub typed-read : (w : IsWellFormed profile limits bytes records) → w.typed_records ≡ recs records
  typed-read w = read-once w.typed_records records w.spelled

  pub well-read : IsWellFormed profile limits bytes records → IsWellRead profile limits bytes records
  well-read w =
      let kept = subst Kept (typed-read w) w.kept in
      record {
        framed = w.framed;
        spelled = spelled-by w.typed_records records w.spelled;
        blocks = trees-read limits records (subst (All (Tree limits)) (typed-read w) w.blocks);
        kept = λ before after r e. kept (recs before) (recs after) (typed r) (ap recs e ∙ map-append typed before (r ∷ after));
      }

  pub well-formed : IsWellRead profile limits bytes records → IsWellFormed profile limits bytes records
  well-formed w = record {
    typed_records = recs records;
    framed = w.framed;
    spelled = zipped records w.spelled;
    blocks = trees-typed limits records w.blocks;
    kept = λ before after r e.
        let s = split-typed records before after r e in
        subst (λ rs. All (λ rule. IsTrue rule.holds) (rules profile limits rs r)) s.4
        (subst (λ t. All (λ rule. IsTrue rule.holds) (rules profile limits (recs s.0) t)) s.5 (w.kept s.0 s.1 s.2 s.3));
  }
