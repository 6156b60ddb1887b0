-- The origins of the modules of files, one file after another, and their lines.
use Rattle.std.proofs.Common.{◌≡◌, ℕ, zero, suc, ◌+◌, ◌<◌, ◌≤◌, ◌∙◌, List, [], ◌∷◌, ◌++◌, length, take, drop, get_or, refl, sym, ap, subst, append_assoc, append-nil, arith}
use Rattle.std.proofs.Math.Seq.{take-suc}
use Rattle.std.proofs.lemmas.List.{length-take-le}
use Rattle.omf_check.specs.Module.{Module, records_in, typed_modules}
use Rattle.omf_check.specs.WellFormed.{recs}
use Rattle.omf_library.specs.declared.judged.LibraryMember.{LibraryMember}
use Rattle.omf_linking.specs.File.{InputFile}
use Rattle.omf_exe.specs.Input.{AllGive, Gives}
use Rattle.omf_exe.specs.Origins.{AllFrom, origins_from, origins_in}
use Rattle.omf_exe.specs.Inner.Input.{IsAdded}
use Rattle.omf_exe.specs.declared.input.Input.{Input}
use Rattle.omf_exe.specs.declared.input.Origin.{Origin}

abbrev pub origin : ℕ → ℕ → Origin
origin file number = record { file = file; number = number }

-- One module more of a file.
from-more : (file number n : ℕ) → origins_from file number (suc n) ≡ origins_from file number n ++ origin file (number + n) ∷ []
from-more file number zero =
    let same : number ≡ number + 0 = omega arith in
    ap (λ k. origin file k ∷ []) same
from-more file number (suc n) =
    let same : number + 1 + n ≡ number + suc n = omega arith in
    ap (λ os. origin file number ∷ os) (from-more file (number + 1) n ∙ ap (λ k. origins_from file (number + 1) n ++ origin file k ∷ []) same)

pub one-origin-more : (file n : ℕ) → origins_in file (n + 1) ≡ origins_in file n ++ origin file (n + 1) ∷ []
one-origin-more file n =
    let after : n + 1 ≡ suc n = omega arith in
    let number : 1 + n ≡ n + 1 = omega arith in
    ap (origins_in file) after ∙ from-more file 1 n ∙ ap (λ k. origins_in file n ++ origin file k ∷ []) number

pub origin-pushed : (file n : ℕ) (old now new : List Origin) → new ≡ now ++ origin file (n + 1) ∷ [] → now ≡ old ++ origins_in file n → new ≡ old ++ origins_in file (n + 1)
origin-pushed file n old now new e h =
    e ∙ ap (λ os. os ++ origin file (n + 1) ∷ []) h ∙ append_assoc old (origins_in file n) (origin file (n + 1) ∷ []) ∙ ap (λ os. old ++ os) (sym (one-origin-more file n))

-- What files give, with origins, they give.
pub all_give : (k : ℕ) (fs : List InputFile) (given : List Module) (members : List LibraryMember) (gf mf : List Origin) → AllFrom k fs given members gf mf → AllGive fs given members
all_give k [] given members gf mf (e, d, ef, df) = (e, d)
all_give k (f ∷ fs) given members gf mf (own, mine, others, theirs, of, tf, g, rest, e, d, ef, df) = (own, mine, others, theirs, g, all_give (k + 1) fs others theirs of tf rest, e, d)

-- One more file, the number of which is j.
all-from-more : (k j : ℕ) (fs : List InputFile) (given : List Module) (members : List LibraryMember) (gf mf : List Origin) (f : InputFile) (own : List Module) (mine : List LibraryMember)
    → k + length fs ≡ j → AllFrom k fs given members gf mf → Gives f.bytes own mine
    → AllFrom k (fs ++ f ∷ []) (given ++ own) (members ++ mine) (gf ++ origins_in j (length own)) (mf ++ origins_in j (length mine))
all-from-more k j [] given members gf mf f own mine q (e, d, ef, df) g =
    let same : j ≡ k = omega (arith, q) in (
      own,
      mine,
      [],
      [],
      [],
      [],
      g,
      (refl, refl, refl, refl),
      ap (λ xs. xs ++ own) e ∙ sym (append-nil own),
      ap (λ xs. xs ++ mine) d ∙ sym (append-nil mine),
      ap (λ os. os ++ origins_in j (length own)) ef ∙ ap (λ n. origins_in n (length own)) same ∙ sym (append-nil (origins_in k (length own))),
      ap (λ os. os ++ origins_in j (length mine)) df ∙ ap (λ n. origins_in n (length mine)) same ∙ sym (append-nil (origins_in k (length mine))),
    )
all-from-more k j (h ∷ fs) given members gf mf f own mine q (a, b, others, theirs, of, tf, i, rest, e, d, ef, df) g =
    let next : k + 1 + length fs ≡ j = omega (arith, q) in (
      a,
      b,
      others ++ own,
      theirs ++ mine,
      of ++ origins_in j (length own),
      tf ++ origins_in j (length mine),
      i,
      all-from-more (k + 1) j fs others theirs of tf f own mine next rest g,
      ap (λ xs. xs ++ own) e ∙ append_assoc a others own,
      ap (λ xs. xs ++ mine) d ∙ append_assoc b theirs mine,
      ap (λ os. os ++ origins_in j (length own)) ef ∙ append_assoc (origins_in k (length a)) of (origins_in j (length own)),
      ap (λ os. os ++ origins_in j (length mine)) df ∙ append_assoc (origins_in k (length b)) tf (origins_in j (length mine)),
    )

abbrev pub AreFromHere : List InputFile → Input → Type 0
AreFromHere fs i = AllFrom 0 fs i.given.items i.members.items i.given_from.items i.members_from.items

pub one-file-more : (fs : List InputFile) (i : ℕ) (f : InputFile) (old new : Input) → i < length fs → f ≡ get_or fs i f → AreFromHere (take i fs) old → IsAdded i f.bytes old new → AreFromHere (take (i + 1) fs) new
one-file-more fs i f old new low is h a =
    let after : i + 1 ≡ suc i = omega arith in
    let next : take (i + 1) fs ≡ take i fs ++ f ∷ [] = ap (λ (n : ℕ). take n fs) after ∙ take-suc fs i f low ∙ ap (λ (x : InputFile). take i fs ++ x ∷ []) (sym is) in
    let here : 0 + length (take i fs) ≡ i = omega (arith, low, length-take-le i fs (omega (arith, low))) in
    let all = all-from-more 0 i (take i fs) old.given.items old.members.items old.given_from.items old.members_from.items f a.own a.mine here h a.gives in
    let of = origins_in i (length a.own) in
    let tf = origins_in i (length a.mine) in
    subst (λ (xs : List InputFile). AreFromHere xs new) (sym next)
    (subst (λ (xs : List Module). AllFrom 0 (take i fs ++ f ∷ []) xs new.members.items new.given_from.items new.members_from.items) (sym a.more)
    (subst (λ (xs : List LibraryMember). AllFrom 0 (take i fs ++ f ∷ []) (old.given.items ++ a.own) xs new.given_from.items new.members_from.items) (sym a.offered)
    (subst (λ (os : List Origin). AllFrom 0 (take i fs ++ f ∷ []) (old.given.items ++ a.own) (old.members.items ++ a.mine) os new.members_from.items) (sym a.more_from)
    (subst (λ (os : List Origin). AllFrom 0 (take i fs ++ f ∷ []) (old.given.items ++ a.own) (old.members.items ++ a.mine) (old.given_from.items ++ of) os) (sym a.offered_from) all))))

-- The next module of several.
pub next-module : (ms : List Module) (j : ℕ) (m : Module) → m ≡ get_or ms j m → j < length ms → drop j (typed_modules ms) ≡ recs (records_in m.bytes) ∷ drop (j + 1) (typed_modules ms)
next-module [] j m e l = absurd (omega (arith, l))
next-module (x ∷ ms) zero m e l = ap (λ (y : Module). recs (records_in y.bytes) ∷ typed_modules ms) (sym e)
next-module (x ∷ ms) (suc j) m e l =
    let after : suc j + 1 ≡ suc (j + 1) = omega arith in
    next-module ms j m e (omega (arith, l)) ∙ ap (λ k. recs (records_in m.bytes) ∷ drop k (recs (records_in x.bytes) ∷ typed_modules ms)) (sym after)

pub no-module-left : (ms : List Module) (j : ℕ) → length ms ≤ j → drop j (typed_modules ms) ≡ []
no-module-left [] zero l = refl
no-module-left [] (suc j) l = refl
no-module-left (m ∷ ms) zero l = absurd (omega (arith, l))
no-module-left (m ∷ ms) (suc j) l = no-module-left ms j (omega (arith, l))
