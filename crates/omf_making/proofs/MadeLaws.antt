-- What is read back of a library.
use Rattle.std.proofs.Common.{◌≡◌, ℕ, zero, suc, ◌+◌, ◌<◌, ◌≤◌, arith, inl, Bool, true, false, cond, List, [], ◌∷◌, drop, take, refl, sym, ap, ◌∙◌, subst, inr}
use Rattle.std.specs.Prelude.{⊤, Some, None, Option, MatchOption, length, slice_get}
use Rattle.std.specs.Bool.{OnTrue}
use Rattle.std.proofs.lemmas.Bool.{cases_lt}
use Rattle.omf_check.specs.declared.profile.Profile.{Profile}
use Rattle.omf_making.specs.Inner.Making.{IsLaid, IsPartFault}
use Rattle.omf_library.specs.Dictionary.{dictionary_at, is_case_sensitive}
use Rattle.omf_library.specs.Library.{header_of, is_page_size, page_size}
use Rattle.omf_making.specs.Made.{AreParts, AreSoundEntries, HasName, HasStrong, IsDefinedAt, IsMade, IsMakeFault, IsWhole, Opened, opened, pages_of}
use Rattle.omf_library.specs.declared.header.Header.{Header}
use Rattle.omf_making.specs.declared.making.MakeFault.{MakeFault}
use Rattle.omf_making.specs.declared.making.MakeFault.TheVariants as fault
use Rattle.omf_making.specs.declared.making.Part.{Part}
use Rattle.omf_library.specs.declared.member.Member.{Member}
use Rattle.omf_making.specs.declared.names.Defined.{Defined}
use Rattle.omf_making.specs.declared.taken.Taken.{Taken}
use Rattle.omf_making.specs.Taken.{IsTaken, IsTakenLibrary}

pub on_true : (b : Bool) (P Q : Type 0) → OnTrue b P → (P → Q) → OnTrue b Q
on_true true P Q h f = f h
on_true false P Q h f = tt

-- The names before one, for the vectors of the code.
pub is_again : (sensitive b : Bool) (n : ℕ) (names all before : List Defined) (own name : List ℕ) → names ≡ all → before ≡ cond b (take n names) names → own ≡ name → HasStrong sensitive before own
    → HasStrong sensitive (cond b (take n all) all) name
is_again sensitive b n names all before own name e f g h =
    subst (λ xs. HasStrong sensitive (cond b (take n xs) xs) name) e (subst (λ xs. HasStrong sensitive xs name) f (subst (λ xs. HasStrong sensitive before xs) g h))

-- What is among the last names is among all.
pub has_more : (sensitive : Bool) (n : ℕ) (names : List Defined) (name : List ℕ) → HasName sensitive (drop n names) name → HasName sensitive names name
has_more sensitive zero names name h = h
has_more sensitive (suc n) [] name h = h
has_more sensitive (suc n) (d ∷ ds) name h = inr (has_more sensitive n ds name h)

no_part_defines : (o : Opened) (ms : List Member) (name : List ℕ) (page : ℕ) → IsDefinedAt o ms [] name page → ⊥
no_part_defines o [] name page h = h
no_part_defines o (m ∷ ms) name page h = h

-- What one of the last modules defines, one of all defines.
pub defined_more : (o : Opened) (n : ℕ) (ms : List Member) (ps : List Part) (name : List ℕ) (page : ℕ) → IsDefinedAt o (drop n ms) (drop n ps) name page → IsDefinedAt o ms ps name page
defined_more o zero ms ps name page h = h
defined_more o (suc n) [] ps name page h = h
defined_more o (suc n) (m ∷ ms) [] name page h = no_part_defines o (drop n ms) name page h
defined_more o (suc n) (m ∷ ms) (p ∷ ps) name page h = inr (defined_more o n ms ps name page h)

-- What is read back and looked at is a library that was made.
abbrev read : List ℕ → List Part → ℕ → Bool → List ℕ → List Member → Opened
read bytes parts page sensitive dictionary members = record { bytes = bytes; page = page; is_case_sensitive = sensitive; dictionary = dictionary; members = members; parts = parts }

-- No lesser page size will do.
abbrev pub IsLeast : ℕ → List Part → Type 0
IsLeast page parts = (p : ℕ) → is_page_size p ≡ true → p < page → 65536 < pages_of p parts

pub made_is : (profile : Profile) (sensitive : Bool) (parts : List Part) (bytes : List ℕ) (members seen : List Member) (end : ℕ) (h : Header) (db : List ℕ) (ds : Bool) → IsTakenLibrary profile bytes members end → h ≡ header_of bytes
    → db ≡ dictionary_at h bytes → ds ≡ is_case_sensitive h → seen ≡ members → IsLaid h sensitive bytes end → IsLeast h.page parts → AreParts (read bytes parts h.page ds db seen) seen parts → AreSoundEntries (read bytes parts h.page ds db seen)
    → IsMade profile sensitive parts bytes
made_is profile sensitive parts bytes members seen end h db ds library e d s m l least are only =
    let dictionary : db ≡ dictionary_at (header_of bytes) bytes = d ∙ ap (λ x. dictionary_at x bytes) e in
    let case : ds ≡ is_case_sensitive (header_of bytes) = s ∙ ap is_case_sensitive e in
    let page : h.page ≡ page_size bytes = ap (λ (x : Header). x.page) e in
    let same : read bytes parts h.page ds db seen ≡ opened bytes members parts
    = ap (λ p. read bytes parts p ds db seen) page ∙ ap (λ b. read bytes parts (page_size bytes) b db seen) case
    ∙ ap (λ x. read bytes parts (page_size bytes) (is_case_sensitive (header_of bytes)) x seen) dictionary
    ∙ ap (λ x. read bytes parts (page_size bytes) (is_case_sensitive (header_of bytes)) (dictionary_at (header_of bytes) bytes) x) m in
    let laid : IsLaid (header_of bytes) sensitive bytes end = subst (λ x. IsLaid x sensitive bytes end) e l in
    record {
      members = members;
      end = end;
      library = library;
      flags = laid.flags;
      after = laid.after;
      last = laid.last;
      prime = laid.prime;
      least = subst (λ size. IsLeast size parts) page least;
      only = subst AreSoundEntries same only;
      same = subst (λ x. AreParts x members parts) same (subst (λ ms. AreParts (read bytes parts h.page ds db seen) ms parts) m are);
    }

-- A fault of a part is one of the parts.
pub part_fault : (profile : Profile) (sensitive : Bool) (parts : List Part) (number : ℕ) (part : Part) (f : MakeFault) → slice_get parts number ≡ Some part → IsPartFault profile part number f → IsMakeFault profile sensitive parts f
part_fault profile sensitive parts number part fault.Memory here h = tt
part_fault profile sensitive parts number part (fault.Refused n why at) here h = record { part = part; part_is = ap (slice_get parts) h.0 ∙ here; refused = h.1 }
part_fault profile sensitive parts number part (fault.Rest n) here h = record { part = part; part_is = ap (slice_get parts) h.0 ∙ here; found = h.1; taken = h.2; longer = h.3 }
part_fault profile sensitive parts number part (fault.Twice first second name) here h = absurd h
part_fault profile sensitive parts number part fault.TooLarge here h = absurd h
part_fault profile sensitive parts number part fault.LongSearches here h = absurd h
part_fault profile sensitive parts number part fault.Unlike here h = absurd h

-- The module that a part begins with, and what comes after it.
pub part_judged : (profile : Profile) (part : Part) (number : ℕ) (t : Taken) (r : Option MakeFault) (bytes : List ℕ) → bytes ≡ part.bytes.items → IsTaken profile bytes t
    → MatchOption r (length bytes ≤ t.length) (λ f. (f ≡ fault.Rest number) × (t.length < length bytes)) → MatchOption r (IsWhole profile part) (IsPartFault profile part number)
part_judged profile part number t None bytes e d h = record { found = t; taken = subst (λ bs. IsTaken profile bs t) e d; whole = subst (λ bs. length bs ≤ t.length) e h }
part_judged profile part number t (Some f) bytes e d h =
    subst (IsPartFault profile part number) (sym h.0) (refl, t, subst (λ bs. IsTaken profile bs t) e d, subst (λ bs. t.length < length bs) e h.1)

-- One part more that is whole.
pub whole_more : (profile : Profile) (parts : List Part) (n : ℕ) (p : Part) → ((i : ℕ) → i < n → (q : Part) → slice_get parts i ≡ Some q → IsWhole profile q) → slice_get parts n ≡ Some p → IsWhole profile p
    → (i : ℕ) → i < n + 1 → (q : Part) → slice_get parts i ≡ Some q → IsWhole profile q
whole_more profile parts n p h here w i l q is = elim (cases_lt i n) [
  | inl low ↦ h i low q is
  | inr high ↦ let same : i ≡ n = omega (arith, l, high) in subst (λ o. MatchOption o ⊤ (IsWhole profile)) (sym here ∙ subst (λ k. slice_get parts k ≡ Some q) same is) w
]
