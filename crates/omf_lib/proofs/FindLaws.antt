-- What is found so far, and what is left.
use Rattle.std.proofs.Common.{◌≡◌, ℕ, ◌+◌, ◌<◌, Bool, true, false, List, [], ◌∷◌, ◌++◌, length, drop, get_or, refl, sym, ap, ap₂, subst, inl, inr, ◌∙◌, append_assoc}
use Rattle.std.proofs.lemmas.List.{append-nil, drop_more}
use Rattle.std.specs.Prelude.{◌||◌, Option, Some, None, Ok}
use Rattle.omf_library.specs.Dictionary.{HasOther, IsDictionary}
use Rattle.omf_library.specs.Library.{header_of}
use Rattle.omf_library.specs.declared.dictionary.Dictionary.{Dictionary}
use Rattle.omf_library.specs.declared.header.Header.{Header}
use Rattle.omf_library.specs.declared.spans.Span.{Span}
use Rattle.omf_lib.specs.Find.{AreNamesFound, ArePlaces, IsFound, IsFoundIn, IsNameFound, IsSpelledAt, any_profile, is_nowhere, name_text}
use Rattle.omf_lib.specs.Members.{AreAllPublics, ArePublics, IsLibraryRead, IsPlaced, Public, begins_before, publics_seen}
use Rattle.omf_lib.specs.declared.asked.Find.{Find}
use Rattle.omf_lib.specs.declared.finding.First.{First}
use Rattle.omf_lib.specs.declared.finding.Listed.{Listed}
use Rattle.omf_lib.specs.declared.library.Library.{Library}

-- a bucket that has no entry of a name has another or none
pub other_there : (sensitive : Bool) (block : List ℕ) (bucket : ℕ) (name : List ℕ) (found : Option First) → ((f : First) → found ≡ Some f → ⊥) → IsSpelledAt sensitive block bucket name found → HasOther sensitive block bucket name
other_there sensitive block bucket name None none s = s
other_there sensitive block bucket name (Some f) none s = absurd (none f refl)

-- with the publics of the members that are left, the publics so far are those of all members
abbrev pub IsFrontOf : List Span → ℕ → List Span → List Listed → Type 0
IsFrontOf members number rest all = (later : List Public) → AreAllPublics any_profile number rest later → AreAllPublics any_profile 0 members (publics_seen all ++ later)

pub none_listed : (members : List Span) (all : List Listed) → all ≡ [] → IsFrontOf members 0 members all
none_listed members all e = λ later a. rw e a

pub one_more_listed : (members : List Span) (number : ℕ) (m : Span) (ms rest : List Span) (old new : List Listed) → IsFrontOf members number rest old → rest ≡ m ∷ ms
    → (own : List Public) × ArePublics any_profile number m.bytes.now own × (publics_seen new ≡ publics_seen old ++ own) → IsFrontOf members (number + 1) ms new
one_more_listed members number m ms rest old new f r p = λ later a.
    let all = subst (λ (xs : List Span). (later : List Public) → AreAllPublics any_profile number xs later → AreAllPublics any_profile 0 members (publics_seen old ++ later)) r f (p.0 ++ later) (p.0, later, p.1, a, refl) in
    subst (AreAllPublics any_profile 0 members) (sym (ap (λ (ps : List Public). ps ++ later) p.2 ∙ append_assoc (publics_seen old) p.0 later)) all

pub all_listed : (members : List Span) (number : ℕ) (rest : List Span) (all : List Listed) → IsFrontOf members number rest all → rest ≡ [] → AreAllPublics any_profile 0 members (publics_seen all)
all_listed members number rest all f r =
    let none : AreAllPublics any_profile number rest [] = rw r refl in
    subst (AreAllPublics any_profile 0 members) (append-nil (publics_seen all)) (f [] none)

-- with the text of the names that are left, the text so far is that of all names
abbrev pub IsWrittenOf : Bool → Option Dictionary → List Public → List (List ℕ) → List (List ℕ) → Bool → List ℕ → List ℕ → Type 0
IsWrittenOf ignores dictionary publics names rest is_refused old now =
    (others : Bool) (later : List ℕ) → AreNamesFound ignores dictionary publics rest others later
    → (own : List ℕ) × AreNamesFound ignores dictionary publics names (is_refused || others) own × (now ++ later ≡ old ++ own)

pub none_written : (ignores : Bool) (dictionary : Option Dictionary) (publics : List Public) (names : List (List ℕ)) (old : List ℕ) → IsWrittenOf ignores dictionary publics names names false old old
none_written ignores dictionary publics names old = λ others later a. (later, a, refl)

or_assoc : (a b c : Bool) → ((a || b) || c) ≡ (a || (b || c))
or_assoc true b c = refl
or_assoc false b c = refl

pub one_more_written : (ignores : Bool) (dictionary : Option Dictionary) (publics : List Public) (names : List (List ℕ)) (name : List ℕ) (rest all : List (List ℕ)) (is_refused one either : Bool) (old now new : List ℕ)
    → IsWrittenOf ignores dictionary publics names all is_refused old now → all ≡ name ∷ rest → either ≡ (is_refused || one)
    → (own : List ℕ) × IsNameFound ignores dictionary publics name one own × (new ≡ now ++ own) → IsWrittenOf ignores dictionary publics names rest either old new
one_more_written ignores dictionary publics names name rest all is_refused one either old now new w r b p = λ others later a.
    let known = subst (λ (xs : List (List ℕ)). IsWrittenOf ignores dictionary publics names xs is_refused old now) r w in
    let whole = known (one || others) (p.0 ++ later) (one, others, p.0, later, p.1, a, refl, refl) in (
      whole.0,
      subst (λ (b : Bool). AreNamesFound ignores dictionary publics names b whole.0) (sym (ap (λ (b : Bool). b || others) b ∙ or_assoc is_refused one others)) whole.1,
      ap (λ (t : List ℕ). t ++ later) p.2 ∙ append_assoc now p.0 later ∙ whole.2,
    )

or_false : (a : Bool) → (a || false) ≡ a
or_false true = refl
or_false false = refl

pub all_written : (ignores : Bool) (dictionary : Option Dictionary) (publics : List Public) (names rest : List (List ℕ)) (is_refused : Bool) (old now : List ℕ) → IsWrittenOf ignores dictionary publics names rest is_refused old now
    → rest ≡ [] → (own : List ℕ) × AreNamesFound ignores dictionary publics names is_refused own × (now ≡ old ++ own)
all_written ignores dictionary publics names rest is_refused old now w r =
    let known = subst (λ (xs : List (List ℕ)). IsWrittenOf ignores dictionary publics names xs is_refused old now) r w in
    let all = known false [] (refl, refl) in
    (all.0, subst (λ (b : Bool). AreNamesFound ignores dictionary publics names b all.0) (or_false is_refused) all.1, sym (append-nil now) ∙ all.2)

-- what is left of a list
pub rest_more : {A : Type 0} (xs : List A) (i : ℕ) (x : A) → x ≡ get_or xs i x → i < length xs → drop i xs ≡ x ∷ drop (i + 1) xs
rest_more xs i x e h = drop_more xs i x h ∙ ap (λ y. y ∷ drop (i + 1) xs) (sym e)

-- a name, by the texts that the calls take
pub name_found : (ignores : Bool) (dictionary : Option Dictionary) (publics : List Public) (name bytes shown own given : List ℕ) (is_refused : Bool) (old new : List ℕ) → bytes ≡ name → shown ≡ name → given ≡ own
    → ArePlaces ignores dictionary publics bytes own → (is_refused ≡ is_nowhere given) × (new ≡ old ++ name_text publics shown given)
    → (text : List ℕ) × IsNameFound ignores dictionary publics name is_refused text × (new ≡ old ++ text)
name_found ignores dictionary publics name bytes shown own given is_refused old new b s g a p = (
  name_text publics name own,
  (own, subst (λ (n : List ℕ). ArePlaces ignores dictionary publics n own) b a, p.0 ∙ ap is_nowhere g, refl),
  p.1 ∙ ap₂ (λ (n t : List ℕ). old ++ name_text publics n t) s g,
)

-- a library, as it is read
pub found_there : (asked : Find) (bytes : List ℕ) (l : Library) (is_refused : Bool) (old new : List ℕ) → IsLibraryRead bytes (Ok l)
    → (own : List ℕ) × IsFoundIn asked l.header l.bytes.now l.spans.members.items l.spans.end is_refused own × (new ≡ old ++ own)
    → (own : List ℕ) × IsFound asked bytes is_refused own × (new ≡ old ++ own)
found_there asked bytes l is_refused old new r p =
    let there = subst (λ (bs : List ℕ). IsFoundIn asked (header_of bytes) bs l.spans.members.items l.spans.end is_refused p.0) r.1 (subst (λ (h : Header). IsFoundIn asked h l.bytes.now l.spans.members.items l.spans.end is_refused p.0) r.2 p.1) in
    (p.0, inr (r.0, l.spans.members.items, l.spans.end, r.3, there), p.2)

-- a dictionary that does not begin before the end of the members
pub placed_there : (h : Header) (bytes : List ℕ) (end : ℕ) (d : Option Dictionary) → begins_before h end ≡ false → IsDictionary h bytes d → IsPlaced h bytes end d
placed_there h bytes end None b i = inl i
placed_there h bytes end (Some d) b i = (i, b)
