-- What members define, one after another, and what is found so far.
use native.Mathlib.Omega.{arith}
use Rattle.std.proofs.Common.{◌≡◌, ℕ, ◌+◌, ◌||◌, Bool, true, false, List, [], ◌∷◌, ◌++◌, refl, sym, subst, append_assoc, append-nil, below_more, Vec, Global, BTreeSet, Result, Ok, Err, IfOk, OnOk, Some, inl, ◌/◌}
use Rattle.std.proofs.lemmas.Grind.{flat_map-append}
use Rattle.omf_check.specs.Module.{recs_of}
use Rattle.omf_check.specs.declared.profile.Profile.{Profile}
use Rattle.omf_host.specs.declared.ending.Status.{Status}
use Rattle.omf_host.specs.declared.ending.Status.TheVariants as status
use Rattle.omf_library.specs.Library.{header_of, page_size}
use Rattle.omf_library.specs.Spans.{AreSpansIn}
use Rattle.omf_making.specs.Taken.{IsTaken}
use Rattle.omf_library.specs.Dictionary.{IsDictionary, is_case_sensitive}
use Rattle.omf_library.specs.declared.dictionary.Dictionary.{Dictionary}
use Rattle.omf_library.specs.declared.header.Header.{Header}
use Rattle.omf_library.specs.declared.spans.Span.{Span}
use Rattle.omf_making.specs.declared.taken.Taken.{Taken}
use Rattle.omf_lib.specs.Defining.{AreDefiners, AreEntriesDefined, Definer, HasUndefined, IsAllDefined, IsAnyOf, IsDefiner, IsLibraryDefined, definer_of}
use Rattle.omf_lib.specs.Keys.{IsKeySet, all_keys, keys_of}
use Rattle.omf_lib.specs.Members.{IsLibraryRead, begins_before}
use Rattle.omf_lib.specs.declared.library.Library.{Library}

-- Whether one of the first n has a property, and one more.
pub any_none : (Has : ℕ → Bool → Type 0) → IsAnyOf Has 0 false
any_none Has = λ i h. absurd (omega (arith, h))

pub any_more : (Has : ℕ → Bool → Type 0) (n : ℕ) (a b c : Bool) → IsAnyOf Has n a → Has n b → c ≡ (a || b) → IsAnyOf Has (n + 1) c
any_more Has n true b c h k e = subst (IsAnyOf Has (n + 1)) (sym e) (let low = h.1 in (h.0, omega (arith, low), h.2))
any_more Has n false true c h k e = subst (IsAnyOf Has (n + 1)) (sym e) (n, omega arith, k)
any_more Has n false false c h k e = subst (IsAnyOf Has (n + 1)) (sym e) (below_more _ _ h k)

-- The keys are those of what the members so far define, and these come before what the members that are left define.
pub record AreSoFar (profile : Profile) (page : ℕ) (members rest : List Span) (sensitive : Bool) (set : BTreeSet (Vec ℕ Global)) : Type 0 where
  pub done : List Definer
  pub front : (later : List Definer) → AreDefiners profile page rest later → AreDefiners profile page members (done ++ later)
  pub known : IsKeySet set (all_keys sensitive done)

pub so_far_none : (profile : Profile) (page : ℕ) (members : List Span) (sensitive : Bool) (set : BTreeSet (Vec ℕ Global)) → IsKeySet set [] → AreSoFar profile page members members sensitive set
so_far_none profile page members sensitive set h = record { done = []; front = λ later a. a; known = h }

pub so_far_more : (profile : Profile) (page : ℕ) (members : List Span) (m : Span) (ms rest : List Span) (sensitive : Bool) (old new : BTreeSet (Vec ℕ Global)) (offset : ℕ) (bytes : List ℕ) → (f : AreSoFar profile page members rest sensitive old)
    → rest ≡ m ∷ ms → offset ≡ m.offset → bytes ≡ m.bytes.now
    → (own : List Definer) × IsDefiner profile page offset bytes own × IsKeySet new (all_keys sensitive f.done ++ all_keys sensitive own) → AreSoFar profile page members ms sensitive new
so_far_more profile page members m ms rest sensitive old new offset bytes f r o b p =
    let own : IsDefiner profile page m.offset m.bytes.now p.0 = subst (λ at. IsDefiner profile page at m.bytes.now p.0) o (subst (λ bs. IsDefiner profile page offset bs p.0) b p.1) in
    record {
      done = f.done ++ p.0;
      front = λ later a. subst (AreDefiners profile page members) (sym (append_assoc f.done p.0 later)) (f.front (p.0 ++ later) (subst (λ xs. AreDefiners profile page xs (p.0 ++ later)) (sym r) (p.0, later, own, a, refl)));
      known = subst (IsKeySet new) (sym (flat_map-append (keys_of sensitive) f.done p.0)) p.2;
    }

pub so_far_all : (profile : Profile) (page : ℕ) (members rest : List Span) (sensitive : Bool) (set : BTreeSet (Vec ℕ Global)) → AreSoFar profile page members rest sensitive set → rest ≡ []
    → (ds : List Definer) × AreDefiners profile page members ds × IsKeySet set (all_keys sensitive ds)
so_far_all profile page members rest sensitive set f r =
    (f.done, subst (AreDefiners profile page members) (append-nil f.done) (f.front [] (subst (λ xs. AreDefiners profile page xs []) (sym r) refl)), f.known)

pub any_end : (Has : ℕ → Bool → Type 0) (n m : ℕ) (a : Bool) → n ≡ m → IsAnyOf Has n a → IsAnyOf Has m a
any_end Has n m a e h = subst (λ k. IsAnyOf Has k a) e h

-- What follows of an answer's value, if there is one.
pub if_ok : {T E : Type 0} {P Q : T → Type 0} (r : Result T E) → ((x : T) → P x → Q x) → IfOk r P → IfOk r Q
if_ok (Ok x) f h = f x h
if_ok (Err e) f h = h

-- A dictionary that is there, by the fields of the header.
pub defined_there : {E : Type 0} (h : Header) (bytes : List ℕ) (ds : List Definer) (d : Dictionary) (set : BTreeSet (Vec ℕ Global)) (r : Result Bool E) → IsDictionary h bytes (Some d) → IsKeySet set (all_keys (is_case_sensitive h) ds)
    → (IsKeySet set (all_keys d.is_case_sensitive ds) → IfOk r (λ found. HasUndefined d.is_case_sensitive ds d.bytes.now found)) → IfOk r (λ found. found ≡ false → AreEntriesDefined h bytes ds)
defined_there h bytes ds d set r i k f =
    if_ok r (λ found u e. (d, i, subst (λ s. HasUndefined s ds d.bytes.now false) i.2 (subst (λ b. HasUndefined d.is_case_sensitive ds d.bytes.now b) e u))) (f (subst (λ s. IsKeySet set (all_keys s ds)) (sym i.2) k))

-- What a member defines, by the names of its module.
pub ok_given : {T E P : Type 0} (r : Result T E) → P → OnOk r P
ok_given (Ok x) p = p
ok_given (Err e) p = tt

pub module_added : (profile : Profile) (page offset : ℕ) (bytes : List ℕ) (t : Taken) (s : Bool) (done : List (List ℕ)) (set : BTreeSet (Vec ℕ Global))
    → IsTaken profile bytes t → IsKeySet set (done ++ all_keys s (definer_of (offset / page) (recs_of t.«module».bytes) ∷ []))
    → (ds : List Definer) × IsDefiner profile page offset bytes ds × IsKeySet set (done ++ all_keys s ds)
module_added profile page offset bytes t s done set d k = (definer_of (offset / page) (recs_of t.«module».bytes) ∷ [], inl (t, d, refl), k)

-- A file that is read as a library.
pub all_there : {E : Type 0} (profile : Profile) (bytes : List ℕ) (l : Library) (r : Result Status E) → IsLibraryRead bytes (Ok l)
    → IfOk r (λ s. s ≡ status.Done → (ds : List Definer) × AreDefiners profile l.header.page l.spans.members.items ds × IsLibraryDefined l ds) → IfOk r (λ s. s ≡ status.Done → IsAllDefined profile bytes)
all_there profile bytes l r i o = if_ok r (λ s f e.
    let p = f e in
    let ms = l.spans.members.items in (
      i.0,
      ms,
      p.2.end,
      subst (AreSpansIn bytes (page_size bytes) ms) p.2.ended i.3,
      subst (λ (h : Header). begins_before h p.2.end ≡ false) i.2 p.2.after,
      p.0,
      subst (λ (h : Header). AreDefiners profile h.page ms p.0) i.2 p.1,
      subst (λ (bs : List ℕ). AreEntriesDefined (header_of bytes) bs p.0) i.1 (subst (λ (h : Header). AreEntriesDefined h l.bytes.now p.0) i.2 p.2.entries),
    )) o
