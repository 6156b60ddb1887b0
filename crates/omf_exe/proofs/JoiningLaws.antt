-- Needed members, one after another: modules, up to the first that is refused.
use Rattle.std.proofs.Common.{◌≡◌, ℕ, zero, suc, ◌+◌, ◌<◌, ◌≤◌, ◌∙◌, List, [], ◌∷◌, ◌++◌, length, take, drop, refl, sym, ap, subst, append_assoc, append-nil, arith, inr}
use Rattle.std.specs.Prelude.{Some, map, slice_get, false, IfErr, Result, Ok, Err}
use Rattle.std.specs.List.{AllZip}
use Rattle.std.proofs.lemmas.List.{map-append, take_all}
use Rattle.omf_check.specs.Module.{Module}
use Rattle.omf_library.specs.Needed.{AreNeeded, offer}
use Rattle.omf_library.specs.declared.judged.LibraryMember.{LibraryMember}
use Rattle.omf_library.specs.declared.judged.LibraryMember.TheVariants as member
use Rattle.omf_library.specs.declared.judged.RefusedMember.{RefusedMember}
use Rattle.omf_linking.specs.File.{InputFile}
use Rattle.omf_linking.specs.Folded.{IsFolded}
use Rattle.omf_exe.specs.Input.{AllGive, IsMemberFolded}
use Rattle.omf_exe.specs.Refusing.{GiveNoFolded, GiveNoModules, IsRefusalFor, NeedRefused, is_joining_memory}
use Rattle.omf_exe.specs.declared.refusal.Refusal.{Refusal}
use Rattle.omf_exe.specs.Taken.{AreJoined, IsFirstRefused, IsJoiningFault, all_modules, values_at}
use Rattle.omf_exe.specs.Inner.Taking.{AreMoved, IsMovingFault, IsRefusedWith}
use Rattle.omf_exe.specs.declared.joining.JoiningFault.{JoiningFault}
use Rattle.omf_exe.specs.declared.joining.JoiningFault.TheVariants as fault

no_first : (x : LibraryMember) (rest : List LibraryMember) → [] ≡ x ∷ rest → ⊥
no_first x rest e = absurd cc

-- The first of those that are left.
pub record IsNext (ms : List LibraryMember) (at : ℕ) (x : LibraryMember) (rest : List LibraryMember) : Type 0 where
  pub low : at < length ms
  pub taken : take (at + 1) ms ≡ take at ms ++ x ∷ []
  pub left : drop (at + 1) ms ≡ rest
  pub found : slice_get ms at ≡ Some x

pub next_is : (ms : List LibraryMember) (at : ℕ) (x : LibraryMember) (rest : List LibraryMember) → drop at ms ≡ x ∷ rest → IsNext ms at x rest
next_is [] zero x rest e = absurd (no_first x rest e)
next_is [] (suc at) x rest e = absurd (no_first x rest e)
next_is (y ∷ ms) zero x rest e =
    let s : y ∷ ms ≡ x ∷ rest = e in
    let h : y ≡ x = cc in
    let t : ms ≡ rest = cc in
    record { low = omega arith; taken = ap (λ z. z ∷ []) h; left = t; found = ap (λ (z : LibraryMember). Some z) h }
next_is (y ∷ ms) (suc at) x rest e =
    let n = next_is ms at x rest e in
    let l = n.low in
    let same : suc at + 1 ≡ suc (at + 1) = omega arith in
    record {
      low = omega (arith, l);
      taken = ap (λ k. take k (y ∷ ms)) same ∙ ap (λ zs. y ∷ zs) n.taken;
      left = ap (λ k. drop k (y ∷ ms)) same ∙ n.left;
      found = n.found;
    }

-- The members so far are modules that were moved, and the others are left.
pub record AreMovedTo (ms : List LibraryMember) (at : ℕ) (left : List LibraryMember) (old new : List Module) : Type 0 where
  pub own : List Module
  pub modules : take at ms ≡ all_modules own
  pub left_is : drop at ms ≡ left
  pub all : new ≡ old ++ own

pub none_moved : (ms left : List LibraryMember) (old : List Module) → left ≡ ms → AreMovedTo ms 0 left old old
none_moved ms left old e = record { own = []; modules = refl; left_is = sym e; all = sym (append-nil old) }

pub moved_more : (ms : List LibraryMember) (at : ℕ) (left rest : List LibraryMember) (m : Module) (old new now : List Module) → AreMovedTo ms at left old new → left ≡ member.Module m ∷ rest → now ≡ new ++ m ∷ [] → AreMovedTo ms (at + 1) rest old now
moved_more ms at left rest m old new now h e n =
    let x = next_is ms at (member.Module m) rest (h.left_is ∙ e) in
    record {
      own = h.own ++ m ∷ [];
      modules = x.taken ∙ ap (λ zs. zs ++ member.Module m ∷ []) h.modules ∙ sym (map-append member.Module h.own (m ∷ []));
      left_is = x.left;
      all = n ∙ ap (λ zs. zs ++ m ∷ []) h.all ∙ append_assoc old h.own (m ∷ []);
    }

all_taken : (ms : List LibraryMember) (at : ℕ) → drop at ms ≡ [] → take at ms ≡ ms
all_taken [] zero e = refl
all_taken [] (suc at) e = refl
all_taken (m ∷ ms) zero e = absurd (no_first m ms (sym e))
all_taken (m ∷ ms) (suc at) e = ap (λ zs. m ∷ zs) (all_taken ms at e)

pub moved_all : (ms : List LibraryMember) (at : ℕ) (left : List LibraryMember) (old new : List Module) → AreMovedTo ms at left old new → left ≡ [] → AreMoved ms old new
moved_all ms at left old new h e = record { own = h.own; modules = sym (all_taken ms at (h.left_is ∙ e)) ∙ h.modules; all = h.all }

pub moving_fails : (numbers : List ℕ) (ms : List LibraryMember) (at : ℕ) (left rest : List LibraryMember) (r : RefusedMember) (old new : List Module) (f : JoiningFault) → AreMovedTo ms at left old new → left ≡ member.Refused r ∷ rest
    → IsRefusedWith numbers at r f → IsMovingFault numbers ms f
moving_fails numbers ms at left rest r old new fault.Memory h e g = tt
moving_fails numbers ms at left rest r old new (fault.Refused n s) h e g =
    let x = next_is ms at (member.Refused r) rest (h.left_is ∙ e) in
    (at, h.own, h.modules, x.found ∙ ap (λ (z : RefusedMember). Some (member.Refused z)) (sym g.1), g.0)

-- Needed members that are modules are joined; else the first that is refused.
pub are_joined : (given joined : List Module) (members taken : List LibraryMember) (numbers : List ℕ) → AreNeeded (offer given members) numbers → taken ≡ values_at numbers members → AreMoved taken given joined
    → AreJoined given members joined numbers
are_joined given joined members taken numbers n e m = record { needed = n; own = m.own; modules = sym e ∙ m.modules; all = m.all }

pub joining_fails : (given : List Module) (members taken : List LibraryMember) (numbers : List ℕ) (f : JoiningFault) → AreNeeded (offer given members) numbers → taken ≡ values_at numbers members → IsMovingFault numbers taken f
    → IsJoiningFault given members f
joining_fails given members taken numbers fault.Memory n e h = tt
joining_fails given members taken numbers (fault.Refused number r) n e (at, before, modules, found, numbered) =
    record { numbers = numbers; needed = n; at = at; before = before; modules = ap (take at) (sym e) ∙ modules; found = ap (λ ms. slice_get ms at) (sym e) ∙ found; numbered = numbered }

-- A joining fault but out of memory.
pub refused_needed : (given : List Module) (members : List LibraryMember) (f : JoiningFault) → IsJoiningFault given members f → is_joining_memory f ≡ false → NeedRefused given members
refused_needed given members fault.Memory h e = absurd cc
refused_needed given members (fault.Refused number r) h e = (number, r, h)

-- Files whose modules need a refused member give no modules.
pub have_refused : {A : Type 0} (fs : List InputFile) (given : List Module) (members : List LibraryMember) (r : Result A Refusal) → AllGive fs given members → IfErr r (IsRefusalFor (NeedRefused given members))
    → IfErr r (IsRefusalFor (GiveNoModules fs))
have_refused fs given members (Ok x) h n = tt
have_refused fs given members (Err f) h n = λ e. inr (record { given = given; members = members; hold = h; refused = n e })

pub have_refused_folded : {A : Type 0} (fs : List InputFile) (given : List Module) (members : List LibraryMember) (fgiven : List Module) (fmembers : List LibraryMember) (r : Result A Refusal) → AllGive fs given members → AllZip IsFolded given fgiven
    → AllZip IsMemberFolded members fmembers → IfErr r (IsRefusalFor (NeedRefused fgiven fmembers)) → IfErr r (IsRefusalFor (GiveNoFolded fs))
have_refused_folded fs given members fgiven fmembers (Ok x) h g m n = tt
have_refused_folded fs given members fgiven fmembers (Err f) h g m n = λ e. inr (record { given = given; members = members; folded_given = fgiven; folded_members = fmembers; hold = h; fold_given = g; fold_members = m; refused = n e })
