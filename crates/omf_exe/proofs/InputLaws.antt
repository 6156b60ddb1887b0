-- The modules of a program's files, one file after another.
use Rattle.std.proofs.Common.{◌≡◌, ℕ, List, [], ◌++◌, length, refl, sym, ◌∙◌, inl, inr, true, false, append-nil}
use Rattle.omf_check.specs.Module.{Module}
use Rattle.omf_library.specs.declared.judged.LibraryMember.{LibraryMember}
use Rattle.omf_exe.specs.Input.{is_library}
use Rattle.omf_exe.specs.Origins.{origins_in}
use Rattle.omf_exe.specs.WithCommunals.{AreGiven, AreGivenMembers}
use Rattle.omf_exe.specs.Inner.Input.{IsAdded}
use Rattle.omf_exe.specs.declared.input.Input.{Input}

-- The members of a library are offered.
pub library-added : (file : ℕ) (bytes : List ℕ) (old new : Input) (ms : List LibraryMember) → is_library bytes ≡ true → AreGivenMembers bytes ms → new.given.items ≡ old.given.items → new.members.items ≡ old.members.items ++ ms
    → new.given_from.items ≡ old.given_from.items → new.members_from.items ≡ old.members_from.items ++ origins_in file (length ms) → IsAdded file bytes old new
library-added file bytes old new ms l h g m gf mf =
    record { own = []; mine = ms; gives = inl (l, refl, h); more = g ∙ sym (append-nil old.given.items); offered = m; more_from = gf ∙ sym (append-nil old.given_from.items); offered_from = mf }

-- Those of any other file take part.
pub modules-added : (file : ℕ) (bytes : List ℕ) (old new : Input) (ms : List Module) → is_library bytes ≡ false → AreGiven bytes ms → new.given.items ≡ old.given.items ++ ms → new.members.items ≡ old.members.items
    → new.given_from.items ≡ old.given_from.items ++ origins_in file (length ms) → new.members_from.items ≡ old.members_from.items → IsAdded file bytes old new
modules-added file bytes old new ms l h g m gf mf =
    record { own = ms; mine = []; gives = inr (l, h, refl); more = g; offered = m ∙ sym (append-nil old.members.items); more_from = gf; offered_from = mf ∙ sym (append-nil old.members_from.items) }
