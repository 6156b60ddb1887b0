-- The modules of a library's members, one after another.
use Rattle.std.proofs.Common.{◌≡◌, ◌≢◌, ℕ, ◌+◌, ◌<◌, List, [], ◌∷◌, ◌++◌, length, drop, refl, sym, ap, subst, ◌∙◌}
use Rattle.std.specs.Prelude.{slice_index, Ok, Err}
use Rattle.std.specs.List.{AllZip}
use Rattle.std.proofs.lemmas.Slice.Zip.{AllZip-long}
use Rattle.omf_image.specs.Limits.{profile_limits}
use Rattle.omf_check.specs.Checking.{Decides}
use Rattle.omf_check.specs.Module.{Module}
use Rattle.omf_check.specs.Refusal.{IsRefused}
use Rattle.omf_check.specs.declared.profile.Profile.{Profile}
use Rattle.omf_library.specs.Inner.Modules.{AreFirst}
use Rattle.omf_library.specs.Library.{AreOfMembers, HasHeader, IsAfter, IsLibraryFault, IsModuleOf, IsModuleRead, library_end, next_page, page_size}
use Rattle.omf_library.specs.declared.member.Member.{Member}
use Rattle.omf_library.specs.declared.fault.LibraryFault.{LibraryFault}
use Rattle.omf_library.specs.declared.fault.LibraryFault.TheVariants as fault
use Rattle.omf_library.proofs.MemberLaws.{members_grown, module_member}

-- one pair more
pairs_more : {A B : Type 0} (R : A → B → Type 0) (xs : List A) (ys : List B) (x : A) (y : B) → AllZip R xs ys → R x y → AllZip R (xs ++ x ∷ []) (ys ++ y ∷ [])
pairs_more R [] [] x y h r = (r, tt)
pairs_more R [] (b ∷ ys) x y h r = absurd h
pairs_more R (a ∷ xs) [] x y h r = absurd h
pairs_more R (a ∷ xs) (b ∷ ys) x y h r = (h.0, pairs_more R xs ys x y h.1 r)

module _ (profile : Profile) (bytes : List ℕ) where
  -- no module yet
  pub none_first : (page : ℕ) → page ≡ page_size bytes → HasHeader bytes → AreFirst profile bytes [] page
  none_first page e h = record { header = h; members = []; members_are = sym e; modules = tt }

  -- one module more
  pub first_more : (page at next : ℕ) (ms now : List Module) (m : Module) → page ≡ page_size bytes → now ≡ ms ++ m ∷ [] → next ≡ next_page page (at + length m.bytes) → AreFirst profile bytes ms at → Decides profile (drop at bytes) (Ok m)
      → AreFirst profile bytes now next
  first_more page at next ms now m e g n f d =
      let new : Member = record { offset = at; length = length m.bytes } in
      let there : next ≡ next_page (page_size bytes) (at + length m.bytes) = n ∙ ap (λ p. next_page p (at + length m.bytes)) e in
      record {
        header = f.header;
        members = f.members ++ new ∷ [];
        members_are = members_grown profile bytes (page_size bytes) (page_size bytes) f.members (f.members ++ new ∷ []) at next new refl there f.members_are refl (module_member profile bytes at m d);
        modules = subst (λ xs. AllZip (IsModuleOf profile bytes) (f.members ++ new ∷ []) xs) (sym g) (pairs_more (IsModuleOf profile bytes) f.members ms new m f.modules d);
      }

  pub first_after : (ms : List Module) (at : ℕ) → AreFirst profile bytes ms at → IsAfter profile bytes (length ms) at
  first_after ms at f = record { header = f.header; members = f.members; members_are = f.members_are; counted = sym (AllZip-long (IsModuleOf profile bytes) f.members ms f.modules) }

  -- the page begins with F1H: they are all
  pub first_all : (ms : List Module) (at : ℕ) → AreFirst profile bytes ms at → slice_index bytes at ≡ library_end → AreOfMembers profile bytes ms
  first_all ms at f e = record { members = f.members; library = (at, record { header = f.header; members_are = f.members_are; ended = e }); modules = f.modules }

  -- no module begins at the page
  pub first_fails : (ms : List Module) (at : ℕ) (f : LibraryFault) → AreFirst profile bytes ms at → at < length bytes → slice_index bytes at ≢ library_end → IsModuleRead profile bytes (length ms) at (Err f) → IsLibraryFault profile bytes f
  first_fails ms at fault.Memory a low k h = tt
  first_fails ms at (fault.Refused member offset why place) a low k h =
      let after : IsAfter profile bytes member at = subst (λ n. IsAfter profile bytes n at) (sym h.0) (first_after ms at a) in
      subst (λ n. IsAfter profile bytes member n × (n < length bytes) × (slice_index bytes n ≢ library_end) × IsRefused profile profile_limits (drop n bytes) why place) (sym h.1) (after, low, k, h.2)
  first_fails ms at fault.NoHeader a low k h = absurd h
  first_fails ms at fault.HeaderCut a low k h = absurd h
  first_fails ms at (fault.PageSize size) a low k h = absurd h
  first_fails ms at (fault.NoEnd member offset) a low k h = absurd h
