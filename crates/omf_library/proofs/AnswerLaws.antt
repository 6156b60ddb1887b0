-- Bytes have one answer at most.
use Rattle.std.proofs.Common.{◌≡◌, ◌≢◌, ℕ, true, false, List, length, drop, refl, sym, ap, subst, ◌∙◌, arith, Result, Ok, Err}
use Rattle.omf_image.specs.Limits.{profile_limits}
use Rattle.omf_check.specs.Refusal.{IsRefused}
use Rattle.omf_check.specs.declared.profile.Profile.{Profile}
use Rattle.omf_check.proofs.UniqueLaws.{refused_once}
use Rattle.omf_library.specs.Laws.{is_settled}
use Rattle.omf_library.specs.Library.{AreMembersIn, IsAfter, IsLibraryFault, page_size}
use Rattle.omf_library.specs.declared.member.Member.{Member}
use Rattle.omf_library.specs.declared.fault.LibraryFault.{LibraryFault}
use Rattle.omf_library.specs.declared.fault.LibraryFault.TheVariants as fault
use Rattle.omf_library.proofs.MemberLaws.{NoneAt, both_stop, excluded, none_after, none_refused, unique}

module _ (profile : Profile) (bytes : List ℕ) where
  -- the number of members before the first page where none is, and that page, are one
  same_after : (n k at to : ℕ) → IsAfter profile bytes n at → IsAfter profile bytes k to → NoneAt profile bytes at → NoneAt profile bytes to → (n ≡ k) × (at ≡ to)
  same_after n k at to f g s t =
      let both = both_stop profile bytes (page_size bytes) (page_size bytes) f.members g.members at to f.members_are g.members_are s t in
      (sym f.counted ∙ ap length both.0 ∙ g.counted, both.1)

  same_fault : (f g : LibraryFault) → is_settled (Err f) ≡ true → is_settled (Err g) ≡ true → IsLibraryFault profile bytes f → IsLibraryFault profile bytes g → f ≡ g
  same_fault fault.Memory g p q f h = absurd cc
  same_fault fault.NoHeader fault.Memory p q f h = absurd cc
  same_fault fault.NoHeader fault.NoHeader p q f h = refl
  same_fault fault.NoHeader fault.HeaderCut p q f h = absurd (f h.0)
  same_fault fault.NoHeader (fault.PageSize b) p q f h = absurd (f h.0)
  same_fault fault.NoHeader (fault.Refused k to other there) p q f h = absurd (f h.0.header.begun)
  same_fault fault.NoHeader (fault.NoEnd k to) p q f h = absurd (f h.0.header.begun)
  same_fault fault.HeaderCut fault.Memory p q f h = absurd cc
  same_fault fault.HeaderCut fault.NoHeader p q f h = absurd (h f.0)
  same_fault fault.HeaderCut fault.HeaderCut p q f h = refl
  same_fault fault.HeaderCut (fault.PageSize b) p q f h = let x = f.1 in let y = h.1 in absurd (omega (arith, x, y))
  same_fault fault.HeaderCut (fault.Refused k to other there) p q f h = let x = f.1 in let y = h.0.header.whole in absurd (omega (arith, x, y))
  same_fault fault.HeaderCut (fault.NoEnd k to) p q f h = let x = f.1 in let y = h.0.header.whole in absurd (omega (arith, x, y))
  same_fault (fault.PageSize a) fault.Memory p q f h = absurd cc
  same_fault (fault.PageSize a) fault.NoHeader p q f h = absurd (h f.0)
  same_fault (fault.PageSize a) fault.HeaderCut p q f h = let x = f.1 in let y = h.1 in absurd (omega (arith, x, y))
  same_fault (fault.PageSize a) (fault.PageSize b) p q f h = ap (λ n. fault.PageSize n) (f.2 ∙ sym h.2)
  same_fault (fault.PageSize a) (fault.Refused k to other there) p q f h = let x : true ≡ false = sym h.0.header.paged ∙ f.3 in absurd cc
  same_fault (fault.PageSize a) (fault.NoEnd k to) p q f h = let x : true ≡ false = sym h.0.header.paged ∙ f.3 in absurd cc
  same_fault (fault.Refused n at why place) fault.Memory p q f h = absurd cc
  same_fault (fault.Refused n at why place) fault.NoHeader p q f h = absurd (h f.0.header.begun)
  same_fault (fault.Refused n at why place) fault.HeaderCut p q f h = let x = h.1 in let y = f.0.header.whole in absurd (omega (arith, x, y))
  same_fault (fault.Refused n at why place) (fault.PageSize b) p q f h = let x : true ≡ false = sym f.0.header.paged ∙ h.3 in absurd cc
  same_fault (fault.Refused n at why place) (fault.Refused k to other there) p q f h =
      let both = same_after n k at to f.0 h.0 (none_refused profile bytes at why place f.3) (none_refused profile bytes to other there h.3) in
      let again : IsRefused profile profile_limits (drop at bytes) other there = subst (λ x. IsRefused profile profile_limits (drop x bytes) other there) (sym both.1) h.3 in
      let one = refused_once profile profile_limits (drop at bytes) why other place there f.3 again in
      ap (λ x. fault.Refused x at why place) both.0 ∙ ap (λ x. fault.Refused k x why place) both.1 ∙ ap (λ x. fault.Refused k to x place) one.0 ∙ ap (λ x. fault.Refused k to other x) one.1
  same_fault (fault.Refused n at why place) (fault.NoEnd k to) p q f h =
      let both = same_after n k at to f.0 h.0 (none_refused profile bytes at why place f.3) (none_after profile bytes to h.1) in
      let x = f.1 in let y = h.1 in let z = both.1 in absurd (omega (arith, x, y, z))
  same_fault (fault.NoEnd n at) fault.Memory p q f h = absurd cc
  same_fault (fault.NoEnd n at) fault.NoHeader p q f h = absurd (h f.0.header.begun)
  same_fault (fault.NoEnd n at) fault.HeaderCut p q f h = let x = h.1 in let y = f.0.header.whole in absurd (omega (arith, x, y))
  same_fault (fault.NoEnd n at) (fault.PageSize b) p q f h = let x : true ≡ false = sym f.0.header.paged ∙ h.3 in absurd cc
  same_fault (fault.NoEnd n at) (fault.Refused k to other there) p q f h =
      let both = same_after n k at to f.0 h.0 (none_after profile bytes at f.1) (none_refused profile bytes to other there h.3) in
      let x = f.1 in let y = h.1 in let z = both.1 in absurd (omega (arith, x, y, z))
  same_fault (fault.NoEnd n at) (fault.NoEnd k to) p q f h =
      let both = same_after n k at to f.0 h.0 (none_after profile bytes at f.1) (none_after profile bytes to h.1) in
      ap (λ x. fault.NoEnd x at) both.0 ∙ ap (λ x. fault.NoEnd k x) both.1

  no_memory : (f : LibraryFault) → is_settled (Err f) ≡ true → f ≢ fault.Memory
  no_memory f p e = let x : false ≡ true = ap (λ g. is_settled (Err g)) (sym e) ∙ p in absurd cc

  pub same_answer : (one other : Result (List Member) LibraryFault) → is_settled one ≡ true → is_settled other ≡ true → AreMembersIn profile bytes one → AreMembersIn profile bytes other → one ≡ other
  same_answer (Ok ms) (Ok ns) p q a b = ap (λ xs. Ok xs) (unique profile bytes ms ns a.0 b.0 a.1 b.1).0
  same_answer (Ok ms) (Err g) p q a b = absurd (excluded profile bytes ms a.0 g (no_memory g q) b a.1)
  same_answer (Err f) (Ok ns) p q a b = absurd (excluded profile bytes ns b.0 f (no_memory f p) a b.1)
  same_answer (Err f) (Err g) p q a b = ap (λ e. Err e) (same_fault f g p q a b)
