-- What a program takes of bytes has a byte, and is inside them; and members of these, one after another.
use Rattle.std.proofs.Common.{◌≡◌, ℕ, suc, ◌+◌, ◌-◌, ◌<◌, ◌≤◌, List, [], ◌∷◌, ◌++◌, length, drop, refl, sym, ap, subst, ◌∙◌, arith, inl, inr}
use Rattle.std.proofs.lemmas.List.{length-drop}
use Rattle.omf_check.specs.declared.profile.Profile.{Profile}
use Rattle.omf_lowered.specs.Modules.{IsLoweredModule}
use Rattle.omf_lowered.proofs.ModuleLaws.{rest_is_left}
use Rattle.omf_library.specs.Library.{next_page}
use Rattle.omf_making.specs.Taken.{AreTakenMembers, IsTaken, IsTakenMember}
use Rattle.omf_library.specs.declared.member.Member.{Member}
use Rattle.omf_making.specs.declared.taken.Taken.{Taken}
use Rattle.omf_library.proofs.MemberLaws.{module_read}

pub lowered_size : (bytes out rest : List ℕ) (size : ℕ) → IsLoweredModule bytes out rest → size ≡ length bytes - length rest → size + length rest ≡ length bytes
lowered_size bytes out rest size l e = let low = rest_is_left bytes out rest l in omega (arith, low, e)

pub taken_inside : (profile : Profile) (bytes : List ℕ) (t : Taken) → IsTaken profile bytes t → (0 < t.length) × (t.length ≤ length bytes)
taken_inside profile bytes t (inl a) =
    let read = module_read profile bytes 0 0 bytes t.«module» refl a.accepted (omega arith) in
    let size = a.sized in
    (omega (arith, size, read.1), omega (arith, size, read.2))
taken_inside profile bytes t (inr x) =
    let l = x.2 in
    let low = rest_is_left bytes l.lowered l.rest l.lowering in
    let size = l.sized in
    (omega (arith, size, low), omega (arith, size, low))

-- the member at an offset
pub taken_there : (profile : Profile) (bytes rest : List ℕ) (at : ℕ) (t : Taken) → rest ≡ drop at bytes → at ≤ length bytes → IsTaken profile rest t
    → IsTakenMember profile bytes (record { offset = at; length = t.length }) × (0 < t.length) × (at + t.length ≤ length bytes)
taken_there profile bytes rest at t e low h =
    let there : IsTaken profile (drop at bytes) t = subst (λ bs. IsTaken profile bs t) e h in
    let inside = taken_inside profile (drop at bytes) t there in
    let left : length (drop at bytes) ≡ length bytes - at = length-drop at bytes in
    ((t, there, refl), inside.0, omega (arith, inside.1, left, low))

-- one member more
pub taken_more : (profile : Profile) (bytes : List ℕ) (page at : ℕ) (ms : List Member) (to : ℕ) (m : Member) → AreTakenMembers profile bytes page at ms to → m.offset ≡ to → IsTakenMember profile bytes m
    → AreTakenMembers profile bytes page at (ms ++ m ∷ []) (next_page page (to + m.length))
taken_more profile bytes page at [] to m h o i = (o ∙ sym h, i, ap (λ n. next_page page (n + m.length)) h)
taken_more profile bytes page at (n ∷ ms) to m h o i = (h.0, h.1, taken_more profile bytes page (next_page page (at + n.length)) ms to m h.2 o i)

pub taken_grown : (profile : Profile) (bytes : List ℕ) (page at : ℕ) (ms now : List Member) (to end : ℕ) (m : Member) → now ≡ ms ++ m ∷ [] → end ≡ next_page page (to + m.length) → AreTakenMembers profile bytes page at ms to
    → m.offset ≡ to → IsTakenMember profile bytes m → AreTakenMembers profile bytes page at now end
taken_grown profile bytes page at ms now to end m n t h o i =
    subst (λ k. AreTakenMembers profile bytes page at now k) (sym t)
    (subst (λ xs. AreTakenMembers profile bytes page at xs (next_page page (to + m.length))) (sym n) (taken_more profile bytes page at ms to m h o i))
