-- Accepted modules of the same pieces have the same name: their first record is a header, and so a kept piece.
use Rattle.std.proofs.Common.{◌≡◌, ℕ, List, [], ◌∷◌, ◌++◌, refl, sym, ◌∙◌, ap, subst, ◌⊎◌, inl, inr, true, false, true≢false}
use Rattle.std.specs.Prelude.{◌==◌, map, slice_index}
use Rattle.std.specs.List.{AllZip}
use Rattle.std.proofs.lemmas.Bool.{eqb-true, or_cases}
use Rattle.std.proofs.lemmas.List.Elements.{All-head}
use Rattle.omf_frame.specs.Bytes.{is_one_of}
use Rattle.omf_frame.specs.Framing.{Raw, is_header, is_end}
use Rattle.omf_frame.specs.Types.{fixupp}
use Rattle.omf_records.proofs.LaidOut.{IsLaidOut, laid-out}
use Rattle.omf_records.specs.Inner.Reading.{typed}
use Rattle.omf_records.specs.Values.{Rec, Contents, Fixups, ModEnd}
use Rattle.omf_image.specs.Limits.{profile_limits}
use Rattle.omf_check.proofs.WellLaws.{IsSpelled, IsWellRead, well-read}
use Rattle.omf_check.specs.Module.{Module, typed_modules, recs_of, records_in}
use Rattle.omf_check.specs.WellFormed.{recs}
use Rattle.omf_check.specs.declared.profile.Profile.{Profile}
use Rattle.omf_linking.specs.Locator.Keys.{header_name, module_name}
use Rattle.omf_reloc.specs.Inner.Pieces.{one_by_one}
use Rattle.omf_reloc.specs.Plain.{Piece, Kept, piece_of}
use Rattle.omf_canon.specs.Skeleton.{normal}
use Rattle.omf_keys.specs.Keys.{AreAlike, bare_pieces, HaveEqualKeys, IsAcceptedModule}
use Rattle.omf_keys.specs.Laws.{PiecesByKeys}

-- ---- a header is no FIXUPP and no MODEND

one-of-two : (a b kind : ℕ) → is_one_of (a ∷ b ∷ []) kind ≡ true → (kind ≡ a) ⊎ (kind ≡ b)
one-of-two a b kind e =
    elim (or_cases (a == kind) (is_one_of (b ∷ []) kind) e) [
      | inl q ↦ inl (sym (eqb-true a kind q))
      | inr q ↦ elim (or_cases (b == kind) false q) [ inl z ↦ inr (sym (eqb-true b kind z)) | inr z ↦ absurd cc ]
    ]

fixupp-no-header : (kind : ℕ) → is_one_of fixupp kind ≡ true → is_header kind ≡ false
fixupp-no-header kind e = elim (one-of-two 0x9C 0x9D kind e) [
  | inl q ↦ subst (λ k. is_header k ≡ false) (sym q) refl
  | inr q ↦ subst (λ k. is_header k ≡ false) (sym q) refl
]

end-no-header : (kind : ℕ) → is_end kind ≡ true → is_header kind ≡ false
end-no-header kind e = elim (one-of-two 0x8A 0x8B kind e) [
  | inl q ↦ subst (λ k. is_header k ≡ false) (sym q) refl
  | inr q ↦ subst (λ k. is_header k ≡ false) (sym q) refl
]

-- ---- the name of the first piece

abbrev first_name : List Piece → List ℕ
first_name (Kept r ∷ ps) = header_name r.contents
first_name _ = []

name-piece : (kind : ℕ) (body : List ℕ) (c : Contents) (ps : List Piece) → IsLaidOut kind 3 body c → is_header kind ≡ true → header_name c ≡ first_name (map normal (one_by_one (piece_of [] kind c) ++ ps))
name-piece kind body (Fixups subs) ps h e = absurd (true≢false (sym e ∙ fixupp-no-header kind h.0))
name-piece kind body (ModEnd byte start) ps h e = absurd (true≢false (sym e ∙ end-no-header kind h.0))
name-piece kind body _ ps h e = refl

name-of : (profile : Profile) (bytes : List ℕ) (rs : List Raw) → IsWellRead profile profile_limits bytes rs → module_name (recs rs) ≡ first_name (bare_pieces (recs rs))
name-of profile bytes [] w = refl
name-of profile bytes (r ∷ rs) w =
    name-piece r.kind r.body (typed r).contents _ (laid-out r.kind 3 r.body (typed r).contents (All-head IsSpelled r rs w.spelled))
    (subst (λ (b : List ℕ). is_header (slice_index b 0) ≡ true) w.framed.spelled w.framed.first)

-- The name of an accepted module.
name-told : (m : Module) → IsAcceptedModule m → module_name (recs_of m.bytes) ≡ first_name (bare_pieces (recs_of m.bytes))
name-told m a = name-of m.profile m.bytes (records_in m.bytes) (well-read m.profile profile_limits m.bytes (records_in m.bytes) a)

pub same-names : (m n : Module) → IsAcceptedModule m → IsAcceptedModule n → bare_pieces (recs_of m.bytes) ≡ bare_pieces (recs_of n.bytes) → module_name (recs_of m.bytes) ≡ module_name (recs_of n.bytes)
same-names m n a b h = name-told m a ∙ ap first_name h ∙ sym (name-told n b)

-- Modules of the same pieces and one name.
pub record AreNamesakes (m n : List Rec) : Type 0 where
  pub alike : AreAlike m n
  pub name : module_name m ≡ module_name n

pub alike-of : (xs ys : List (List Rec)) → AllZip AreNamesakes xs ys → AllZip AreAlike xs ys
alike-of [] [] h = tt
alike-of [] (y ∷ ys) h = absurd h
alike-of (x ∷ xs) [] h = absurd h
alike-of (x ∷ xs) (y ∷ ys) h = (h.0.alike, alike-of xs ys h.1)

pub all-namesakes : PiecesByKeys → (ms ns : List Module) → HaveEqualKeys ms ns → AllZip AreNamesakes (typed_modules ms) (typed_modules ns)
all-namesakes same [] [] h = tt
all-namesakes same [] (n ∷ ns) h = absurd h
all-namesakes same (m ∷ ms) [] h = absurd h
all-namesakes same (m ∷ ms) (n ∷ ns) h = let bare = (same m n h.0).bare in (record { alike = bare; name = same-names m n h.0.first h.0.second bare }, all-namesakes same ms ns h.1)
