-- Modules of one key are main modules or not.
use Rattle.std.proofs.Common.{◌≡◌, ℕ, ◌+◌, ◌*◌, ◌<◌, ◌≤◌, inl, inr, List, [], ◌∷◌, ◌++◌, refl, sym, ◌∙◌, ap, ap₂, subst, Bool, cond, arith}
use Rattle.std.specs.Prelude.{map, flat_map, All, nat_le, Option, ⊤}
use Rattle.std.proofs.lemmas.Bool.{cases_Bool, leb-true, leb-false, le-leb}
use Rattle.std.proofs.lemmas.List.Elements.{All-head, All-tail}
use Rattle.omf_frame.specs.Bytes.{with_before, bits}
use Rattle.omf_frame.specs.Framing.{Raw}
use Rattle.omf_records.proofs.LaidOut.{IsLaidOut, laid-out}
use Rattle.omf_records.specs.Inner.Reading.{typed}
use Rattle.omf_records.specs.Records.{mod_end}
use Rattle.omf_records.specs.Values.{Rec, Contents, Names, ModEnd, Reference, Subrecord, is_wide}
use Rattle.omf_image.specs.Limits.{profile_limits}
use Rattle.omf_check.proofs.WellLaws.{IsSpelled, well-read}
use Rattle.omf_check.specs.Module.{Module, recs_of, records_in}
use Rattle.omf_check.specs.Tables.{subrecords}
use Rattle.omf_check.specs.WellFormed.{recs}
use Rattle.omf_reloc.specs.Inner.Pieces.{one_by_one, single_pieces}
use Rattle.omf_reloc.specs.Plain.{Piece, Kept, Fixed, End, PlainFixup, piece_of, pieces}
use Rattle.omf_canon.specs.Skeleton.{normal}
use Rattle.omf_keys.specs.Keys.{bare_pieces, main_bit, with_main, main_pieces, IsAcceptedModule}

-- ---- a module type byte below 256

abbrev end_byte : ℕ → ℕ
end_byte byte = 128 * bits byte 7 1 + 64 * bits byte 6 1 + bits byte 6 1

high : (byte : ℕ) → byte < 256 → 128 ≤ byte → 128 ≤ end_byte byte
high byte small h = by (bits byte 7 1) (bits byte 6 1) (omega (arith, small, h))
  where
    by : (x y : ℕ) → x ≡ 1 → 128 ≤ 128 * x + 64 * y + y
    by x y e = omega (arith, e)

low : (byte : ℕ) → byte < 128 → end_byte byte < 128
low byte h = by (bits byte 7 1) (bits byte 6 1) (omega (arith, h)) (omega arith)
  where
    by : (x y : ℕ) → x ≡ 0 → y < 2 → 128 * x + 64 * y + y < 128
    by x y e l = omega (arith, e, l)

main-normal : (byte : ℕ) → byte < 256 → nat_le 128 (end_byte byte) ≡ nat_le 128 byte
main-normal byte small =
    elim (cases_Bool (nat_le 128 byte)) [
      | inl t ↦ le-leb 128 (end_byte byte) (high byte small (leb-true 128 byte t)) ∙ sym t
      | inr f ↦ elim (cases_Bool (nat_le 128 (end_byte byte))) [
        | inl t ↦ absurd (above (leb-true 128 (end_byte byte) t) (low byte (leb-false 128 byte f)))
        | inr g ↦ g ∙ sym f
      ]
    ]
  where
    above : 128 ≤ end_byte byte → end_byte byte < 128 → ⊥
    above h l = omega (arith, h, l)

abbrev IsSmall : Piece → Type 0
IsSmall (End kind byte start) = byte < 256
IsSmall _ = ⊤

abbrev main_only : Piece → Piece
main_only (End kind byte start) = End kind (main_bit byte) start
main_only p = p

small-main : (p : Piece) → IsSmall p → with_main p ≡ main_only (normal p)
small-main (Kept r) h = refl
small-main (Fixed kind fs) h = refl
small-main (End kind byte start) h = ap (λ (b : Bool). End kind (cond b 128 0) start) (sym (main-normal byte h))

-- ---- all of them are

end-small : (wide : Bool) (body : List ℕ) (byte : ℕ) (start : Option Reference) → (mod_end wide).Spells 3 body (ModEnd byte start) → byte < 256
end-small wide body byte start (f1, b1, x1, p1, s1, (f2, b2, x2, p2, s2, (none, e))) = let same : byte ≡ x1 = cc in subst (λ (x : ℕ). x < 256) (sym same) s1.0

piece-small : (earlier : List Subrecord) (kind : ℕ) (body : List ℕ) (c : Contents) → IsLaidOut kind 3 body c → IsSmall (piece_of earlier kind c)
piece-small earlier kind body (ModEnd byte start) (is, s) = end-small (is_wide kind) body byte start s
piece-small earlier kind body (Names items) h = tt
piece-small earlier kind body _ h = tt

abbrev AllSmall : List Piece → Type 0
AllSmall [] = ⊤
AllSmall (p ∷ ps) = IsSmall p × AllSmall ps

pieces-small : (before : List Rec) (rs : List Raw) → All IsSpelled rs → AllSmall (with_before (λ before r. piece_of (subrecords before) r.kind r.contents ∷ []) before (recs rs))
pieces-small before [] h = tt
pieces-small before (r ∷ rs) h = (
  piece-small (subrecords before) r.kind r.body (typed r).contents (laid-out r.kind 3 r.body (typed r).contents (All-head IsSpelled r rs h)),
  pieces-small (before ++ typed r ∷ []) rs (All-tail IsSpelled r rs h),
)

more-small : (ps qs : List Piece) → AllSmall ps → AllSmall qs → AllSmall (ps ++ qs)
more-small [] qs h g = g
more-small (p ∷ ps) qs h g = (h.0, more-small ps qs h.1 g)

fixups-small : (kind : ℕ) (fs : List PlainFixup) → AllSmall (map (λ f. Fixed kind (f ∷ [])) fs)
fixups-small kind [] = tt
fixups-small kind (f ∷ fs) = (tt, fixups-small kind fs)

singles-small : (ps : List Piece) → AllSmall ps → AllSmall (flat_map one_by_one ps)
singles-small [] h = tt
singles-small (Kept r ∷ ps) h = (tt, singles-small ps h.1)
singles-small (End kind byte start ∷ ps) h = (h.0, singles-small ps h.1)
singles-small (Fixed kind fs ∷ ps) h = more-small (map (λ f. Fixed kind (f ∷ [])) fs) (flat_map one_by_one ps) (fixups-small kind fs) (singles-small ps h.1)

small-mains : (ps : List Piece) → AllSmall ps → map with_main ps ≡ map main_only (map normal ps)
small-mains [] h = refl
small-mains (p ∷ ps) h = ap₂ (λ (q : Piece) (qs : List Piece). q ∷ qs) (small-main p h.0) (small-mains ps h.1)

accepted-mains : (m : Module) → IsAcceptedModule m → main_pieces (recs_of m.bytes) ≡ map main_only (bare_pieces (recs_of m.bytes))
accepted-mains m a =
    small-mains (single_pieces (recs_of m.bytes))
    (singles-small (pieces (recs_of m.bytes)) (pieces-small [] (records_in m.bytes) (well-read m.profile profile_limits m.bytes (records_in m.bytes) a).spelled))

pub same-mains : (m n : Module) → IsAcceptedModule m → IsAcceptedModule n → bare_pieces (recs_of m.bytes) ≡ bare_pieces (recs_of n.bytes) → main_pieces (recs_of m.bytes) ≡ main_pieces (recs_of n.bytes)
same-mains m n a b h = accepted-mains m a ∙ ap (map main_only) h ∙ sym (accepted-mains n b)
