-- The starts of a main module: its MODEND alone names one.
use Rattle.std.proofs.Common.{◌≡◌, ℕ, List, [], ◌∷◌, ◌++◌, true, false, refl, sym, ap, ◌∙◌, subst}
use Rattle.std.specs.Prelude.{All, None}
use Rattle.std.proofs.lemmas.Bool.{true≢false}
use Rattle.std.proofs.lemmas.List.Elements.{All-head, All-tail}
use Rattle.omf_frame.specs.Bytes.{last}
use Rattle.omf_image.specs.Limits.{profile_limits}
use Rattle.omf_records.specs.Values.{Contents, Fixups, ModEnd, Names, Rec, Subrecord}
use Rattle.omf_check.specs.Sound.{is_module_end, ModuleHolds}
use Rattle.omf_check.specs.Tables.{subrecords}
use Rattle.omf_placement.specs.Placement.{Places}
use Rattle.omf_reloc.specs.Plain.{piece_of, pieces}
use Rattle.omf_reloc.proofs.GatherLaws.{pieces_from}
use Rattle.omf_reloc.proofs.WalkLaws.{last-end}
use Rattle.omf_output.specs.Exe.Linked.{is_main, is_main_end}
use Rattle.omf_output.specs.Exe.Memory.{AllStart, ModuleMoves, MovingModule, PieceMoves, PieceStarts, PiecesMove}
use Rattle.omf_output.specs.Exe.Moved.{Movers}

abbrev IsNoEnd : Rec → Type 0
IsNoEnd r = is_module_end r.contents ≡ false

module _ (mv : Movers) (pl : Places) where
  no-start : (earlier : List Subrecord) (kind : ℕ) (c : Contents) → is_module_end c ≡ false → PieceStarts mv (piece_of earlier kind c)
  no-start earlier kind (ModEnd byte start) e = absurd (true≢false e)
  no-start earlier kind (Fixups subs) e = tt
  no-start earlier kind (Names items) e = tt
  no-start earlier kind _ e = tt

  its-start : (earlier : List Subrecord) (kind : ℕ) (c : Contents) → is_main_end c ≡ true → PieceMoves mv pl (piece_of earlier kind c) [] → PieceStarts mv (piece_of earlier kind c)
  its-start earlier kind (ModEnd byte start) e m = m e
  its-start earlier kind (Fixups subs) e m = tt
  its-start earlier kind (Names items) e m = tt
  its-start earlier kind _ e m = tt

  starts-of : (before front : List Rec) (end : Rec) → All IsNoEnd front → is_main_end end.contents ≡ true → PiecesMove mv pl (pieces_from before (front ++ end ∷ []))
      → AllStart mv (pieces_from before (front ++ end ∷ []))
  starts-of before [] end h main m = (its-start (subrecords before) end.kind end.contents main m.0, tt)
  starts-of before (r ∷ rs) end h main m =
      (no-start (subrecords before) r.kind r.contents (All-head IsNoEnd r rs h), starts-of (before ++ r ∷ []) rs end (All-tail IsNoEnd r rs h) main m.1)

-- So where it moves, they do.
pub main-starts : (m : MovingModule) → ModuleHolds profile_limits m.records → is_main (last m.records) ≡ true → ModuleMoves m → AllStart m.movers (pieces m.records)
main-starts m holds main h =
    let (front, end, e, is, others) = holds.ends in
    let its : is_main_end end.contents ≡ true = sym (ap is_main (ap last e ∙ last-end None front end)) ∙ main in
    subst (λ rs. AllStart m.movers (pieces rs)) (sym e) (starts-of m.movers m.places [] front end others its (subst (λ rs. PiecesMove m.movers m.places (pieces rs)) e h.pieces))
