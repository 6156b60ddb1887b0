-- Placements that fit their modules: of a layout, of the places of several modules, and of what is derived from these.
use Rattle.std.specs.Prelude.{◌≡◌, ⊤, ℕ, List, [], zip, Some, Ok}
use Rattle.std.specs.List.{AllZip}
use Rattle.omf_records.specs.Values.{Rec}
use Rattle.omf_check.specs.Tables.{segments, entry}
use Rattle.omf_check.specs.declared.segment.SegInfo.{SegInfo}
use Rattle.omf_placement.specs.Placement.{Places, absolute_place}
use Rattle.omf_placement.specs.Derivation.{IsPlaceOf}
-- computed: derived_is_taken of omf_placement.
use Rattle.omf_placement.specs.Inner.Derived.{derived}
use Rattle.omf_placement.specs.declared.several.given.Given.{Given}
use Rattle.omf_reloc.specs.Laws.{Fits}
use Rattle.omf_reloc.specs.Reach.{reach_fault}
use Rattle.omf_reloc.specs.declared.fault.ReachFault.{ReachFault}
use Rattle.omf_reloc.specs.declared.fault.ReachFault.TheVariants as fault
use Rattle.omf_layout.specs.Layout.{Laid, LaidOut, layout_of}
use Rattle.omf_layout.specs.declared.options.Options.{Options}
use Rattle.omf_layout.specs.Several.Placing.{arranged_places}

-- A fault of `reach` that names no entry of the placement: a fixup or the start is out of range.
abbrev pub IsFar : ReachFault → Type 0
IsFar (fault.TooFar number within cause) = ⊤
IsFar _ = ⊥

-- A placement fits its module, so `reach` can report only a fixup or the start.
pub record FitsModule (m : List Rec) (pl : Places) : Type 0 where
  pub fits : Fits pl m
  pub names_no_entry : (f : ReachFault) → reach_fault pl m ≡ Some f → IsFar f

-- The layout of a module fits it: one entry for each segment, group and external, and each absolute segment where its SEGDEF puts it.
abbrev pub LayoutsFit : Type 0
LayoutsFit = (o : Options) (m : List Rec) (l : LaidOut) → layout_of o m ≡ Some l → FitsModule m l.places

-- The places of a module that has no places for its externals yet: one entry for each segment and each group, and each absolute segment where its SEGDEF puts it.
pub record FitsSoFar (m : List Rec) (pl : Places) : Type 0 where
  pub entries : IsPlaceOf m pl
  pub no_externals : pl.externals ≡ []
  pub absolute : (i number offset : ℕ) (s : SegInfo) → entry (segments m) i ≡ Some s → s.absolute ≡ Some (number, offset) → entry pl.segments i ≡ Some (absolute_place number offset)

-- Each module has such places, and the placements derived from them fit, whatever external places are given.
pub record FitModules (ms : List (List Rec)) (pls : List Places) : Type 0 where
  pub so_far : AllZip FitsSoFar ms pls
  pub derivations : (given : List Given) (all : List Places) → derived (zip ms pls) given ≡ Ok all → AllZip FitsModule ms all

-- The places of several modules fit them.
abbrev pub PlacesFit : Type 0
PlacesFit = (o : Options) (ms : List (List Rec)) (l : Laid (List Places)) → arranged_places o ms ≡ Some l → FitModules ms l.what
