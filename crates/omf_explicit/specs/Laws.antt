-- Laws of the definitions, each the contract of a function of the same name.
use Rattle.std.specs.Prelude.{◌≡◌, ℕ, List, [], All, Bool, true}
use Rattle.omf_frame.specs.Bytes.{AreBytes}
use Rattle.omf_frame.specs.Framing.{Raw}
use Rattle.omf_records.specs.Layout.{Meets}
use Rattle.omf_explicit.specs.Explicit.{is_read, numbers}
-- computed: readings_meet_layouts of omf_explicit.
use Rattle.omf_explicit.specs.Inner.Readers.{fixupp_whole, start_whole}
use Rattle.omf_explicit.specs.Layouts.{fixupp, start}

-- Reading the contents of a FIXUPP or a MODEND with frame numbers gives the one value that they encode, or else the least of their faults.
pub record ReadingsMeetLayouts : Type 0 where
  pub fixupp : (wide : Bool) (body : List ℕ) → AreBytes body → Meets (fixupp wide) 3 body ((fixupp_whole wide).read 3 body)
  pub start : (wide : Bool) (body : List ℕ) → AreBytes body → Meets (start wide) 3 body ((start_whole wide).read 3 body)

-- Records that this profile reads name no frame by its number.
abbrev pub ReadNameNone : Type 0
ReadNameNone = (rs : List Raw) → All (λ r. is_read r ≡ true) rs → numbers rs ≡ []
