-- Laws of the definitions, each the contract of a function of the same name.
use Rattle.std.specs.Prelude.{◌≡◌, ℕ, List, All, false, true}
use Rattle.omf_frame.specs.Bytes.{AreBytes}
use Rattle.omf_frame.specs.Framing.{Raw}
use Rattle.omf_records.specs.Layout.{Meets}
use Rattle.omf_explicit.specs.Explicit.{is_read}
-- computed: readings_meet_layout of omf_virtual.
use Rattle.omf_virtual.specs.Inner.Readers.{comdef_whole}
use Rattle.omf_virtual.specs.Layouts.{comdef}
use Rattle.omf_virtual.specs.Virtual.{gets_comdats}

-- Reading the contents of a COMDEF with Borland's data types gives the one value that they encode, or else the least of their faults.
abbrev pub ReadingsMeetLayout : Type 0
ReadingsMeetLayout = (body : List ℕ) → AreBytes body → Meets comdef 3 body (comdef_whole.read 3 body)

-- Records that this profile reads get no COMDATs.
abbrev pub ReadGetNone : Type 0
ReadGetNone = (rs : List Raw) → All (λ r. is_read r ≡ true) rs → gets_comdats rs ≡ false
