-- The layouts of the items that records repeat, and of references (TIS OMF 1.1, the page of each record).
-- `wide` is true in 32-bit records. A refused value has the list of its reasons.
use Rattle.std.specs.Prelude.{ℕ, ◌==◌, ◌||◌, not, nat_lt, Bool, if◌then◌else◌, List, [], ◌∷◌, ◌++◌, is_some, ◌&&◌}
use Rattle.omf_frame.specs.Bytes.{is_one_of, has_bit}
use Rattle.omf_frame.specs.declared.fault.Reason.{Reason}
use Rattle.omf_frame.specs.declared.fault.Reason.TheVariants as reason
use Rattle.omf_records.specs.Values.{At, ExternalItem, PublicItem, CommunalSize, Near, Far, CommunalItem, Reference, Subrecord, Thread, Fixup, thread_is_frame, thread_method, is_segment_relative, location_type, frame_by_thread, frame_bits, target_by_thread, target_bits}
use Rattle.omf_records.specs.Location.{location_of, row_of}
use Rattle.omf_records.specs.Layout.{Layout, ◌>>=◌, give, name, index, byte, number_of, communal_length, head, checked, with_place, called, choose, when}

-- the reason, unless the test holds
abbrev pub unless : Bool → Reason → List Reason
unless test r = if test then [] else r ∷ []

-- GRPDEF: the component byte FFH, and a segment index (other components are refused: this profile's rule).
abbrev pub member : Layout (At ℕ)
member = do
  component ← checked byte (λ c. unless (c == 0xFF) reason.GroupComponent)
  with_place index

-- EXTDEF: a name and a type index.
abbrev pub external : Layout ExternalItem
external = do
  text ← name
  type_index ← index
  give (record { name = text; type_index = type_index })

-- PUBDEF: a name, an offset and a type index.
abbrev pub public_item : Bool → Layout PublicItem
public_item wide = do
  text ← name
  offset ← number_of wide
  type_index ← index
  give (record { name = text; offset = offset; type_index = type_index })

-- COMDEF: a name, a type index, and the data type 62H (near) and a length, or 61H (far), the number of elements and their size. Other data types
-- (01H to 5FH, the segment indices of one vendor) are refused: this profile's rule.
abbrev pub far_size : Layout CommunalSize
far_size = do
  count ← communal_length
  size ← communal_length
  give (Far count size)

abbrev pub communal_size : Layout CommunalSize
communal_size = do
  data_type ← checked byte (λ t. unless (is_one_of (0x61 ∷ 0x62 ∷ []) t) reason.CommunalType)
  choose (data_type == 0x62) (called communal_length Near) far_size

abbrev pub communal : Layout CommunalItem
communal = do
  text ← name
  type_index ← index
  size ← communal_size
  give (record { name = text; type_index = type_index; size = size })

-- The reference of a FIXUP and of MODEND's start address: the fix data byte; a frame datum if the frame method is F0, F1 or F2; a
-- target datum if no thread gives the target; a displacement if bit P is 0. Unless a thread is used, frame methods F3, F6, F7 and
-- target method 3 are refused (this profile's rule).
abbrev pub is_frame_method : ℕ → Bool
is_frame_method m = nat_lt m 3 || (m == 4) || (m == 5)

abbrev pub wrong_methods : ℕ → List Reason
wrong_methods fix = unless (frame_by_thread fix || is_frame_method (frame_bits fix)) reason.FrameMethod
    ++ unless (target_by_thread fix || nat_lt (target_bits fix) 3) reason.TargetMethod

abbrev pub reference : Bool → Layout Reference
reference wide = do
  fix ← with_place (checked byte wrong_methods)
  frame ← when (not (frame_by_thread fix.item) && nat_lt (frame_bits fix.item) 3) (with_place index)
  target ← when (not (target_by_thread fix.item) && nat_lt (target_bits fix.item) 3) (with_place index)
  displacement ← when (not (has_bit fix.item 2)) (number_of wide)
  give (record { fix = fix; frame = frame; target = target; displacement = displacement })

-- A THREAD: one byte with bit 7 clear, and an index for F0, F1, F2, T0, T1, T2. Its bit 5 counts for nothing, nor does bit 4 of a target's (this
-- profile's rule).
abbrev pub wrong_thread : ℕ → List Reason
wrong_thread b = if thread_is_frame b then unless (is_frame_method (thread_method b)) reason.FrameMethod
    else unless (nat_lt (thread_method b) 3) reason.TargetMethod

-- A FIXUP: two bytes, high byte first, with bit 15 set, and a reference. The location type must be defined, and one that may be
-- self-relative if bit M is 0. (`head` is one byte, or two if bit 7 of the first is set.)
abbrev pub wrong_location : ℕ → List Reason
wrong_location locat = if is_some (location_of (location_type locat))
    then unless (is_segment_relative locat || (row_of (location_type locat)).may_be_self_relative) reason.SelfRelative
    else (reason.LocationType ∷ [])

-- FIXUPP: a THREAD or a FIXUP. A THREAD's index is there for methods 0, 1 and 2.
abbrev pub subrecord : Bool → Layout Subrecord
subrecord wide = do
  h ← checked head (λ h. if nat_lt h 128 then wrong_thread h else wrong_location h)
  choose (nat_lt h 128) (called (when (nat_lt (thread_method h) 3) (with_place index)) (Thread h)) (called (reference wide) (Fixup h))
