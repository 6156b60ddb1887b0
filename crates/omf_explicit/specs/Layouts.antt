-- The layouts of a FIXUPP and a MODEND with frame numbers (TIS OMF 1.1, "FIXUPP", "MODEND"). `wide` is true in a record of odd type.
use Rattle.std.specs.Prelude.{ℕ, ◌==◌, not, nat_lt, Bool, List, ◌&&◌}
use Rattle.omf_frame.specs.Bytes.{has_bit}
use Rattle.omf_records.specs.Values.{At, frame_by_thread, frame_bits, target_by_thread, target_bits, thread_method}
use Rattle.omf_records.specs.Layout.{Layout, ◌>>=◌, give, ends, many, index, byte, le, number_of, head, called, choose, when}
use Rattle.omf_explicit.specs.declared.part.Datum.{Datum}
use Rattle.omf_explicit.specs.declared.part.Datum.TheVariants as datums
use Rattle.omf_explicit.specs.declared.part.Part.{Part}
use Rattle.omf_explicit.specs.declared.part.Part.TheVariants as parts
use Rattle.omf_explicit.specs.declared.part.Reference.{Reference}

-- The datum of a method: a frame number of two bytes for method 3, else an index.
abbrev pub datum : ℕ → Layout Datum
datum method = choose (method == 3) (called (le 2) datums.Number) (called index datums.Index)

-- A frame's datum follows for methods F0 to F3, a target's for all methods; neither if a thread gives it.
abbrev pub frame_follows : ℕ → Bool
frame_follows fix = not (frame_by_thread fix) && nat_lt (frame_bits fix) 4

abbrev pub target_follows : ℕ → Bool
target_follows fix = not (target_by_thread fix)

-- The reference of a FIXUP, and of a MODEND's start address.
abbrev pub reference : Bool → Layout Reference
reference wide = do
  fix ← byte
  frame ← when (frame_follows fix) (datum (frame_bits fix))
  target ← when (target_follows fix) (datum (target_bits fix))
  displacement ← when (not (has_bit fix 2)) (number_of wide)
  give (record { fix = fix; frame = frame; target = target; displacement = displacement })

-- A THREAD: its first byte, and a datum for methods 0 to 3. A FIXUP: two bytes, and a reference.
abbrev pub part : Bool → Layout Part
part wide = do
  h ← head
  choose (nat_lt h 128) (called (when (nat_lt (thread_method h) 4) (datum (thread_method h))) (parts.Thread h)) (called (reference wide) (parts.Fixup h))

-- FIXUPP: THREADs and FIXUPs to the end.
abbrev pub fixupp : Bool → Layout (List (At Part))
fixupp wide = many (part wide)

-- MODEND: the type byte, and the start address if its bit 6 is set.
abbrev pub start : Bool → Layout Part
start wide = do
  first ← byte
  address ← when (has_bit first 6) (reference wide)
  ends (parts.Start first address)
