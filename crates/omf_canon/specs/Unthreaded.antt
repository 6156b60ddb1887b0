-- A resolved reference written without threads (TIS OMF 1.1, "FIXUPP"): its methods and its indices are in the record itself.
use Rattle.std.specs.Prelude.{ℕ, ◌+◌, ◌*◌, Bool, Option, Some, None, if◌then◌else◌, codes}
use Rattle.omf_records.specs.Methods.{kind_number, frame_number}
use Rattle.omf_records.specs.Values.{At, Reference, nowhere}
use Rattle.omf_check.specs.Threads.{PlainReference}
use Rattle.omf_records.specs.declared.method.FrameCode.{FrameCode}
use Rattle.omf_check.specs.declared.method.FrameMethod.{FrameMethod}
use Rattle.omf_check.specs.declared.method.FrameMethod.TheVariants.{Of, Location as F4, Target as F5}
use Rattle.omf_records.specs.declared.method.FrameCode.TheVariants as codes

-- The code of a frame's method, and the index that follows the fix data byte, if it has one.
abbrev pub code_of : FrameMethod → FrameCode
code_of (Of t) = codes.Of t.kind
code_of F4 = codes.Location
code_of F5 = codes.Target

abbrev pub frame_index : FrameMethod → Option (At ℕ)
frame_index (Of t) = Some (nowhere t.index)
frame_index _ = None

-- A short reference has no displacement. In the fix data byte bits 7 and 3 are clear (no thread), bits 6-4 are the frame's method, bits 1-0 the
-- target's, and bit 2 is set if no displacement follows.
abbrev pub unthreaded : Bool → PlainReference → Reference
unthreaded short r = record {
  fix = nowhere (16 * frame_number (code_of r.frame) + kind_number r.target.kind + (if short then 4 else 0));
  frame = frame_index r.frame;
  target = Some (nowhere r.target.index);
  displacement = if short then None else Some r.displacement;
}
