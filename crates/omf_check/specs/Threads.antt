-- Threads and plain references (TIS OMF 1.1, "FIXUPP": THREAD and FIXUP subrecords, frame and target methods).
use Rattle.std.specs.Prelude.{ℕ, List, filter_map, Bool, true, false, not, ◌&&◌, ◌==◌, Option, Some, None, unwrap_or, option_map, if◌then◌else◌}
use Rattle.omf_frame.specs.Bytes.{last, bits}
use Rattle.omf_records.specs.Values.{At, Subrecord, Thread, Fixup, Reference, thread_is_frame, thread_method, frame_by_thread, frame_bits, target_by_thread, target_bits}
-- The tables that methods refer to, and frame methods without their index.
pub use Rattle.omf_records.specs.declared.method.Kind.{Kind}
use Rattle.omf_records.specs.declared.method.Kind.TheVariants as kinds
use Rattle.omf_records.specs.declared.method.FrameCode.{FrameCode}
use Rattle.omf_records.specs.declared.method.FrameCode.TheVariants as codes
use Rattle.omf_records.specs.Methods.{kind_of, frame_code}
-- A target: the entry of a table. A frame: that of a segment, a group or an external; of the segment of the last data record; or of the target.
pub use Rattle.omf_check.specs.declared.method.TargetMethod.{TargetMethod}
pub use Rattle.omf_check.specs.declared.method.FrameMethod.{FrameMethod}
pub use Rattle.omf_check.specs.declared.method.FrameMethod.TheVariants.{Of, Location as F4, Target as F5}

abbrev pub T0 : ℕ → TargetMethod
T0 i = record { kind = kinds.Segment; index = i }

abbrev pub T1 : ℕ → TargetMethod
T1 i = record { kind = kinds.Group; index = i }

abbrev pub T2 : ℕ → TargetMethod
T2 i = record { kind = kinds.External; index = i }

abbrev pub F0 : ℕ → FrameMethod
F0 i = Of (T0 i)

abbrev pub F1 : ℕ → FrameMethod
F1 i = Of (T1 i)

abbrev pub F2 : ℕ → FrameMethod
F2 i = Of (T2 i)

-- The setting of a THREAD or a reference: the code of a method and, if the method has one, an index.
pub record Setting : Type 0 where
  pub method : ℕ
  pub datum : Option ℕ

-- The index of a datum; 0 if there is none.
abbrev pub index_or_none : Option (At ℕ) → ℕ
index_or_none datum = unwrap_or (option_map (λ a. a.item) datum) 0

abbrev pub setting : ℕ → Option (At ℕ) → Setting
setting method datum = record { method = method; datum = option_map (λ a. a.item) datum }

-- The frame or target method of a setting. A record with any other code has a fault of layout.
abbrev pub frame_by : FrameCode → ℕ → FrameMethod
frame_by (codes.Of k) i = Of (record { kind = k; index = i })
frame_by codes.Location i = F4
frame_by codes.Target i = F5

-- whether two truth values are equal
abbrev pub same : Bool → Bool → Bool
same a b = if a then b else not b

-- The setting that a subrecord makes, if it is a THREAD of this kind and number.
abbrev pub setting_of : Bool → ℕ → Subrecord → Option Setting
setting_of is_frame k (Thread byte datum) =
    if (if is_frame then thread_is_frame byte else not (thread_is_frame byte)) && (bits byte 0 2 == k) then Some (setting (thread_method byte) datum) else None
setting_of is_frame k (Fixup locat r) = None

-- The setting of the thread of a kind and number: the last one made among all earlier subrecords of the module.
abbrev pub thread : Bool → ℕ → List Subrecord → Option Setting
thread is_frame k earlier = last (filter_map (setting_of is_frame k) earlier)

-- The frame and the target of a reference after these subrecords: by its own method, or by its thread.
abbrev pub frame_setting : List Subrecord → Reference → Option Setting
frame_setting earlier r = if frame_by_thread r.fix.item then thread true (bits r.fix.item 4 2) earlier else Some (setting (frame_bits r.fix.item) r.frame)

abbrev pub target_setting : List Subrecord → Reference → Option Setting
target_setting earlier r = if target_by_thread r.fix.item then thread false (target_bits r.fix.item) earlier else Some (setting (target_bits r.fix.item) r.target)

abbrev pub frame_of : List Subrecord → Reference → Option FrameMethod
frame_of earlier r = option_map (λ s. frame_by (frame_code s.method) (unwrap_or s.datum 0)) (frame_setting earlier r)

abbrev pub target_of : List Subrecord → Reference → Option TargetMethod
target_of earlier r = option_map (λ s. record { kind = kind_of s.method; index = unwrap_or s.datum 0 }) (target_setting earlier r)

-- A plain reference: methods without threads, and a displacement that is 0 if absent.
pub record PlainReference : Type 0 where
  pub frame : FrameMethod
  pub target : TargetMethod
  pub displacement : ℕ

-- The plain form of a reference after these subrecords. A thread that is not set counts as F5 or T0 0; a well-formed module uses none.
abbrev pub plain : List Subrecord → Reference → PlainReference
plain earlier r = record { frame = unwrap_or (frame_of earlier r) F5; target = unwrap_or (target_of earlier r) (record { kind = kinds.Segment; index = 0 }); displacement = unwrap_or r.displacement 0 }
