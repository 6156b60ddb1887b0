-- The values that the fields of a FIXUPP or a MODEND can have.
use Rattle.std.specs.Prelude.{◌≡◌, ℕ, ◌*◌, ◌^◌, ◌<◌, ◌≤◌, nat_lt, not, Bool, true, false, List, [], Option, Some, None, All, ⊤, ◌&&◌, if◌then◌else◌}
use Rattle.omf_frame.specs.Bytes.{is_one_of, has_bit}
use Rattle.omf_frame.specs.Framing.{is_end}
use Rattle.omf_frame.specs.Types.{fixupp}
use Rattle.omf_records.specs.Values.{At, Contents, Fixups, ModEnd, Reference, Subrecord, Thread, Fixup, width, thread_method, frame_bits, frame_by_thread, target_by_thread, target_bits}
use Rattle.omf_records.specs.Entries.{wrong_methods, wrong_location, wrong_thread}

-- The value is present exactly if b holds, and satisfies P.
abbrev pub IsThere : {A : Type 0} → (A → Type 0) → Bool → Option A → Type 0
IsThere P true (Some a) = P a
IsThere P true None = ⊥
IsThere P false (Some a) = ⊥
IsThere P false None = ⊤

-- An index has 15 bits.
abbrev pub IsIndexValue : At ℕ → Type 0
IsIndexValue a = a.item < 128 * 256

-- The fix data byte is not refused, and determines which other fields are present.
pub record IsReferenceValue (kind : ℕ) (r : Reference) : Type 0 where
  pub fix : r.fix.item < 256
  pub methods : wrong_methods r.fix.item ≡ []
  pub frame : IsThere IsIndexValue (not (frame_by_thread r.fix.item) && nat_lt (frame_bits r.fix.item) 3) r.frame
  pub target : IsThere IsIndexValue (not (target_by_thread r.fix.item) && nat_lt (target_bits r.fix.item) 3) r.target
  pub displacement : IsThere (λ d. d < 256 ^ width kind) (not (has_bit r.fix.item 2)) r.displacement

-- A THREAD: its first byte is not refused, and determines whether there is an index. The first two bytes of a FIXUP are at least 2^15.
pub record IsThreadValue (byte : ℕ) (datum : Option (At ℕ)) : Type 0 where
  pub low : byte < 128
  pub head : (if nat_lt byte 128 then wrong_thread byte else wrong_location byte) ≡ []
  pub index : IsThere IsIndexValue (nat_lt (thread_method byte) 3) datum

pub record IsFixupValue (kind locat : ℕ) (r : Reference) : Type 0 where
  pub high : 32768 ≤ locat
  pub low : locat < 65536
  pub head : (if nat_lt locat 128 then wrong_thread locat else wrong_location locat) ≡ []
  pub reference : IsReferenceValue kind r

abbrev pub IsSubrecordValue : ℕ → Subrecord → Type 0
IsSubrecordValue kind (Thread byte datum) = IsThreadValue byte datum
IsSubrecordValue kind (Fixup locat r) = IsFixupValue kind locat r

-- The types of a FIXUPP.
abbrev pub is_fixupp : ℕ → Bool
is_fixupp kind = is_one_of fixupp kind

pub record AreFixupValues (kind : ℕ) (subs : List (At Subrecord)) : Type 0 where
  pub taken : is_fixupp kind ≡ true
  pub each : All (λ s. IsSubrecordValue kind s.item) subs

pub record IsEndValue (kind byte : ℕ) (start : Option Reference) : Type 0 where
  pub taken : is_end kind ≡ true
  pub fits : byte < 256
  pub reference : IsThere (IsReferenceValue kind) (has_bit byte 6) start

-- Contents of a FIXUPP or of a MODEND, with values in range.
abbrev pub AreReferenceValues : ℕ → Contents → Type 0
AreReferenceValues kind (Fixups subs) = AreFixupValues kind subs
AreReferenceValues kind (ModEnd byte start) = IsEndValue kind byte start
AreReferenceValues kind _ = ⊥

-- The values are in range, if they are contents of a FIXUPP or a MODEND.
abbrev pub HaveReferenceValues : ℕ → Contents → Type 0
HaveReferenceValues kind (Fixups subs) = AreFixupValues kind subs
HaveReferenceValues kind (ModEnd byte start) = IsEndValue kind byte start
HaveReferenceValues kind _ = ⊤
