-- FIXUPs that use no thread, as numbers without places.
use Rattle.std.specs.Prelude.{◌≡◌, ℕ, List, ◌∷◌, Option, option_map, unwrap_or, false}
use Rattle.omf_records.specs.declared.direct_fixup.DirectFixup.{DirectFixup}
use Rattle.omf_records.specs.Values.{At, Reference, Subrecord, Thread, Fixup, frame_by_thread, target_by_thread}

-- The index of a datum; 0 if there is none.
abbrev pub index_or_zero : Option (At ℕ) → ℕ
index_or_zero datum = unwrap_or (option_map (λ a. a.item) datum) 0

-- The reference uses no thread and has these numbers; 0 for an index or a displacement that it does not have.
pub record HasNumbers (d : DirectFixup) (r : Reference) : Type 0 where
  pub own_frame : frame_by_thread r.fix.item ≡ false
  pub own_target : target_by_thread r.fix.item ≡ false
  pub fix : r.fix.item ≡ d.fix
  pub frame : index_or_zero r.frame ≡ d.frame
  pub target : index_or_zero r.target ≡ d.target
  pub displacement : unwrap_or r.displacement 0 ≡ d.displacement

-- The subrecord is a FIXUP that uses no thread and has these numbers.
abbrev pub IsDirectFixup : DirectFixup → Subrecord → Type 0
IsDirectFixup d (Thread byte datum) = ⊥
IsDirectFixup d (Fixup locat r) = (locat ≡ d.location) × HasNumbers d r

-- The first of these subrecords is a FIXUP that uses no thread, at this offset and with these numbers; the others are left.
pub record GivesDirect (old : List (At Subrecord)) (within : ℕ) (d : DirectFixup) (new : List (At Subrecord)) : Type 0 where
  pub next : Subrecord
  pub gives : old ≡ record { within = within; item = next } ∷ new
  pub direct : IsDirectFixup d next
