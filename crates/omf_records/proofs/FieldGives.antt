-- What a field that was found, or was not, means for its reading.
use Rattle.std.proofs.Common.{◌≡◌, ℕ, ◌+◌, ◌≤◌, List, length, take, drop, Result, Ok, Err, refl, sym, ap, ◌∙◌}
use Rattle.std.proofs.lemmas.List.{take-append-drop, length-take-le}
use Rattle.omf_frame.specs.Bytes.{AreBytes}
use Rattle.omf_frame.specs.Fault.{Fault}
use Rattle.omf_frame.specs.Fields.{IsUnspelled}
use Rattle.omf_frame.specs.declared.fault.Reason.{Reason}
use Rattle.omf_records.specs.declared.here.Here.{Here}
use Rattle.omf_records.specs.Layout.{fault}
use Rattle.omf_records.specs.Inner.Reads.{after, Reading}
use Rattle.omf_records.specs.Inner.FieldReaders.{FieldOk, FieldAgain, FieldRefused, field_refuses, short}
use Rattle.omf_records.specs.Inner.Gives.{Gives, GivesField}

module _ {A : Type 0} (why : List ℕ → Reason) (P : A → List ℕ → Type 0) (read : Reading A) where
  pub found : FieldAgain why P read → (at n : ℕ) (bytes : List ℕ) (x : A) → n ≤ length bytes → P x (take n bytes) → read at bytes ≡ Ok (after x (at + n) (drop n bytes))
  found again at n bytes x le sp =
      let a = again at (take n bytes) (drop n bytes) x sp in
      ap (λ (t : List ℕ). read at t) (sym (take-append-drop n bytes)) ∙ a ∙ ap (λ (k : ℕ). Ok (after x (at + k) (drop n bytes))) (length-take-le n bytes le)

  pub not_found : FieldOk why P read → FieldRefused why P read → (at : ℕ) (bytes : List ℕ) → AreBytes bytes → IsUnspelled P bytes → read at bytes ≡ Err (fault at (why bytes))
  not_found ok refused at bytes h un =
      let d = field_refuses why P read ok refused at bytes (fault at (why bytes)) h (refl, λ front back x parts sp. un x front back sp parts) in
      d.is ∙ ap (λ (e : Fault). Err e) (refused at bytes d.given d.is)

-- a field that is read whatever its bytes
pub field_gives : {A : Type 0} (P : A → List ℕ → Type 0) (read : Reading A) → FieldOk short P read → FieldAgain short P read → FieldRefused short P read
    → (w : _) (at : ℕ) (bytes : List ℕ) (r : Result (A × Here) Fault) → AreBytes bytes → GivesField P w at bytes r → Gives w r (read at bytes)
field_gives P read ok again refused w at bytes (Ok x) h (n, le, sp, place, rest, wide) = (rw (found short P read again at n bytes x.0 le sp, place, rest) refl, wide)
field_gives P read ok again refused w at bytes (Err e) h (is, un) = not_found short P read ok refused at bytes h un ∙ ap (λ (d : Fault). Err d) (sym is)
