-- The field read at a position is the result of its reading there.
use Rattle.std.proofs.Common.{◌≡◌, ℕ, zero, suc, ◌+◌, ◌-◌, ◌<◌, List, [], ◌∷◌, length, refl, length-take, length-drop, take, drop, Ok, Err, sym, ap, ◌∙◌, arith}
use Rattle.std.specs.Prelude.{slice_range}
use Rattle.std.proofs.lemmas.List.{take-append-drop}
use Rattle.std.proofs.lemmas.List.Folds.{drop_split}
use Rattle.omf_frame.specs.Bytes.{AreBytes}
use Rattle.omf_frame.specs.Fields.{IsSpelledAt, IsUnspelled}
use Rattle.omf_frame.specs.declared.fault.Reason.TheVariants as reason
use Rattle.omf_records.specs.Inner.FieldReaders.{FieldOk, FieldAgain, FieldRefused, short}
use Rattle.omf_records.specs.Layout.{fault}
use Rattle.omf_records.specs.Inner.Reads.{after, Reading}
use Rattle.omf_records.specs.Inner.Readers.{ends_read}
use Rattle.omf_records.specs.Inner.Steps.{AreBytes-rest}
use Rattle.omf_records.proofs.FieldGives.{not_found}

module _ {A : Type 0} (P : A → List ℕ → Type 0) (read : Reading A) where
  pub read_at : FieldAgain short P read → (pos end : ℕ) (bytes : List ℕ) (x : A) → IsSpelledAt P bytes pos x end → Ok (after x (3 + end) (drop end bytes)) ≡ read (3 + pos) (drop pos bytes)
  read_at again pos end bytes x (from, to, spells) =
      let cut = slice_range bytes pos end in
      let long : 3 + pos + length cut ≡ 3 + end = omega (arith, length-take (end - pos) (drop pos bytes), length-drop pos bytes, from, to) in
      sym (ap (λ (t : List ℕ). read (3 + pos) t) (drop_split bytes pos end from) ∙ again (3 + pos) cut (drop end bytes) x spells ∙ ap (λ k. Ok (after x k (drop end bytes))) long)

  -- if no spelling starts there, reading gives Short
  pub unread : FieldOk short P read → FieldRefused short P read → (pos : ℕ) (bytes : List ℕ) → AreBytes bytes → IsUnspelled P (drop pos bytes) → read (3 + pos) (drop pos bytes) ≡ Err (fault (3 + pos) reason.Short)
  unread ok refused pos bytes fit none =
      not_found short P read ok refused (3 + pos) (drop pos bytes) (AreBytes-rest bytes (take pos bytes) (drop pos bytes) (sym (take-append-drop pos bytes)) fit) none

-- contents that do not end at a position are too long
pub ends_late : {A : Type 0} (x : A) (at pos : ℕ) (bytes : List ℕ) → pos < length bytes → ends_read x at (drop pos bytes) ≡ Err (fault at reason.Long)
ends_late x at pos [] low = absurd (omega (arith, low))
ends_late x at zero (b ∷ bytes) low = refl
ends_late x at (suc pos) (b ∷ bytes) low = ends_late x at pos bytes (omega (arith, low))
