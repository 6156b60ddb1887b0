-- The field read at a position is the result of its reading there.
use Rattle.std.proofs.Common.{◌≡◌, ℕ, ◌+◌, ◌-◌, List, length, length-take, length-drop, take, drop, Ok, Err, sym, ap, ◌∙◌, arith}
use Rattle.std.specs.Prelude.{slice_range}
use Rattle.std.proofs.lemmas.List.{take-append-drop}
use Rattle.std.proofs.lemmas.List.Folds.{drop_split}
use Rattle.omf_frame.specs.Bytes.{AreBytes}
use Rattle.omf_frame.specs.Fields.{IsSpelledAt, IsUnspelled}
use Rattle.omf_frame.specs.declared.fault.Reason.{Reason}
use Rattle.omf_records.specs.Inner.FieldReaders.{FieldOk, FieldAgain, FieldRefused}
use Rattle.omf_records.specs.Layout.{fault}
use Rattle.omf_records.specs.Inner.Reads.{after, Reading}
use Rattle.omf_records.specs.Inner.Steps.{AreBytes-rest}
use Rattle.omf_records.proofs.FieldGives.{not_found}

module _ {A : Type 0} (why : List ℕ → Reason) (P : A → List ℕ → Type 0) (read : Reading A) where
  pub read_at : FieldAgain why P read → (pos end : ℕ) (bytes : List ℕ) (x : A) → IsSpelledAt P bytes pos x end → Ok (after x (3 + end) (drop end bytes)) ≡ read (3 + pos) (drop pos bytes)
  read_at again pos end bytes x (from, to, spells) =
      let cut = slice_range bytes pos end in
      let long : 3 + pos + length cut ≡ 3 + end = omega (arith, length-take (end - pos) (drop pos bytes), length-drop pos bytes, from, to) in
      sym (ap (λ (t : List ℕ). read (3 + pos) t) (drop_split bytes pos end from) ∙ again (3 + pos) cut (drop end bytes) x spells ∙ ap (λ k. Ok (after x k (drop end bytes))) long)

  -- if no spelling starts there, reading gives the reason of the bytes
  pub unread : FieldOk why P read → FieldRefused why P read → (pos : ℕ) (bytes : List ℕ) → AreBytes bytes → IsUnspelled P (drop pos bytes)
      → read (3 + pos) (drop pos bytes) ≡ Err (fault (3 + pos) (why (drop pos bytes)))
  unread ok refused pos bytes fit none =
      not_found why P read ok refused (3 + pos) (drop pos bytes) (AreBytes-rest bytes (take pos bytes) (drop pos bytes) (sym (take-append-drop pos bytes)) fit) none
