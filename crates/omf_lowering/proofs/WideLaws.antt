-- A record is at the front of its bytes.
use Rattle.std.proofs.Common.{◌≡◌, ℕ, ◌+◌, ◌-◌, ◌<◌, List, [], ◌∷◌, ◌++◌, ap, ◌∙◌, refl, length, take, arith, append_assoc}
use Rattle.std.specs.Prelude.{slice_index}
use Rattle.std.proofs.lemmas.List.{take_at}
use Rattle.std.proofs.Math.Seq.{get_or-append_seam}
use Rattle.omf_frame.specs.Framing.{Raw, raw_bytes, after_front, front_record}
use Rattle.omf_frame.proofs.FramingLaws.{stated, after_raw}
use Rattle.omf_lowering.specs.Lowering.{IsWideRecord}

-- A record at the front of bytes.
module _ (r : Raw) (wide : IsWideRecord r) (rest : List ℕ) where
  pub small : length r.body + 1 < 65536
  small = let short = wide.short in omega arith

  pub after_is : after_front (raw_bytes r ++ rest) ≡ rest
  after_is = after_raw r small rest

  record_of : ℕ → List ℕ → Raw
  record_of n bytes = record { kind = r.kind; body = take (n - 1) bytes; checksum = slice_index bytes (n - 1) }

  pub front_is : front_record (raw_bytes r ++ rest) ≡ r
  unfolding record_of
  front_is =
      let one_less : length r.body + 1 - 1 ≡ length r.body = omega arith in
      let bytes : List ℕ = r.body ++ (r.checksum ∷ rest) in
      ap (λ n. record_of n ((r.body ++ r.checksum ∷ []) ++ rest)) (stated r small)
      ∙ ap (record_of (length r.body + 1)) (append_assoc r.body (r.checksum ∷ []) rest)
      ∙ ap (λ n. record { kind = r.kind; body = take n bytes; checksum = slice_index bytes n }) one_less
      ∙ ap (λ b. record { kind = r.kind; body = b; checksum = slice_index bytes (length r.body) }) (take_at r.body (r.checksum ∷ rest) (length r.body) refl)
      ∙ ap (λ s. record { kind = r.kind; body = r.body; checksum = s }) (get_or-append_seam r.body r.checksum rest 0)
