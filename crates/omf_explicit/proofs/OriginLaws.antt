-- The records of an input, by their numbers.
use Rattle.std.proofs.Common.{◌≡◌, ℕ, ◌+◌, ◌-◌, ◌<◌, ◌≤◌, false, List, [], ◌∷◌, ◌++◌, refl, ap, subst, arith, length, length-append}
use Rattle.std.specs.Prelude.{flat_map}
use Rattle.omf_frame.specs.Framing.{Raw, is_end, raw_bytes}
use Rattle.omf_explicit.specs.Origins.{HasRecord, IsAfter}
use Rattle.omf_explicit.proofs.ModuleLaws.{begins_more, begins_none}

pub after_none : (input : List ℕ) → IsAfter input 0 input
after_none input = record { before = []; begins = begins_none input; counted = refl }

pub after_more : (input rest after : List ℕ) (count : ℕ) (r : Raw) → IsAfter input count rest → rest ≡ raw_bytes r ++ after → length r.body < 65535 → is_end r.kind ≡ false → IsAfter input (count + 1) after
after_more input rest after count r a parts short open_still = record {
  before = a.before ++ r ∷ [];
  begins = begins_more input rest after a.before r a.begins parts short open_still;
  counted = omega (arith, a.counted, length-append a.before (r ∷ []));
}

after_is_shorter : (input rest : List ℕ) (count : ℕ) → IsAfter input count rest → length rest ≤ length input
after_is_shorter input rest count a = omega (arith, ap length a.begins.spelled, length-append (flat_map raw_bytes a.before) rest)

pub has_record : (input rest after : List ℕ) (count number start : ℕ) (r : Raw) → IsAfter input count rest → count ≡ number → rest ≡ raw_bytes r ++ after → length r.body < 65535 → start ≡ length input - length rest
    → HasRecord input number start r
has_record input rest after count number start r a reached parts short begun =
    let within = after_is_shorter input rest count a in
    let size = ap length parts in
    record {
      rest = after;
      after = subst (IsAfter input number) parts (subst (λ n. IsAfter input n rest) reached a);
      short = short;
      started = omega (arith, begun, within, size);
    }
