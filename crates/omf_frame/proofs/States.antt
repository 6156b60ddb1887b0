-- The states of a framer.
use Rattle.std.proofs.Common.{◌≡◌, ℕ, ◌+◌, ◌-◌, ◌≤◌, Bool, false, cond, ◌||◌, ◌&&◌, min, is_some, is_none, Option, None, List, [], ◌∷◌, ◌++◌, length, take, sym, ap, ◌∙◌, arith}
use Rattle.std.specs.Prelude.{◌==◌}
use Rattle.std.proofs.lemmas.List.{length-append}
use Rattle.omf_frame.specs.declared.fault.FrameFault.{FrameFault}
use Rattle.omf_frame.specs.Framing.{present, is_whole, wanted, standing_fault, record_len}
use Rattle.omf_frame.specs.Framer.{Held, Takes, want_of, next_bytes}
use Rattle.omf_frame.proofs.Growing.{length_present}

pub longer : (a b : List ℕ) → record_len a ≤ record_len (a ++ b)
longer [] [] = omega arith
longer [] (k ∷ []) = omega arith
longer [] (k ∷ l ∷ []) = omega arith
longer [] (k ∷ l ∷ m ∷ b) = omega arith
longer (k ∷ []) [] = omega arith
longer (k ∷ []) (l ∷ []) = omega arith
longer (k ∷ []) (l ∷ m ∷ b) = omega arith
longer (k ∷ l ∷ []) [] = omega arith
longer (k ∷ l ∷ []) (m ∷ b) = omega arith
longer (k ∷ l ∷ m ∷ a) b = omega arith

wanted_fits : (a : List ℕ) → wanted a ≤ record_len a - length a
wanted_fits [] = omega arith
wanted_fits (k ∷ []) = omega arith
wanted_fits (k ∷ l ∷ []) = omega arith
wanted_fits (k ∷ l ∷ m ∷ a) = omega arith

-- what is wanted and there is taken
all_taken : (a b : List ℕ) (taken : ℕ) → taken + length a ≡ length (present (a ++ b)) → min (wanted a) (length b) ≤ taken
all_taken a b taken h = omega (arith, h, length_present (a ++ b), length-append a b, longer a b, wanted_fits a)

-- a feed of a framer that has no fault and has not ended
pub takes : (bytes : List ℕ) (number start : ℕ) (ended : Bool) (fault : Option FrameFault) (piece : List ℕ) (taken : ℕ) (whole : Bool) (new : List ℕ)
    → fault ≡ None → ended ≡ false → new ≡ present (bytes ++ piece) → new ≡ bytes ++ take taken piece → taken + length bytes ≡ length (present (bytes ++ piece)) → taken ≤ length piece
    → standing_fault (number == 0) new ≡ None → whole ≡ is_whole new
    → Takes (record { bytes = bytes; number = number; start = start; ended = ended; fault = fault }) piece taken whole (record { bytes = new; number = number; start = start; ended = ended; fault = fault })
takes bytes number start ended fault piece taken whole new f e new_is grown count bound sound w =
    let old : Held = record { bytes = bytes; number = number; start = start; ended = ended; fault = fault } in
    let next : next_bytes old piece ≡ present (bytes ++ piece) = ap (λ b. cond b [] (present (bytes ++ piece))) e in
    let same : next_bytes old piece ≡ new = next ∙ sym new_is in
    let want : want_of old ≡ wanted bytes = ap (λ b. cond (b || is_some fault) 0 (wanted bytes)) e ∙ ap (λ o. cond (is_some o) 0 (wanted bytes)) f in
    record {
      no_fault = f;
      new_is = ap (λ (t : List ℕ). record old { bytes = t }) (sym same);
      grown = same ∙ grown;
      taken_is = count ∙ ap length (sym next);
      bound = bound;
      all_wanted = rw want (all_taken bytes piece taken count);
      whole_is = w ∙ ap (λ o. is_none o && is_whole new) (sym f);
      sound = ap (standing_fault (number == 0)) same ∙ sound;
    }
