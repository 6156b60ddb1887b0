-- Modules as one, from the steps that make them so.
use Rattle.std.proofs.Common.{◌≡◌, ℕ, List, sym, subst, inr}
use Rattle.std.specs.Prelude.{Option, Ok, Err, zip}
use Rattle.std.specs.List.{AllZip}
use Rattle.omf_image.specs.Overlay.{Laid}
use Rattle.omf_placement.specs.Placement.{Places}
use Rattle.omf_records.specs.Values.{Rec}
use Rattle.omf_linking.specs.LinkedMemory.{IsLinkedMemory}
use Rattle.omf_linking.specs.Relocated.{IsRelocated}
use Rattle.omf_linking.specs.Space.Segments.{AreLaid}
use Rattle.omf_linking.specs.Together.{AreOne, IsTogether, segments_of, start_of}
use Rattle.omf_linking.specs.declared.fault.LinkFault.{LinkFault}
use Rattle.omf_linking.specs.declared.relocated.Relocated.{Relocated}

module _ (ms : List (List Rec)) (pls at : List Places) (rs s t : List Relocated) (s-is : s ≡ rs) (t-is : t ≡ rs) (each : AllZip IsRelocated (zip ms pls) rs) (memory : List Laid) where
  abbrev Laying : Type 0
  Laying = AllZip IsRelocated (zip ms pls) s → IsLinkedMemory (segments_of ms pls at) (Ok memory)

  laid : Laying → AreLaid (segments_of ms pls at) memory
  laid h = h (subst (λ (xs : List Relocated). AllZip IsRelocated (zip ms pls) xs) (sym s-is) each)

  pub one : (start : Option (ℕ × ℕ)) → Laying → Ok start ≡ start_of ms t → AreOne ms pls at (record { memory = memory; start = start })
  one start h e = record {
    at = record { relocated = rs; each = each };
    laid = laid h;
    starts = sym (subst (λ (xs : List Relocated). Ok start ≡ start_of ms xs) t-is e);
  }

  pub two_starts : (f : LinkFault) → Laying → Err f ≡ start_of ms t → IsTogether ms pls at (Err f)
  two_starts f h e = inr (inr (record { relocated = rs; each = each }, (memory, laid h), sym (subst (λ (xs : List Relocated). Err f ≡ start_of ms xs) t-is e)))
