-- Subrecords one after another, with the threads that they set.
use Rattle.std.proofs.Common.{◌≡◌, ℕ, List, ◌∷◌, ◌++◌, sym, ap, ◌∙◌, Bool, false}
use Rattle.std.specs.Prelude.{Option}
use Rattle.omf_frame.specs.declared.kinds.Width.{Width}
use Rattle.omf_records.specs.Values.{At, Subrecord}
use Rattle.omf_check.specs.Inner.Kept.{set_thread, set_threads}
use Rattle.omf_check.specs.declared.threads.Threads.{Threads}
use Rattle.omf_dump.specs.Inner.Resolving.{subrecord_fields_by, subrecord_items_by}
use Rattle.omf_dump.specs.Known.{Data, Tables}
use Rattle.omf_dump.specs.Render.{fields_text, item_end, item_start, items_text}
use Rattle.omf_dump.specs.declared.format.Format.{Format}
use Rattle.omf_dump.proofs.ItemLaws.{item_written}

pub subrecord_written : (t : Tables) (fixed : Option Data) (width : Width) (f : Format) (first : Bool) (threads threads' : Threads) (x : At Subrecord) (all rest : List (At Subrecord)) (old a b mid whole : List ℕ) → all ≡ x ∷ rest
    → threads' ≡ set_thread threads x.item → a ≡ old ++ item_start f first x.within → b ≡ a ++ fields_text f (subrecord_fields_by t fixed width threads x.item) → mid ≡ b ++ item_end f
    → old ++ items_text f first (subrecord_items_by t fixed width threads all) ≡ whole → mid ++ items_text f false (subrecord_items_by t fixed width threads' rest) ≡ whole
subrecord_written t fixed width f first threads threads' x all rest old a b mid whole steps set pa pb pm e =
    ap (λ (th : Threads). mid ++ items_text f false (subrecord_items_by t fixed width th rest)) set
    ∙ item_written f first x.within (subrecord_fields_by t fixed width threads x.item) (subrecord_items_by t fixed width (set_thread threads x.item) rest) old a b mid whole pa pb pm
    (ap (λ (xs : List (At Subrecord)). old ++ items_text f first (subrecord_items_by t fixed width threads xs)) (sym steps) ∙ e)

pub set_on : (threads threads' whole : Threads) (x : At Subrecord) (all rest : List (At Subrecord)) → all ≡ x ∷ rest → threads' ≡ set_thread threads x.item → set_threads threads all ≡ whole → set_threads threads' rest ≡ whole
set_on threads threads' whole x all rest steps set e = ap (λ (th : Threads). set_threads th rest) set ∙ ap (set_threads threads) (sym steps) ∙ e
