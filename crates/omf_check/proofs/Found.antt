-- Steps of the loops that check and keep.
use Rattle.std.proofs.Common.{◌≡◌, ℕ, ◌+◌, List, [], ◌∷◌, ◌++◌, sym, ◌∙◌, ap, append_assoc}
use Rattle.std.specs.Prelude.{Option}
use Rattle.omf_frame.specs.Fault.{Fault}
use Rattle.omf_records.specs.Values.{At, Subrecord}
use Rattle.omf_check.specs.Inner.Kept.{Kept, set_thread, set_threads, starts}
use Rattle.omf_check.specs.Inner.Judging.{lesser, subrecord_fault, subrecords_fault}
use Rattle.omf_check.specs.declared.threads.Threads.{Threads}
use Rattle.omf_check.proofs.Lesser.{lesser_more}

-- one more subrecord is checked
pub subrecords_more : (kept : Kept) (found one now all : Option Fault) (cells next : Threads) (s : At Subrecord) (old rest : List (At Subrecord)) → now ≡ lesser found one
    → one ≡ subrecord_fault kept cells s.within s.item → next ≡ set_thread cells s.item → old ≡ s ∷ rest
    → lesser found (subrecords_fault kept cells old) ≡ all → lesser now (subrecords_fault kept next rest) ≡ all
subrecords_more kept found one now all cells next s old rest n o t e h =
    ap (λ x. lesser x (subrecords_fault kept next rest)) (n ∙ ap (lesser found) o)
    ∙ ap (λ c. lesser (lesser found (subrecord_fault kept cells s.within s.item)) (subrecords_fault kept c rest)) t
    ∙ lesser_more found _ _ (subrecords_fault kept (set_thread cells s.item) rest) all (ap (subrecords_fault kept cells) e) h

-- one more subrecord sets its thread
pub threads_more : (cells next all : Threads) (s : At Subrecord) (old rest : List (At Subrecord)) → next ≡ set_thread cells s.item → old ≡ s ∷ rest
    → set_threads cells old ≡ all → set_threads next rest ≡ all
threads_more cells next all s old rest t e h = ap (λ c. set_threads c rest) t ∙ ap (set_threads cells) (sym e) ∙ h

-- one more place is kept
pub starts_more : {A : Type 0} (at p : ℕ) (a : At A) (old now all : List ℕ) (items rest : List (At A)) → now ≡ old ++ p ∷ [] → p ≡ at + a.within → items ≡ a ∷ rest
    → old ++ starts at items ≡ all → now ++ starts at rest ≡ all
starts_more at p a old now all items rest n f e h =
    ap (λ x. x ++ starts at rest) (n ∙ ap (λ k. old ++ k ∷ []) f) ∙ append_assoc old ((at + a.within) ∷ []) (starts at rest) ∙ ap (λ x. old ++ starts at x) (sym e) ∙ h
