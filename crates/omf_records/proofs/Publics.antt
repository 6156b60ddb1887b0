-- What is read of a PUBDEF, from what is read of its parts.
use Rattle.std.proofs.Common.{◌≡◌, ℕ, Bool, List, Option, Result, Ok, refl, subst}
use Rattle.std.specs.Prelude.{◌==◌}
use Rattle.omf_frame.specs.Fault.{Fault}
use Rattle.omf_records.specs.Values.{At, PublicItem, Contents, Publics}
use Rattle.omf_records.specs.Inner.Reads.{after, and_then, each}
use Rattle.omf_records.specs.Inner.Readers.{index_at}
use Rattle.omf_records.specs.Inner.EntryReaders.{public_reader}
use Rattle.omf_records.specs.Inner.RecordReaders.{base_reader, publics_whole}

abbrev pub with_base : At ℕ → At ℕ → Option ℕ → Result (List (At PublicItem)) Fault → Result Contents Fault
with_base g s f r = and_then r (λ ps. Ok (Publics (record { group = g; segment = s; frame = f; items = ps })))

pub publics_read : (wide odd : Bool) (at a1 a2 a3 : ℕ) (bytes b1 b2 b3 : List ℕ) (g s : At ℕ) (f : Option ℕ) (r : Result (List (At PublicItem)) Fault)
    → index_at.read at bytes ≡ Ok (after g a1 b1)
    → index_at.read a1 b1 ≡ Ok (after s a2 b2)
    → (base_reader (s.item == 0)).read a2 b2 ≡ Ok (after f a3 b3)
    → odd ≡ wide
    → r ≡ each (public_reader odd).read a3 b3
    → with_base g s f r ≡ (publics_whole wide).read at bytes
publics_read wide odd at a1 a2 a3 bytes b1 b2 b3 g s f r e1 e2 e3 same e4 =
    let e5 : r ≡ each (public_reader wide).read a3 b3 = subst (λ (w : Bool). r ≡ each (public_reader w).read a3 b3) same e4 in
    rw (e1, e2, e3, e5) refl
