use Rattle.std.proofs.Common.{◌∙◌, sym, ap, ℕ, List, length, drop, Result, Ok, Err}
use Rattle.omf_frame.specs.Fault.{Fault}
use Rattle.omf_frame.specs.Fields.{IsName}
use Rattle.omf_records.specs.Inner.FieldReaders.{name_read, name_ok, name_again, name_short}
use Rattle.omf_records.specs.Inner.Reads.{After, after, and_then}
use Rattle.omf_image.proofs.FieldSteps.{read_at, unread}
use Rattle.omf_lowering.proofs.spreading.size_at.Goals as goal

abbrev measured : Result (After (List ℕ)) Fault → Result (After ℕ) Fault
measured r = and_then r (λ a. Ok (after (length a.value) a.within a.rest))

pub returns-in-Some-clause-read : goal.returns-in-Some-clause-read
returns-in-Some-clause-read c =
    let bytes = c.args.bytes.now in
    ap (λ (name : List ℕ). Ok (after (length name) c.in-Some.end (drop c.in-Some.end bytes))) c.name.view_is
    ∙ ap measured (read_at IsName name_read name_again c.args.pos c.in-Some.end bytes c.in-Some.name c.in-Some.ensures.found)

pub returns-in-None-clause-read : goal.returns-in-None-clause-read
returns-in-None-clause-read c =
    ap (λ (e : Fault). Err e) c.fault_at.ensures
    ∙ sym (ap measured (unread IsName name_read name_ok name_short c.args.pos c.args.bytes.now (λ i. (c.type_inv.bytes i).fits) (λ v front back sp parts. c.in-None.ensures.none v front back sp parts)))
