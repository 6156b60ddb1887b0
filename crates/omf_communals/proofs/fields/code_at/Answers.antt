use Rattle.std.proofs.Common.{◌≡◌, ◌+◌, ◌∙◌, Bool, Err, Result, drop, false, sym, ap, ℕ}
use Rattle.omf_frame.specs.Bytes.{is_one_of}
use Rattle.omf_frame.specs.Fault.{Fault}
use Rattle.omf_frame.specs.declared.fault.Reason.TheVariants as reason
use Rattle.omf_records.specs.Entries.{unless}
use Rattle.omf_records.specs.Inner.Reads.{After, after, and_then}
use Rattle.omf_records.specs.Inner.Readers.{refuse_first}
use Rattle.omf_communals.proofs.fields.code_at.Goals as goal

pub returns-else-is_one_of-clause-read : goal.returns-else-is_one_of-clause-read
returns-else-is_one_of-clause-read c =
    let allowed = c.args.allowed.now in
    let at = 3 + c.args.pos in
    let refused = λ (b : Bool) (a : After ℕ). refuse_first (unless b reason.CommunalType) at a in
    let no : is_one_of allowed c.in_ok-code.code ≡ false = sym c.is_one_of.ensures ∙ c.if-is_one_of.false in
    ap (λ (e : Fault). Err e) c.fault_at.ensures
    ∙ ap (λ (b : Bool). refused b (after c.in_ok-code.code (3 + c.in_ok-code.end) (drop c.in_ok-code.end c.args.body.now))) (sym no)
    ∙ ap (λ (r : Result (After ℕ) Fault). and_then r (λ a. refused (is_one_of allowed a.value) a)) c.in_ok-code.ensures.read
