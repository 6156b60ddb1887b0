use Rattle.std.proofs.Common.{arith, ap, drop, sym, ◌∙◌, ◌≡◌, ◌+◌, ℕ, true, false}
use Rattle.omf_image.specs.Inner.Joined.{runs_of}
use Rattle.omf_image.specs.Overlay.{spanned}
use Rattle.omf_image.proofs.ShownLaws.{number_low, number_fits, some_bytes, run_next, none_left}
use Rattle.omf_finding.specs.Inner.Agreeing.{lies_in}
use Rattle.omf_finding.proofs.FoundLaws.{run-agrees, run-lies, left-next, left-none}
use Rattle.omf_finding.proofs.found.segment_agrees.Goals as goal

pub loop-first-init : goal.loop-first-init
loop-first-init c = record { within = omega arith; left = λ h. h }

pub overflow_add-k : goal.overflow_add-k
overflow_add-k c =
    let low = number_fits c.args.image.now c.args.segment c.loop-first.k c.in-Some.first c.in-Some.bytes.now c.in-Some.ensures in
    omega (arith, low)

pub loop-first-smaller : goal.loop-first-smaller
loop-first-smaller c =
    let low = number_low c.args.image.now c.args.segment c.loop-first.k c.in-Some.first c.in-Some.bytes.now c.in-Some.ensures in
    omega (arith, low)

pub returns-then-not-lies_in-clause-wrong : goal.returns-then-not-lies_in-clause-wrong
returns-then-not-lies_in-clause-wrong c =
    let image = c.args.image.now in
    let some = some_bytes image c.args.segment c.loop-first.k c.in-Some.first c.in-Some.bytes.now c.in-Some.ensures in
    let place : c.from.result + c.from-in-Some.result ≡ c.args.address + c.in-Some.first = omega (arith, c.from.ensures, c.from-in-Some.ensures) in
    let not : false ≡ lies_in c.args.program.now c.args.base (c.args.address + c.in-Some.first) c.in-Some.bytes.now =
    sym c.if-not-lies_in.true ∙ c.lies_in.ensures ∙ ap (λ (a : ℕ). lies_in c.args.program.now c.args.base a c.in-Some.bytes.now) place in
    λ _ agrees.
    let is = run-lies c.args.program.now c.args.base image c.args.segment c.args.address c.in-Some.first c.in-Some.bytes.now some c.in-Some.ensures.1 agrees in
    let wrong : false ≡ true = not ∙ is in
    cc

pub loop-first-preserved : goal.loop-first-preserved
loop-first-preserved c =
    let image = c.args.image.now in
    let runs = runs_of image c.args.segment in
    let k = c.loop-first.k in
    let low = number_low image c.args.segment k c.in-Some.first c.in-Some.bytes.now c.in-Some.ensures in
    let next = run_next image c.args.segment k c.in-Some.first c.in-Some.bytes.now c.in-Some.ensures in
    let place : c.from.result + c.from-in-Some.result ≡ c.args.address + c.in-Some.first = omega (arith, c.from.ensures, c.from-in-Some.ensures) in
    let lies : lies_in c.args.program.now c.args.base (c.args.address + c.in-Some.first) c.in-Some.bytes.now ≡ true =
    sym (ap (λ (a : ℕ). lies_in c.args.program.now c.args.base a c.in-Some.bytes.now) place) ∙ sym c.lies_in.ensures ∙ c.if-not-lies_in.false in
    record {
      within = omega (arith, low);
      left = left-next c.args.program.now c.args.base image c.args.segment c.args.address (drop k runs) (drop (k + 1) runs) (spanned c.in-Some.first c.in-Some.bytes.now) next
          (run-agrees c.args.program.now c.args.base image c.args.segment c.args.address c.in-Some.first c.in-Some.bytes.now c.in-Some.ensures.1 lies) c.loop-first.invariant.left;
    }

pub returns-clause-found : goal.returns-clause-found
returns-clause-found c =
    let image = c.args.image.now in
    λ _. left-none c.args.program.now c.args.base image c.args.segment c.args.address (drop c.loop-first.k (runs_of image c.args.segment))
    (none_left image c.args.segment c.loop-first.k c.in_default.ensures) c.loop-first.invariant.left
