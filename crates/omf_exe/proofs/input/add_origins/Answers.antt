use Rattle.std.proofs.Common.{◌≡◌, ◌++◌, ◌∙◌, ap, arith, sym, append-nil}
use Rattle.omf_exe.specs.Origins.{origins_in}
use Rattle.omf_exe.proofs.OriginLaws.{origin-pushed}
use Rattle.omf_exe.proofs.input.add_origins.Goals as goal

pub loop-before-init : goal.loop-before-init
loop-before-init c = record { so_far = sym (append-nil c.args.origins.now.items); low = omega arith }

pub loop-before-preserved : goal.loop-before-preserved
loop-before-preserved c = record {
  so_far = origin-pushed c.args.file c.loop-before.before c.args.origins.now.items c.loop-before.origins.items _ c.in_ok-push.ensures.items c.loop-before.invariant.so_far;
  low = let l = c.loop-before-test.true in omega (arith, l);
}

pub returns : goal.returns
returns c =
    let n = c.loop-before-test.false in
    let l = c.loop-before.invariant.low in
    let e : c.loop-before.before ≡ c.args.count = omega (arith, n, l) in
    c.loop-before.invariant.so_far ∙ ap (λ k. c.args.origins.now.items ++ origins_in c.args.file k) e
