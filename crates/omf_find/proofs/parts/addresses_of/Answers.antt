use Rattle.std.proofs.Common.{◌≡◌, ◌+◌, ◌∙◌, ℕ, List, length, ap, subst, sym, arith}
use Rattle.omf_find.specs.Parts.{AreAddresses, IsAddress}
use Rattle.omf_find.proofs.PartLaws.{earlier_address, one_longer, one_more_address}
use Rattle.omf_find.proofs.RoomLaws.{left_more, left_same}
use Rattle.omf_find.proofs.parts.addresses_of.Goals as goal

pub loop-before-init : goal.loop-before-init
loop-before-init c =
    let m = c.args.seen.«module».now in
    let f = c.args.seen.found.now in
    let r = c.args.room.now in
    record {
      end = c.segments-before-end.ensures.count;
      count = ap (λ (xs : List ℕ). length xs) c.new-addresses.ensures.items;
      each = subst (λ (xs : List ℕ). AreAddresses m f r 1 xs) (sym c.new-addresses.ensures.items) tt;
      left = left_same r;
    }

pub loop-before-preserved : goal.loop-before-preserved
loop-before-preserved c =
    let m = c.args.seen.«module».now in
    let f = c.args.seen.found.now in
    let r = c.args.room.now in
    let now = c.loop-before.room in
    let xs = c.loop-before.addresses.items in
    let n = c.loop-before.before in
    let a = c.in-Some.address in
    let h = c.loop-before.invariant in
    let next : n + 1 ≡ 1 + length xs = omega (arith, h.count) in
    let one : IsAddress m f r (1 + length xs) a = earlier_address m f r now (1 + length xs) a h.left (subst (λ (k : ℕ). IsAddress m f now k a) next c.in-Some.ensures.address) in
    record {
      end = h.end;
      count = ap (λ (ys : List ℕ). length ys) c.in_ok-push-in-Some.ensures.items ∙ one_longer xs a n h.count;
      each = subst (λ (ys : List ℕ). AreAddresses m f r 1 ys) (sym c.in_ok-push-in-Some.ensures.items) (one_more_address m f r 1 xs a h.each one);
      left = left_more r now c.address_of.new.room h.left c.address_of.ensures.left;
    }

pub returns-clause-count : goal.returns-clause-count
returns-clause-count c = omega (arith, c.loop-before.invariant.count, c.loop-before.invariant.end, c.loop-before-test.false)
