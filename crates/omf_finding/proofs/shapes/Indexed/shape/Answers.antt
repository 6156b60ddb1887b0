use Rattle.std.proofs.Common.{◌≡◌, ℕ, List, [], length, refl, ap, ◌∙◌, true, false, arith}
use Rattle.omf_finding.proofs.FourLaws.{rare-four}
use Rattle.omf_finding.proofs.MeasureLaws.{measured}
use Rattle.omf_finding.proofs.ShapeLaws.{shape-few, shape-searched}
use Rattle.omf_finding.specs.declared.shapes.Shape.{Shape}
use Rattle.omf_finding.proofs.shapes.Indexed.shape.Goals as goal

pub returns-in_ok-few-in-None-clause-shape : goal.returns-in_ok-few-in-None-clause-shape
returns-in_ok-few-in-None-clause-shape c =
    let program = c.args.self.now.program.now in
    let s : Shape = record {
      segment = c.args.segment;
      closed = c.count_closed-closed.result;
      varied = 0;
      first = c.extent-first.result.0;
      end = c.extent-first.result.1;
      is_searched = false;
      places = c.new-in-None.result;
      more = true;
      few = c.in_ok-few-in-None.few;
    } in
    λ byte are.
    shape-few byte program.bytes.items program.base c.args.self.now.most c.args.intervals.now are (c.in-None.ensures.none refl) s refl c.new-in-None.ensures.items refl
    (measured byte c.args.intervals.now are s c.count_closed-closed.ensures (λ one. absurd (no-one c.new-in-None.result.items c.new-in-None.ensures.items one)) (c.extent-first.ensures byte are))
  where
    no-one : (xs : List ℕ) → xs ≡ [] → length xs ≡ 1 → ⊥
    no-one xs e one = let none = ap length e in omega (arith, none, one)

pub returns-in_ok-places-in-Some-clause-shape : goal.returns-in_ok-places-in-Some-clause-shape
returns-in_ok-places-in-Some-clause-shape c =
    let program = c.args.self.now.program.now in
    let found = c.in_ok-places-in-Some in
    let s : Shape = record {
      segment = c.args.segment;
      closed = c.count_closed-closed.result;
      varied = c.varied_at-varied.result;
      first = c.extent-first.result.0;
      end = c.extent-first.result.1;
      is_searched = true;
      places = found.places;
      more = found.more;
      few = c.new.result;
    } in
    λ byte are.
    shape-searched byte program.bytes.items program.base c.args.self.now.most s found.places.items found.more refl refl refl (found.ensures.places byte are) (found.ensures.cut byte are)
    (rare-four byte c.args.intervals.now are c.in-Some.rare (c.in-Some.ensures.some))
    (measured byte c.args.intervals.now are s c.count_closed-closed.ensures (λ one. c.varied_at-varied.ensures (ap length c.deref.ensures.value ∙ one)) (c.extent-first.ensures byte are))
