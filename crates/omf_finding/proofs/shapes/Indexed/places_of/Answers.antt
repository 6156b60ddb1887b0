use Rattle.std.proofs.Common.{rules, arith, ◌≡◌, ◌≤◌, ◌+◌, ◌++◌, ◌∷◌, [], length, sym, ap, subst}
use Rattle.omf_finding.specs.Inner.Shaping.{is_at, is_kept}
use Rattle.omf_finding.proofs.PlaceLaws.{cut-common, cut-full, places-all, places-some}
use Rattle.omf_finding.proofs.WindowLaws.{AreSoFar, places-more, places-same, tries-rise, trying}
use Rattle.omf_finding.proofs.shapes.Indexed.places_of.Goals.{in-Other, in-Place+else-len-self+in_ok-push_place-in-Place}
use Rattle.omf_finding.proofs.shapes.Indexed.places_of.Goals as goal

pub returns-in-End-clause-places : goal.returns-in-End-clause-places
returns-in-End-clause-places c =
    let self = c.args.self.now in
    let first = c.first-first.result in
    λ byte are. places-all byte c.args.intervals.now are self.program.now.bytes.items self.program.now.base (is_kept self.windows.marks.items) self.windows.sorted.items c.requires.windows c.args.rare c.requires.kept c.requires.rare first
    (record { before = c.first-first.ensures.before; after = c.first-first.ensures.after }) (first + c.loop-k.k) (sym c.in-End.ensures) c.loop-k.places.items c.loop-k.invariant

pub returns-then-len-self-clause-places : goal.returns-then-len-self-clause-places
returns-then-len-self-clause-places c =
    let self = c.args.self.now in
    let first = c.first-first.result in
    λ byte are. places-some byte c.args.intervals.now are self.program.now.bytes.items self.program.now.base (is_kept self.windows.marks.items) self.windows.sorted.items c.requires.windows c.args.rare c.requires.kept c.requires.rare first
    (record { before = c.first-first.ensures.before; after = c.first-first.ensures.after }) (first + c.loop-k.k) c.loop-k.places.items c.loop-k.invariant

pub returns-then-len-self-clause-cut : goal.returns-then-len-self-clause-cut
returns-then-len-self-clause-cut c =
    let self = c.args.self.now in
    let first = c.first-first.result in
    let full : self.most ≤ length c.loop-k.places.items = omega (arith, c.if-len-self.true, c.len.ensures) in
    λ byte are more. cut-full byte c.args.intervals.now are self.program.now.bytes.items self.program.now.base (is_kept self.windows.marks.items) self.windows.sorted.items c.requires.windows c.args.rare c.requires.kept c.requires.rare first
    (record { before = c.first-first.ensures.before; after = c.first-first.ensures.after }) (first + c.loop-k.k) self.most c.in-Place.address c.loop-k.places.items (sym c.in-Place.ensures) full c.loop-k.invariant

pub loop-k-preserved : goal.loop-k-preserved
loop-k-preserved c =
    let self = c.args.self.now in
    let program = self.program.now in
    let first = c.first-first.result in
    let k = c.loop-k.k in
    let test = is_at program.bytes.items program.base c.args.intervals.now in
    let try = trying test program.base c.args.rare.offset self.windows.sorted.items c.args.rare.key in
    let old = c.loop-k.places.items in
    let new = c.match-tried.places.items in
    let next : first + k + 1 ≡ first + (k + 1) = omega arith in
    let one : AreSoFar try first (first + k + 1) new = elim c.match-tried.branch [
      | in-Other w ↦ let same : new ≡ old = ap (λ ps. ps.items) w.places-is in subst (λ ps. AreSoFar try first (first + k + 1) ps) (sym same) (places-same try first (first + k) old c.loop-k.invariant (sym w.in-Other.ensures))
      | in-Place+else-len-self+in_ok-push_place-in-Place w ↦
          let pushed : new ≡ old ++ w.in-Place.address ∷ [] = search rules in
          places-more try first (first + k) old c.loop-k.invariant (tries-rise test program.base c.args.rare.offset self.windows.sorted.items c.args.rare.key c.requires.windows.increases) new w.in-Place.address (sym w.in-Place.ensures) pushed
    ] in
    subst (λ n. AreSoFar try first n new) next one

pub returns-clause-places : goal.returns-clause-places
returns-clause-places c =
    let self = c.args.self.now in
    let first = c.first-first.result in
    λ byte are. places-some byte c.args.intervals.now are self.program.now.bytes.items self.program.now.base (is_kept self.windows.marks.items) self.windows.sorted.items c.requires.windows c.args.rare c.requires.kept c.requires.rare first
    (record { before = c.first-first.ensures.before; after = c.first-first.ensures.after }) (first + c.loop-k.k) c.loop-k.places.items c.loop-k.invariant

pub returns-clause-cut : goal.returns-clause-cut
returns-clause-cut c =
    let self = c.args.self.now in
    let first = c.first-first.result in
    let all : first + c.loop-k.k ≡ first + 64 = omega (arith, c.loop-k-test.false, c.loop-k.auto.k-end) in
    λ byte are more. cut-common byte c.args.intervals.now are self.program.now.bytes.items self.program.now.base (is_kept self.windows.marks.items) self.windows.sorted.items c.requires.windows c.args.rare c.requires.kept c.requires.rare first
    (record { before = c.first-first.ensures.before; after = c.first-first.ensures.after }) (first + c.loop-k.k) self.most all c.loop-k.places.items c.loop-k.invariant
