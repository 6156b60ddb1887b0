use Rattle.std.proofs.Common.{Some, None, sym, subst, ◌∙◌, Bool, ◌≡◌, ℕ}
use Rattle.std.specs.Prelude.{IfOk}
use Rattle.omf_records.specs.Inner.Seen.{contents_seen, kind_seen, map_ok, type_byte}
use Rattle.omf_records.proofs.AtStart.{at_start}
use Rattle.omf_records.proofs.TypeBytes.{byte_of}
use Rattle.omf_records.proofs.dispatch.contents_of.Goals as goal

pub contents_at-requires : goal.contents_at-requires
contents_at-requires c =
    subst (λ (w : Bool). c.args.kind ≡ type_byte c.in-Some.record_type w) (sym c.start-here.ensures.width) (byte_of c.args.kind c.in-Some.record_type (sym c.of.ensures ∙ c.in-Some.is))

pub returns-in-Some-clause-kind : goal.returns-in-Some-clause-kind
returns-in-Some-clause-kind c =
    let t = c.in-Some.record_type in
    let is : c.args.kind ≡ type_byte t c.start-here.result.wide = subst (λ (w : Bool). c.args.kind ≡ type_byte t w) (sym c.start-here.ensures.width) (byte_of c.args.kind t (sym c.of.ensures ∙ c.in-Some.is)) in
    subst (λ (n : ℕ). IfOk c.contents_at.result (λ r. kind_seen r ≡ n)) (sym is) c.contents_at.ensures.kind

pub returns-in-Some-clause-contents : goal.returns-in-Some-clause-contents
returns-in-Some-clause-contents c =
    at_start (Some c.in-Some.record_type) (map_ok contents_seen c.contents_at.result) c.args.kind c.start-here.result c.args.body.now
    c.start-here.ensures.place c.start-here.ensures.width c.start-here.ensures.bytes (sym c.of.ensures ∙ c.in-Some.is) c.contents_at.ensures.contents

pub returns-in-None-clause-contents : goal.returns-in-None-clause-contents
returns-in-None-clause-contents c =
    at_start None (map_ok contents_seen c.carried_at.result) c.args.kind c.start-here.result c.args.body.now
    c.start-here.ensures.place c.start-here.ensures.width c.start-here.ensures.bytes (sym c.of.ensures ∙ c.in-None.is) c.carried_at.ensures.contents
