use Rattle.std.proofs.Common.{inl, inr}
use Rattle.omf_frame.specs.declared.kinds.RecordType.TheVariants.{Theadr, Lheadr, Coment, Lnames, Llnames, Segdef, Grpdef, Extdef, Lextdef, Pubdef, Lpubdef, Comdef, Lcomdef, Ledata, Lidata, Fixupp, Modend, Typdef, Linnum, Linsym, Alias, Vernum, Bakpat, Cextdef, Comdat, Nbkpat, Vendext, Library}
use Rattle.omf_records.specs.Inner.Seen.{contents_seen, map_ok}
use Rattle.omf_records.proofs.AtStart.{by_its_type}
use Rattle.omf_records.proofs.dispatch.contents_at.Goals as goal

pub returns-in-Theadr-clause-contents : goal.returns-in-Theadr-clause-contents
returns-in-Theadr-clause-contents c = by_its_type c.args.record_type Theadr (map_ok contents_seen c.header_at.result) c.args.here c.in-Theadr.is c.header_at.ensures.contents

pub returns-in-Lheadr-clause-contents : goal.returns-in-Lheadr-clause-contents
returns-in-Lheadr-clause-contents c = by_its_type c.args.record_type Lheadr (map_ok contents_seen c.header_at-in-Lheadr.result) c.args.here c.in-Lheadr.is c.header_at-in-Lheadr.ensures.contents

pub returns-in-Coment-clause-contents : goal.returns-in-Coment-clause-contents
returns-in-Coment-clause-contents c = by_its_type c.args.record_type Coment (map_ok contents_seen c.comment_at.result) c.args.here c.in-Coment.is c.comment_at.ensures.contents

pub returns-in-Lnames-clause-contents : goal.returns-in-Lnames-clause-contents
returns-in-Lnames-clause-contents c = by_its_type c.args.record_type Lnames (map_ok contents_seen c.names_at.result) c.args.here c.in-Lnames.is c.names_at.ensures.contents

pub returns-in-Llnames-clause-contents : goal.returns-in-Llnames-clause-contents
returns-in-Llnames-clause-contents c = by_its_type c.args.record_type Llnames (map_ok contents_seen c.local_names_at.result) c.args.here c.in-Llnames.is c.local_names_at.ensures.contents

pub returns-in-Segdef-clause-contents : goal.returns-in-Segdef-clause-contents
returns-in-Segdef-clause-contents c = by_its_type c.args.record_type Segdef (map_ok contents_seen c.segment_at.result) c.args.here c.in-Segdef.is c.segment_at.ensures.contents

pub returns-in-Grpdef-clause-contents : goal.returns-in-Grpdef-clause-contents
returns-in-Grpdef-clause-contents c = by_its_type c.args.record_type Grpdef (map_ok contents_seen c.group_at.result) c.args.here c.in-Grpdef.is c.group_at.ensures.contents

pub returns-in-Extdef-clause-contents : goal.returns-in-Extdef-clause-contents
returns-in-Extdef-clause-contents c = by_its_type c.args.record_type Extdef (map_ok contents_seen c.externs_at.result) c.args.here c.in-Extdef.is c.externs_at.ensures.contents

pub returns-in-Lextdef-clause-contents : goal.returns-in-Lextdef-clause-contents
returns-in-Lextdef-clause-contents c = by_its_type c.args.record_type Lextdef (map_ok contents_seen c.local_externs_at.result) c.args.here c.in-Lextdef.is c.local_externs_at.ensures.contents

pub returns-in-Pubdef-clause-contents : goal.returns-in-Pubdef-clause-contents
returns-in-Pubdef-clause-contents c = by_its_type c.args.record_type Pubdef (map_ok contents_seen c.publics_at.result) c.args.here c.in-Pubdef.is c.publics_at.ensures.contents

pub returns-in-Lpubdef-clause-contents : goal.returns-in-Lpubdef-clause-contents
returns-in-Lpubdef-clause-contents c = by_its_type c.args.record_type Lpubdef (map_ok contents_seen c.publics_at-in-Lpubdef.result) c.args.here c.in-Lpubdef.is c.publics_at-in-Lpubdef.ensures.contents

pub returns-in-Comdef-clause-contents : goal.returns-in-Comdef-clause-contents
returns-in-Comdef-clause-contents c = by_its_type c.args.record_type Comdef (map_ok contents_seen c.communals_at.result) c.args.here c.in-Comdef.is c.communals_at.ensures.contents

pub returns-in-Lcomdef-clause-contents : goal.returns-in-Lcomdef-clause-contents
returns-in-Lcomdef-clause-contents c = by_its_type c.args.record_type Lcomdef (map_ok contents_seen c.local_communals_at.result) c.args.here c.in-Lcomdef.is c.local_communals_at.ensures.contents

pub returns-in-Ledata-clause-contents : goal.returns-in-Ledata-clause-contents
returns-in-Ledata-clause-contents c = by_its_type c.args.record_type Ledata (map_ok contents_seen c.plain_at.result) c.args.here c.in-Ledata.is c.plain_at.ensures.contents

pub returns-in-Lidata-clause-contents : goal.returns-in-Lidata-clause-contents
returns-in-Lidata-clause-contents c = by_its_type c.args.record_type Lidata (map_ok contents_seen c.iterated_at.result) c.args.here c.in-Lidata.is c.iterated_at.ensures.contents

pub returns-in-Fixupp-clause-contents : goal.returns-in-Fixupp-clause-contents
returns-in-Fixupp-clause-contents c = by_its_type c.args.record_type Fixupp (map_ok contents_seen c.fixups_at.result) c.args.here c.in-Fixupp.is c.fixups_at.ensures.contents

pub returns-in-Modend-clause-contents : goal.returns-in-Modend-clause-contents
returns-in-Modend-clause-contents c = by_its_type c.args.record_type Modend (map_ok contents_seen c.mod_end_at.result) c.args.here c.in-Modend.is c.mod_end_at.ensures.contents

-- the types that are not read
pub returns-in-Typdef-clause-contents : goal.returns-in-Typdef-clause-contents
returns-in-Typdef-clause-contents c = elim c.in-Typdef.is [
  | inl q ↦ by_its_type c.args.record_type Typdef (map_ok contents_seen c.carried_at.result) c.args.here q c.carried_at.ensures.contents
  | inr r ↦ elim r [
    | inl q ↦ by_its_type c.args.record_type Linnum (map_ok contents_seen c.carried_at.result) c.args.here q c.carried_at.ensures.contents
    | inr r ↦ elim r [
      | inl q ↦ by_its_type c.args.record_type Linsym (map_ok contents_seen c.carried_at.result) c.args.here q c.carried_at.ensures.contents
      | inr r ↦ elim r [
        | inl q ↦ by_its_type c.args.record_type Alias (map_ok contents_seen c.carried_at.result) c.args.here q c.carried_at.ensures.contents
        | inr r ↦ elim r [
          | inl q ↦ by_its_type c.args.record_type Vernum (map_ok contents_seen c.carried_at.result) c.args.here q c.carried_at.ensures.contents
          | inr r ↦ elim r [
            | inl q ↦ by_its_type c.args.record_type Bakpat (map_ok contents_seen c.carried_at.result) c.args.here q c.carried_at.ensures.contents
            | inr r ↦ elim r [
              | inl q ↦ by_its_type c.args.record_type Cextdef (map_ok contents_seen c.carried_at.result) c.args.here q c.carried_at.ensures.contents
              | inr r ↦ elim r [
                | inl q ↦ by_its_type c.args.record_type Comdat (map_ok contents_seen c.carried_at.result) c.args.here q c.carried_at.ensures.contents
                | inr r ↦ elim r [
                  | inl q ↦ by_its_type c.args.record_type Nbkpat (map_ok contents_seen c.carried_at.result) c.args.here q c.carried_at.ensures.contents
                  | inr r ↦ elim r [
                    | inl q ↦ by_its_type c.args.record_type Vendext (map_ok contents_seen c.carried_at.result) c.args.here q c.carried_at.ensures.contents
                    | inr r ↦ by_its_type c.args.record_type Library (map_ok contents_seen c.carried_at.result) c.args.here r c.carried_at.ensures.contents
                  ]
                ]
              ]
            ]
          ]
        ]
      ]
    ]
  ]
]
