use Rattle.omf_records.proofs.DirectLaws.{puts}
use Rattle.omf_records.proofs.direct.Unread+Subrecord.put_direct.Goals as goal

pub returns-in-Some-clause-put : goal.returns-in-Some-clause-put
returns-in-Some-clause-put c is =
    puts c.args.kind c.place-here.result c.in-Some.after c.args.self.now c.new.result c.args.out.now.items c.copy_next.new.out.items
    c.place-here.ensures.items c.place-here.ensures.size c.new.ensures.items c.new.ensures.size c.in-Some.ensures.copied
