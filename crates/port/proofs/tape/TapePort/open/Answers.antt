use Rattle.std.proofs.Common.{Some, rules}
use Rattle.std.proofs.lemmas.List.{take_more_set}
use Rattle.port.specs.declared.tape_record.Content.TheVariants.{Mark}
use Rattle.port.specs.Tape.{used_records}
use Rattle.port.proofs.Marked.{entry_of}
use Rattle.port.proofs.Tapes.{mark_between}
use Rattle.port.proofs.tape.TapePort.open.Goals as goal

pub returns-clause-between_marks : goal.returns-clause-between_marks
returns-clause-between_marks c = λ before.
    let t = c.args.self.now in
    rw (c.write.ensures.records, c.write.ensures.used, take_more_set t.records.now t.used (entry_of c.args.s Mark) (search rules))
    (mark_between c.args.s (used_records t) t.opened (Some c.args.s) before (λ x is. cc))
