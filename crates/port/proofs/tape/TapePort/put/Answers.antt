use Rattle.std.proofs.Common.{◌≡◌, Some, rules}
use Rattle.std.proofs.lemmas.List.{take_more_set}
use Rattle.port.specs.declared.tape_record.Content.TheVariants.{Word}
use Rattle.port.specs.Tape.{used_records}
use Rattle.port.proofs.Marked.{entry_of}
use Rattle.port.proofs.Tapes.{word_between}
use Rattle.port.proofs.tape.TapePort.put.Goals as goal

pub returns-clause-between_marks : goal.returns-clause-between_marks
returns-clause-between_marks c = λ before.
    let t = c.args.self.now in
    let s = c.in_ok-s.s in
    let is : t.opened ≡ Some s = search rules in
    rw (c.write.ensures.records, c.write.ensures.used, c.write.ensures.opened, take_more_set t.records.now t.used (entry_of s (Word c.args.word)) (search rules))
    (word_between s c.args.word (used_records t) t.opened before is)
