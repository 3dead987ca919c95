use Rattle.std.proofs.Common.{◌≡◌, slice_index, ◌%◌, Ok, sym, ◌∙◌, rules}
use Rattle.library.specs.Check.{check_cell}
use Rattle.library.specs.Fault.{Cell}
use Rattle.library.proofs.Groups.{sound}
use Rattle.library.proofs.check.CheckLibrary.ask.Goals as goal

pub returns-clause-sound : goal.returns-clause-sound
returns-clause-sound g c = λ w given.
    let answer : ◌≡◌ {A = Cell} (Ok (slice_index c.in_ok-words.words (c.args.place % 8))) (check_cell g.L.Library.layer g.L.Library.cell c.args.self.now c.args.place) = search rules in
    sound _ c.args.place w (g.L.Library.cell c.args.self.now.below) (sym answer ∙ given)
