use Rattle.std.proofs.Common.{◌≡◌, length, take, drop}
use Rattle.library.specs.Library.{SameMeaning}
use Rattle.manager.specs.Play.{Plays}
use Rattle.manager.proofs.Plays.{AllFit}
use Rattle.manager.proofs.manager.Manager.play.Given as goal

-- the calls so far have their replies, and the other places are as they were
abbrev pub invariant-loop-i : goal.invariant-loop-i
invariant-loop-i g l =
    (length l.replies ≡ length l.initial.replies) ×
    (drop l.i l.replies ≡ drop l.i l.initial.replies) ×
    AllFit (take l.i l.calls) ×
    SameMeaning g.L.Library.layer g.L.Library.cell l.initial.self.library l.self.library ×
    Plays (g.L.Library.cell l.initial.self.library) (take l.i l.calls) (take l.i l.replies) l.initial.self.cabinet (g.P.Port.means l.initial.self.port) l.self.cabinet (g.P.Port.means l.self.port)
