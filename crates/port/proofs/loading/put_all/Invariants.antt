use Rattle.std.proofs.Common.{◌≡◌, ◌≤◌, take}
use Rattle.port.specs.Load.{after_puts, space_of}
use Rattle.port.proofs.loading.put_all.Given as goal

-- the words so far were taken, for which there was room
abbrev pub invariant-loop-i : goal.invariant-loop-i
invariant-loop-i g l = record {
  room : l.i ≤ space_of (g.P.Port.means l.initial.port);
  after : g.P.Port.means l.port ≡ after_puts (take l.i l.words) (g.P.Port.means l.port).spent (g.P.Port.means l.initial.port);
  none : l.i ≡ 0 → g.P.Port.means l.port ≡ g.P.Port.means l.initial.port;
}
