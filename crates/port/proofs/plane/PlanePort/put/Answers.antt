use Rattle.std.proofs.Common.{◌≡◌, ◌<◌, get_or, Some, arith, rules}
use Rattle.port.specs.Partitions.{size_of}
use Rattle.port.proofs.Stores.{apart, stored}
use Rattle.port.proofs.plane.PlanePort.put.Goals as goal

pub returns-clause-apart : goal.returns-clause-apart
returns-clause-apart c =
    let p = c.args.self.now in
    let s = c.in_ok-s.field-0 in
    let is : p.opened ≡ Some s = search rules in
    let h : s < 8 = omega arith in
    let l : get_or p.used s 0 < size_of p.cells.now = omega (arith, c.size-size.ensures) in
    rw c.size-size.ensures (apart p.cells.now s (get_or p.used s 0) c.args.word h l p.opened is)

pub returns-clause-meaning : goal.returns-clause-meaning
returns-clause-meaning c =
    let p = c.args.self.now in
    let s = c.in_ok-s.field-0 in
    let is : p.opened ≡ Some s = search rules in
    let h : s < 8 = omega arith in
    let l : get_or p.used s 0 < size_of p.cells.now = omega (arith, c.size-size.ensures) in
    rw c.size-size.ensures (stored p.cells.now p.used s c.args.word h (search rules) l p.opened is)

pub returns-clause-after : goal.returns-clause-after
returns-clause-after = returns-clause-meaning
