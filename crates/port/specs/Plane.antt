-- What a plane means. Assumes nothing.
use Rattle.std.specs.Prelude.{false}
use Rattle.port.specs.declared.plane.Plane.{Plane}
use Rattle.port.specs.Meaning.{Meaning}
use Rattle.port.specs.Partitions.{list_of, room_of}

-- eight partitions, whose lists are their used words
abbrev pub plane_means : Plane → Meaning
plane_means p = record {
  partitions = 8;
  words = list_of p.cells.now p.used;
  opened = p.opened;
  room = room_of p.cells.now p.used p.opened;
  spent = false;
}
