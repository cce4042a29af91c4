-- The loop of `list::take_in` holds that there is room for more, that the bytes at the front are those that the reader has lost, and that room falls.
use Rattle.std.specs.Io.KnownBytes.{Consumes}
use Rattle.std.proofs.Common.{◌-◌, ◌<◌, take}
use Rattle.listing.specs.Program.{input_room}
use Rattle.list.proofs.take_in.Given as goal

abbrev pub invariant-loop-count : goal.invariant-loop-count
invariant-loop-count g l = record {
  room : l.there.0 < input_room;
  lost : Consumes (g.R.Read.remaining l.initial.from) (g.R.Read.remaining l.from) (take l.there.0 l.input);
}

abbrev pub decreases-loop-count : goal.decreases-loop-count
decreases-loop-count g l = input_room - l.there.0
