-- `lists::write_list` meets its promise: where there is no room, a law of `LayLoop`.
use Rattle.std.proofs.Common.{refl, rules}
use Rattle.words.proofs.Lays.{room_refused}
use Rattle.lists.proofs.LayLoop.{list_laid}
use Rattle.lists.proofs.writing.write_list.Goals as goal

pub returns-then-not-list_fits : goal.returns-then-not-list_fits
returns-then-not-list_fits c = list_laid _ _ _ (search rules) (room_refused _ _ _ c.list_fits.ensures refl c.if-not-list_fits.true)
