-- Document 01, "Blocks, groups and tails": list writing.
--
--   list_limit   the most numbers of a list
--   forms ns     the forms of the numbers, one after another
use Rattle.std.specs.Prelude.{ℕ, List, [], ◌∷◌, ◌++◌}
use Rattle.uleb128.specs.Unsigned.{form}

abbrev pub list_limit : ℕ
list_limit = 16384

unfoldable pub forms : List ℕ → List ℕ
forms [] = []
forms (v ∷ ns) = form v ++ forms ns
