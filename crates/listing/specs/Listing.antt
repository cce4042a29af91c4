-- The rules on the listing of a block (docs/RULES.md, "The listing"), as bytes.
--
--   row p what v    the line `p what v`
--   fault k         the word for the fault of a group, 2 or 3
--   group_row p g   that of the group g at the place p: its number, or else its fault and its length; `row_of`: from its reading
--   rows p gs t     those of the groups gs and of the tail t, one after another, from the place p on
--   text s          the whole listing of an input s: the header and the rows; above the limit the one line `refused 7`
--   text_room       a buffer of so many bytes holds every listing
use Rattle.std.specs.Prelude.{ℕ, ◌+◌, ◌*◌, List, [], ◌∷◌, ◌++◌, ltb, eqb, length}
use Rattle.words.specs.Answer.{pick, Answer, gives, refused, Why, number_in}
use Rattle.texts.specs.Texts.{ascii, decimal}
use Rattle.groups.specs.Width.{reading}
use Rattle.uleb128.specs.Unsigned.{u64}
use Rattle.blocks.specs.Block.{block_limit}
use Rattle.blocks.specs.GroupsAndTail.{cut}

unfoldable pub row : ℕ → List ℕ → ℕ → List ℕ
row p what v = decimal p ++ ascii " " ++ what ++ ascii " " ++ decimal v ++ ascii "\n"

-- a group's fault is 2 or 3
abbrev pub fault : Why → List ℕ
fault why = pick (eqb (number_in why) 3) (ascii "not-shortest") (ascii "overflow")

abbrev pub row_of : ℕ → Answer (ℕ × ℕ) → ℕ → List ℕ
row_of p (gives v) n = row p (ascii "number") v.0
row_of p (refused k) n = row p (fault k) n

abbrev pub group_row : ℕ → List ℕ → List ℕ
group_row p g = row_of p (reading u64 g) (length g)

unfoldable pub rows : ℕ → List (List ℕ) → List ℕ → List ℕ
rows p [] [] = []
rows p [] (b ∷ t) = row p (ascii "tail") (length (b ∷ t))
rows p (g ∷ gs) t = group_row p g ++ rows (p + length g) gs t

unfoldable pub text : List ℕ → List ℕ
text s =
    pick (ltb block_limit (length s)) (ascii "refused 7\n")
    (ascii "place what value\n" ++ rows 0 (cut s).groups (cut s).tail)

-- the header has 17 bytes, and each byte of a block makes at most 28 of its rows
abbrev pub text_room : ℕ
text_room = 17 + 28 * block_limit
