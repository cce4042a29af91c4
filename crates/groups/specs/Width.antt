-- Document 01, "When the number desk refuses": reading is its table, over any width. Below, l is the bytes from the start on.
--
--   Width A            what a width fixes for numbers of type A
--   runs_out w l       row 1: fewer bytes than the most, and each is 128 or more
--   is_too_large w l   row 2: all earlier bytes are 128 or more, and the byte at the greatest length is not allowed there
--   is_too_many w l    row 3: the last byte isn't the first, and is one too many
--   reading w l        the rows in their order, each with the place in l of the byte that decided it: 1 the end of l, 2 the byte at the greatest length,
--                      3 the last byte; else the value and the count of the bytes through the first below 128
--   read w s at        reading s from the place at on: its places are those of s; past the end refused by 4, decided by the start asked
--   Due b a            the answer that is given, a, is the one that is due, b
--   Reads w s at a     what a reader of the width promises: a is what the table says of s from the place at on
use Rattle.std.specs.Prelude.{ℕ, ◌+◌, ◌-◌, List, Bool, not, ◌≡◌, leb, ltb, eqb, length, get_or, take, drop}
use Rattle.words.specs.Answer.{pick, both, Answer, gives, refused, by_at, moved}
use Rattle.groups.specs.Group.{run}

pub record Width (A : Type 0) : Type 0 where
  -- the most bytes
  pub most : ℕ
  -- the last bytes allowed at that length
  pub allowed : ℕ → Bool
  -- whether a last byte is one too many, from the byte before it and itself
  pub extra : ℕ → ℕ → Bool
  -- the value of a group
  pub value : List ℕ → A

unfoldable pub runs_out : {A : Type 0} → Width A → List ℕ → Bool
runs_out w l = both (eqb (run l) (length l)) (ltb (run l) w.most)

unfoldable pub is_too_large : {A : Type 0} → Width A → List ℕ → Bool
is_too_large w l = both (leb w.most (run l + 1)) (not (w.allowed (get_or l (w.most - 1) 0)))

unfoldable pub is_too_many : {A : Type 0} → Width A → List ℕ → Bool
is_too_many w l = both (ltb 0 (run l)) (w.extra (get_or l (run l - 1) 0) (get_or l (run l) 0))

unfoldable pub reading : {A : Type 0} → Width A → List ℕ → Answer (A × ℕ)
reading w l =
    pick (runs_out w l) (refused (by_at 1 (length l)))
    (pick (is_too_large w l) (refused (by_at 2 (w.most - 1)))
    (pick (is_too_many w l) (refused (by_at 3 (run l)))
    (gives (w.value (take (run l + 1) l), run l + 1))))

unfoldable pub read : {A : Type 0} → Width A → List ℕ → ℕ → Answer (A × ℕ)
read w s at = pick (ltb (length s) at) (refused (by_at 4 at)) (moved at (reading w (drop at s)))

pub record Due {A : Type 0} (b a : Answer A) : Type 0 where
  pub is : a ≡ b

abbrev pub Reads : {A : Type 0} → Width A → List ℕ → ℕ → Answer (A × ℕ) → Type 0
Reads w s at a = Due (read w s at) a
