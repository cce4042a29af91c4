-- Document 01, mended by document 02, #101: what a turn means under a thread code.
--
--   turn_of v                   on a right-hand thread above zero is Tighten, below zero is Loosen, zero is Hold
--   swapped turn                on a left-hand thread the two names change places; Hold stays
--   name_of turn                the name that a turn is printed as
--   by_thread code right left   0 is right, 1 is left, any other code is refused as 9
--   turn_under code v           what a turn means under a thread code
--   means_meaning               what the answer of `means` says
--   Means v code r              what `means` promises
use Rattle.std.specs.Prelude.{ℕ, zero, suc, ◌≡◌, ℤ, pos, negsuc, List, codes, Result, Ok, Err}
use Rattle.words.specs.Answer.{Answer, gives, refused, by, because}
use Rattle.words.specs.declared.Refusal.{Refusal}
use Rattle.turns.specs.declared.Turn.{Turn}
use Rattle.turns.specs.declared.Turn.TheVariants.{Tighten, Loosen, Hold}

abbrev pub turn_of : ℤ → Turn
turn_of (pos zero) = Hold
turn_of (pos (suc n)) = Tighten
turn_of (negsuc n) = Loosen

abbrev pub swapped : Turn → Turn
swapped Tighten = Loosen
swapped Loosen = Tighten
swapped Hold = Hold

abbrev pub name_of : Turn → List ℕ
name_of Tighten = codes "tighten"
name_of Loosen = codes "loosen"
name_of Hold = codes "hold"

unfoldable pub by_thread : ℕ → Turn → Turn → Answer Turn
by_thread zero right left = gives right
by_thread (suc zero) right left = gives left
by_thread (suc (suc n)) right left = refused (by 9)

abbrev pub turn_under : ℕ → ℤ → Answer Turn
turn_under code v = by_thread code (turn_of v) (swapped (turn_of v))

abbrev pub means_meaning : Result Turn Refusal → Answer Turn
means_meaning (Ok turn) = gives turn
means_meaning (Err why) = refused (because why)

pub record Means (v : ℤ) (code : ℕ) (r : Result Turn Refusal) : Type 0 where
  pub is : means_meaning r ≡ turn_under code v
