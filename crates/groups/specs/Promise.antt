-- What the functions of this crate promise.
--
--   walked s at           how the bytes of s from the place at on go: past the end; all high and fewer than ten; ten high ones; or
--                         high ones closed by one below 128, with what the high ones sum to and what the closing one weighs
--   walking l             the same of all the bytes l
--   Walks s at r          walking them answers r
--   SpelledLength n r     so many bytes spell the number n
--   Stores n s at r out   the bytes that spell the number n are laid down at this place of s, or none
use Rattle.std.specs.Prelude.{ℕ, ◌^◌, List, ◌≡◌, leb, ltb, eqb, length, get_or, take, drop}
use Rattle.words.specs.Answer.{pick, Written}
use Rattle.words.specs.Lays.{Lays, Takes}
use Rattle.words.specs.declared.Count.{Count}
use Rattle.groups.specs.Group.{run, digits}
use Rattle.groups.specs.Form.{spelling}
use Rattle.groups.specs.declared.Value.{Value}
use Rattle.groups.specs.declared.Walked.{Walked}
use Rattle.groups.specs.declared.Walked.TheVariants.{Past, Open, Long, Closed}

unfoldable pub walking : List ℕ → Walked
walking l =
    pick (leb 10 (run l)) Long
    (pick (eqb (run l) (length l)) (Open (record { 0 = run l }))
    (Closed (digits (take (run l) l)) (128 ^ run l) (record { 0 = run l }) (get_or l (run l) 0)))

unfoldable pub walked : List ℕ → ℕ → Walked
walked s at = pick (ltb (length s) at) Past (walking (drop at s))

pub record Walks (s : List ℕ) (at : ℕ) (r : Walked) : Type 0 where
  pub is : r ≡ walked s at

abbrev pub SpelledLength : Value → Count → Type 0
SpelledLength n r = Takes (spelling n) r

abbrev pub Stores : Value → List ℕ → ℕ → Written → List ℕ → Type 0
Stores n s at r out = Lays (spelling n) s at r out
