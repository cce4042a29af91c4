-- What the program makes of what the system answers.
--
--   taken    an input is taken whole, in whatever pieces it comes; a read that fails is no end
--   silent   nothing is said exactly where nothing failed and the input is within the limit
use Prim.Native.Nat.{ℕ, suc, ◌+◌, ◌<◌}
use mathlib.Core.Bool.{true, false}
use mathlib.Core.Path.{◌≡◌, refl, ap}
use mathlib.Core.List.{List, [], ◌∷◌}
use native.Mathlib.Omega.{arith}
use borrow.Author.Tests.{lt-ltb, le-ltb}
use lib.IntN.{ℤ, pos, negsuc}
use lib.ListN.{length}
use Rattle.words.proofs.Cases.{by_order, clash}
use Rattle.blocks.specs.Block.{block_limit}
use Rattle.listing.specs.Program.{Known, bytes, failed, ended, input_room, following, limit_note}
use Rattle.claims.specs.OfListing.{Taking, last, another, answers, total, Taken, Silent}

-- behind n bytes and the pieces, what follows on the last answer
behind : (n : ℕ) (ps : List ℕ) (k : ℤ) (i : Known) → n + total ps < input_room → following (n + total ps) k ≡ ended i → Taking n (answers ps k) i
behind n [] k i h e = let z : n + 0 ≡ n = omega arith in last n k i (rw z at e)
behind n (p ∷ ps) k i h e =
    let z : n + (suc p + total ps) ≡ n + suc p + total ps = omega arith in
    another n (pos (suc p)) (n + suc p) (answers ps k) i (rw (lt-ltb (n + suc p) input_room (omega arith)))
    (behind (n + suc p) ps k i (omega arith) (rw z at e))

from_front : (ps : List ℕ) (k : ℤ) (i : Known) → total ps < input_room → following (total ps) k ≡ ended i → Taking 0 (answers ps k) i
from_front ps k i h e = let z : 0 + total ps ≡ total ps = omega arith in behind 0 ps k i (omega arith) (rw z e)

pub taken : Taken
taken = record {
  whole = λ ps h. from_front ps (pos 0) _ h refl;
  above = λ ps p h f. from_front ps (pos (suc p)) _ h (rw (le-ltb (total ps + suc p) input_room f));
  failed = λ ps j h. from_front ps (negsuc j) _ h refl;
}

-- some byte is said above the limit
said : limit_note ≡ [] → ⊥
said e = let n = ap length e in absurd (omega (arith, n))

pub silent : Silent
silent failed w = (λ e. let z : ◌≡◌ {A = ℕ} 0 1 = cc in absurd (omega arith), λ k. let f = k.1 in let z : ◌≡◌ {A = ℕ} 0 1 = cc in absurd (omega arith))
silent (bytes n) false = (λ e. let z : ◌≡◌ {A = ℕ} 0 1 = cc in absurd (omega arith), λ k. clash refl k.3)
silent (bytes n) true = (
  λ e. by_order block_limit n (λ h. absurd (said (rw (lt-ltb block_limit n h) at e))) (λ h. (n, refl, h, refl)),
  λ k.
      let f = k.1 in
      let i : n ≡ k.0 = cc in
      rw (le-ltb block_limit n (rw i k.2)),
)
