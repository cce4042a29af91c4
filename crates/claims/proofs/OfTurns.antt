-- What is claimed of turns, proved.
--
--   turn_rows      each answer exactly when one of its rows holds
--   right_thread   under a right thread a turn has its meaning by document 01,
--   left_thread    and under a left thread that with the names changed places
--   turns          the chapter
use Prim.Native.Nat.{ℕ, zero, suc, ◌≤◌}
use mathlib.Core.Path.{◌≡◌, refl, ap, sym, ◌∙◌}
use mathlib.Core.Logic.{◌↔◌}
use native.Mathlib.Omega.{arith}
use lib.Dec.{T, ltb, lt→ltb, ltb→lt}
use lib.IntN.{ℤ, pos, negsuc}
use Rattle.std.specs.Prelude.{Result, Ok, Err}
use Rattle.words.specs.Answer.{gives}
use Rattle.words.specs.declared.Refusal.TheVariants.{Thread}
use Rattle.words.specs.declared.Refusal.{Refusal}
use Rattle.words.proofs.OneMeaning.{by_rows}
use Rattle.turns.specs.Turns.{Means, turn_of, swapped, by_thread}
use Rattle.turns.specs.declared.Turn.{Turn}
use Rattle.turns.specs.declared.Turn.TheVariants.{Tighten, Loosen, Hold}
use Rattle.turns.proofs.Threads.{refused_above}
use Rattle.turns.proofs.OneTurn.{same_meaning}
use Rattle.claims.specs.OfTurns.{TurnRow, MeaningRow, right_above, right_below, left_above, left_below, holds, no_thread, RightThread, LeftThread, OfTurns}

not_below : (n : ℕ) → T (ltb n 0) → ⊥
not_below n t = let h = ltb→lt n 0 t in omega arith

row_named : (v : ℤ) (turn : Turn) → TurnRow v turn → turn ≡ turn_of v
row_named (pos zero) Tighten h = absurd (not_below 0 h.lt)
row_named (pos zero) Loosen h = absurd (not_below 0 h.lt)
row_named (pos zero) Hold h = refl
row_named (pos (suc n)) Tighten h = refl
row_named (pos (suc n)) Loosen h = absurd (not_below (suc n) h.lt)
row_named (pos (suc n)) Hold h = let z : suc n ≡ 0 = cc in absurd (omega arith)
row_named (negsuc n) Tighten h = absurd h.lt
row_named (negsuc n) Loosen h = refl
row_named (negsuc n) Hold h = let z : ◌≡◌ {A = ℕ} 0 1 = cc in absurd (omega arith)

row_of : (v : ℤ) → TurnRow v (turn_of v)
row_of (pos zero) = refl
row_of (pos (suc n)) = record { lt = lt→ltb 0 (suc n) (omega arith) }
row_of (negsuc n) = record { lt = tt }

means_right : (v : ℤ) (turn : Turn) → TurnRow v turn → Means v 0 (Ok turn)
unfolding by_thread
means_right v turn h = record { is = ap gives (row_named v turn h) }

right_named : (v : ℤ) (turn : Turn) → Means v 0 (Ok turn) → turn ≡ turn_of v
unfolding by_thread
right_named v turn p = let e : gives turn ≡ gives (turn_of v) = p.is in cc

means_left : (v : ℤ) (turn : Turn) → TurnRow v turn → Means v 1 (Ok (swapped turn))
unfolding by_thread
means_left v turn h = record { is = ap (λ (t : Turn). gives (swapped t)) (row_named v turn h) }

means_hold : (v : ℤ) (code : ℕ) → code ≤ 1 → v ≡ pos 0 → Means v code (Ok Hold)
means_hold v zero h e = means_right v Hold e
means_hold v (suc zero) h e = means_left v Hold e
means_hold v (suc (suc n)) h e = absurd (omega arith)

row_means : (v : ℤ) (code : ℕ) (r : Result Turn Refusal) → MeaningRow v code r → Means v code r
row_means v code r (right_above h) = means_right v Tighten h
row_means v code r (right_below h) = means_right v Loosen h
row_means v code r (left_above h) = means_left v Tighten h
row_means v code r (left_below h) = means_left v Loosen h
row_means v code r (holds h e) = means_hold v code h e
row_means v code r (no_thread h) = record { is = refused_above code (turn_of v) (swapped (turn_of v)) h }

some_row : (v : ℤ) (code : ℕ) → (r : Result Turn Refusal) × MeaningRow v code r
some_row (pos zero) zero = (Ok Hold, holds {code = 0} (omega arith) refl)
some_row (pos (suc n)) zero = (Ok Tighten, right_above (row_of (pos (suc n))))
some_row (negsuc n) zero = (Ok Loosen, right_below (row_of (negsuc n)))
some_row (pos zero) (suc zero) = (Ok Hold, holds {code = 1} (omega arith) refl)
some_row (pos (suc n)) (suc zero) = (Ok Loosen, left_above (row_of (pos (suc n))))
some_row (negsuc n) (suc zero) = (Ok Tighten, left_below (row_of (negsuc n)))
some_row v (suc (suc k)) = (Err Thread, no_thread {code = suc (suc k)} (omega arith))

one_meaning : (v : ℤ) (code : ℕ) (r r' : Result Turn Refusal) → Means v code r → Means v code r' → r ≡ r'
one_meaning v code r r' a b = same_meaning r r' (a.is ∙ sym b.is)

turn_rows : (v : ℤ) (code : ℕ) (r : Result Turn Refusal) → Means v code r ↔ MeaningRow v code r
turn_rows v code = by_rows (one_meaning v code) (row_means v code) (some_row v code)

right_thread : RightThread
right_thread v r = (
  λ p. (turn_of v, one_meaning v 0 r (Ok (turn_of v)) p (means_right v (turn_of v) (row_of v)), row_of v),
  λ q. rw q.1 (means_right v q.0 q.2),
)

left_thread : LeftThread
left_thread v r = (
  λ p. (turn_of v, one_meaning v 1 r (Ok (swapped (turn_of v))) p (means_left v (turn_of v) (row_of v)), means_right v (turn_of v) (row_of v)),
  λ q. rw (q.1, right_named v q.0 q.2) (means_left v (turn_of v) (row_of v)),
)

pub turns : OfTurns
turns = record {
  turn_rows = turn_rows;
  right_thread = right_thread;
  left_thread = left_thread;
  met = record {
    turn = λ v code. let f = some_row v code in (f.0, row_means v code f.0 f.1);
  };
  one = record {
    turn = one_meaning;
  };
}
