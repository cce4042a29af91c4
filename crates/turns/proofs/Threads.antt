-- The threads that there are.
--
--   refused_above   a code above 1 is refused as 9
use Prim.Native.Nat.{ℕ, zero, suc, ◌<◌}
use mathlib.Core.Path.{◌≡◌, refl}
use native.Mathlib.Omega.{arith}
use Rattle.words.specs.Answer.{refused, by}
use Rattle.turns.specs.Turns.{by_thread}
use Rattle.turns.specs.declared.Turn.{Turn}

pub refused_above : (code : ℕ) (right left : Turn) → 1 < code → refused (by 9) ≡ by_thread code right left
unfolding by_thread
refused_above zero right left h = absurd (omega arith)
refused_above (suc zero) right left h = absurd (omega arith)
refused_above (suc (suc n)) right left h = refl
