-- One of two streams: what is left of it, and what a step makes of that.
--
--   Stream s to end at n       numbers are left from at to the place to, and stored from the n-th on they end at the end-th
--   stream_inside              a byte or more is there for each of them
--   stream_rest                what is asked for the last few of them,
--   stream_accepts             and for one, where ten are left
--   stream_one                 a number that was read and stored is a step
--   stream_steps               what a step promises is a step of what is left
--   stream_counts, stream_on   after a step the stream is there still, further on, and ends where it did;
--   stream_kept                the slice is as long as it was;
--   stream_stored              and what is left, stored behind other numbers us, makes of the slice what it would have made before
use Prim.Native.Nat.{ℕ, ◌+◌, ◌-◌, ◌≤◌, ◌<◌}
use mathlib.Core.Path.{◌≡◌, ap, ◌∙◌}
use mathlib.Core.List.{List, ◌++◌}
use native.Mathlib.Omega.{arith}
use lib.ListN.{length, drop, set, length-append, length-drop}
use lib.Seq.{sets, length-sets}
use Rattle.words.specs.Answer.{gives}
use Rattle.groups.specs.Width.{reading}
use Rattle.uleb128.specs.Unsigned.{u64}
use Rattle.lists.specs.InnerWide.{Accepts}
use Rattle.lists.specs.InnerLeft.{Left}
use Rattle.lists.specs.InnerHalves.{RestFits}
use Rattle.lists.proofs.quick.Overwriting.{sets_apart, sets_gone_on}
use Rattle.lists.proofs.quick.Front.{left_within, front}
use Rattle.lists.proofs.quick.Steps.{Stepped, Steps, step_one}

pub record Stream (s : List ℕ) (to end at n : ℕ) : Type 0 where
  pub vs : List ℕ
  pub left : Left s to at vs
  pub within : to ≤ length s
  pub counts : n + length vs ≡ end

module _ {s : List ℕ} {to end at n : ℕ} (a : Stream s to end at n) where
  pub stream_inside : at + length a.vs ≤ to
  stream_inside = left_within a.left

  pub stream_rest : {room : ℕ} → room ≡ end - n → RestFits s at room
  stream_rest r = record { to = to; vs = a.vs; left = a.left; within = a.within; many = omega (arith, a.counts) }

  pub stream_accepts : n + 10 ≤ end → Accepts (drop at s)
  stream_accepts m =
      let i = stream_inside in
      let f = front a.left (omega (arith, a.counts)) in
      record { room = rw (length-drop at s) (omega (arith, a.counts, a.within)); value = f.0; count = f.1; is = f.2 }

  pub stream_one : {v m : ℕ} (old : List ℕ) → n < end → reading u64 (drop at s) ≡ gives (v, m)
      → Stepped s to at a.vs old n (at + m) (n + 1) (set old n v)
  stream_one old h e = step_one old n a.left (omega (arith, a.counts, stream_inside)) e

  pub stream_steps : {old out : List ℕ} {at' n' : ℕ} → n + 16 ≤ end → Steps s at old n at' n' out → Stepped s to at a.vs old n at' n' out
  stream_steps m t = t to a.vs a.left a.within (omega (arith, a.counts))

  module _ {old out : List ℕ} {at' n' : ℕ} (f : Stepped s to at a.vs old n at' n' out) where
    pub stream_counts : n' + length f.rest ≡ end
    stream_counts =
        let l : length a.vs ≡ length f.xs + length f.rest = ap length f.split ∙ length-append f.xs f.rest in
        omega (arith, f.count, a.counts)

    abbrev pub stream_on : Stream s to end at' n'
    stream_on = record { vs = f.rest; left = f.left; within = a.within; counts = stream_counts }

    pub stream_kept : length out ≡ length old
    stream_kept = ap length f.leaves ∙ length-sets old n (f.xs ++ f.junk)

    pub stream_stored : (i : ℕ) (us : List ℕ) → i + length us ≤ n → sets (sets out i us) n' f.rest ≡ sets (sets old i us) n a.vs
    stream_stored i us h =
        let e = ap (λ (l : List ℕ). sets l i us) f.leaves ∙ sets_apart old i us n (f.xs ++ f.junk) h in
        sets_gone_on (sets old i us) f.xs f.junk f.rest n e f.count f.split f.covered
