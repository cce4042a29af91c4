-- The loop that fills two streams: what it holds, and what holds inside a turn.
--
--   Filling ..                  both streams are there, one behind the other; stored, what is left of them completes what was asked
--   filling_begins              at first
--   first_end, second_end       there is room for the numbers of both
--   filling_ends                when the last few of both are stored, all is
--   Turn k ..                   both streams have k numbers left or more, and so k bytes
--   turn_begins                 where the loop goes on, 17
--   accepts_first, accepts_second   each stream then has a number of ten bytes or fewer at its front
--   first_inside, second_inside     and what it reads lies inside the stream's bytes and slots
--   turn_numbers                when a number of each was read and stored, 16
--   turn_stored                 both in one, from where the loop goes on
--   ready_first, ready_second   each stream then has sixteen bytes and room for as many, the second also when the first has made its step
--   turn_ends                   after both steps the loop holds what it held
use Prim.Native.Nat.{ℕ, ◌+◌, ◌-◌, ◌≤◌, ◌<◌}
use mathlib.Core.Path.{◌≡◌, refl, ap, ap₂, sym, ◌∙◌}
use mathlib.Core.List.{List, [], append_assoc}
use native.Mathlib.Nat.{zero-add}
use native.Mathlib.Omega.{arith}
use lib.ListN.{length, take, drop, set}
use lib.Seq.{sets, sets-eq, length-sets, drop-drop}
use borrow.Rule.Slice.PartMut.{put_mid}
use Rattle.std.proofs.lemmas.List.{take_rest}
use Rattle.words.specs.Answer.{gives}
use Rattle.words.proofs.Lays.{sets_append}
use Rattle.groups.specs.Width.{reading}
use Rattle.uleb128.specs.Unsigned.{u64}
use Rattle.lists.specs.InnerWide.{Accepts}
use Rattle.lists.specs.InnerHalves.{RestStored, HalvesFit, HalvesStored}
use Rattle.lists.proofs.quick.Front.{left_within, one_list}
use Rattle.lists.proofs.quick.Steps.{Stepped, Steps, rest}
use Rattle.lists.proofs.quick.Stream.{Stream, stream_inside, stream_accepts, stream_one, stream_steps, stream_on, stream_kept, stream_stored}

pub record Filling (s : List ℕ) (mid half count : ℕ) (old out : List ℕ) (at n at2 n2 : ℕ) : Type 0 where
  pub first : Stream s mid half at n
  pub second : Stream s (length s) count at2 n2
  pub here : at ≤ length s
  pub here2 : at2 ≤ length s
  pub over : half ≤ n2
  pub kept : length out ≡ length old
  pub enough : count ≤ length old
  pub same : HalvesStored s mid half count old (sets (sets out n first.vs) n2 second.vs)

pub filling_begins : {s : List ℕ} {mid half count : ℕ} (old : List ℕ) → HalvesFit s mid half count (length old)
    → Filling s mid half count old old 0 0 mid half
filling_begins {s} {mid} {half} {count} old h =
    let b = h.begun in
    let e : 0 + length h.vs ≡ half = zero-add (length h.vs) ∙ b.many in
    record {
      first = record { vs = h.vs; left = b.first; within = omega (arith, left_within b.second); counts = e };
      second = record { vs = h.us; left = b.second; within = omega arith; counts = b.all };
      here = omega arith;
      here2 = omega (arith, left_within b.second);
      over = omega arith;
      kept = refl;
      enough = h.enough;
      same = λ vs us c.
          rw (← (one_list b.first c.first), ← (one_list b.second c.second)) (sym (rw e at (sets_append h.vs h.us old 0)));
    }

-- a part in which others were stored
put_sets : (k : ℕ) (l vs : List ℕ) {j : ℕ} → j ≡ length vs → k + length vs ≤ length l → put_mid k j l vs ≡ sets l k vs
put_sets k l vs e h =
    rw (e, drop-drop (length vs) k l) (sym (append_assoc (take k l) vs (drop (k + length vs) l))) ∙ sym (sets-eq vs l k h)

module _ {s : List ℕ} {mid half count : ℕ} {old out : List ℕ} {at n at2 n2 : ℕ} (g : Filling s mid half count old out at n at2 n2) where
  first_stepped : {at' n' : ℕ} {out' : List ℕ} → Stepped s mid at g.first.vs out n at' n' out'
      → Filling s mid half count old out' at' n' at2 n2
  first_stepped f =
      record {
        first = stream_on g.first f;
        second = g.second;
        here = omega (arith, left_within f.left, g.first.within);
        here2 = g.here2;
        over = g.over;
        kept = stream_kept g.first f ∙ g.kept;
        enough = g.enough;
        same = rw (stream_stored g.first f 0 [] (omega arith)) g.same;
      }

  second_stepped : {at' n' : ℕ} {out' : List ℕ} → Stepped s (length s) at2 g.second.vs out n2 at' n' out'
      → Filling s mid half count old out' at n at' n'
  second_stepped f =
      record {
        first = g.first;
        second = stream_on g.second f;
        here = g.here;
        here2 = omega (arith, left_within f.left);
        over = omega (arith, f.count, g.over);
        kept = stream_kept g.second f ∙ g.kept;
        enough = g.enough;
        same = rw (stream_stored g.second f n g.first.vs (omega (arith, g.first.counts, g.over))) g.same;
      }

  pub first_end : half ≤ length out
  first_end = omega (arith, g.over, g.second.counts, g.enough, g.kept)

  pub second_end : count ≤ length out
  second_end = omega (arith, g.enough, g.kept)

  pub filling_ends : {a b : List ℕ} → length a ≡ half - n → length b ≡ count - n2 → RestStored s at a → RestStored s at2 b
      → HalvesStored s mid half count old (put_mid n2 (count - n2) (put_mid n (half - n) out a) b)
  filling_ends {a} {b} la lb f h =
      let first : a ≡ g.first.vs = f mid g.first.vs g.first.left (omega (arith, g.first.counts)) in
      let second : b ≡ g.second.vs = h (length s) g.second.vs g.second.left (omega (arith, g.second.counts)) in
      let one : put_mid n (half - n) out a ≡ sets out n g.first.vs =
      ap (put_mid n (half - n) out) first ∙ put_sets n out g.first.vs (omega (arith, g.first.counts)) (omega (arith, g.first.counts, first_end)) in
      let both : put_mid n2 (count - n2) (put_mid n (half - n) out a) b ≡ sets (sets out n g.first.vs) n2 g.second.vs =
      ap₂ (put_mid n2 (count - n2)) one second
      ∙ put_sets n2 (sets out n g.first.vs) g.second.vs (omega (arith, g.second.counts))
      (rw (length-sets out n g.first.vs) (omega (arith, g.second.counts, second_end))) in
      λ vs us c. both ∙ g.same vs us c

pub record Turn (k : ℕ) (s : List ℕ) (mid half count : ℕ) (old out : List ℕ) (at n at2 n2 : ℕ) : Type 0 where
  pub filling : Filling s mid half count old out at n at2 n2
  pub many : n + k ≤ half
  pub many2 : n2 + k ≤ count
  pub inside : at + k ≤ length s
  pub inside2 : at2 + k ≤ length s

left_inside : (k : ℕ) {s : List ℕ} {mid half count : ℕ} {old out : List ℕ} {at n at2 n2 : ℕ} → Filling s mid half count old out at n at2 n2
    → n + k ≤ half → n2 + k ≤ count → Turn k s mid half count old out at n at2 n2
left_inside k f m m2 =
    let a = f.first in
    let b = f.second in
    record { filling = f; many = m; many2 = m2; inside = omega (arith, stream_inside a); inside2 = omega (arith, stream_inside b) }

module _ {s : List ℕ} {mid half count : ℕ} {old out : List ℕ} {at n at2 n2 : ℕ} where
  turn_begins : {most most2 : ℕ} → Filling s mid half count old out at n at2 n2 → most ≡ half - 16 → most2 ≡ count - 16
      → (n < most) × (n2 < most2) → Turn 17 s mid half count old out at n at2 n2
  turn_begins f e e2 h = left_inside 17 f (omega (arith, h.0)) (omega (arith, h.1))

  pub accepts_first : {most most2 : ℕ} → Filling s mid half count old out at n at2 n2 → most ≡ half - 16 → most2 ≡ count - 16
      → (n < most) × (n2 < most2) → Accepts (rest s at)
  accepts_first f e e2 h = rw (take_rest s at) (stream_accepts f.first (omega (arith, h.0)))

  pub accepts_second : {most most2 : ℕ} → Filling s mid half count old out at n at2 n2 → most ≡ half - 16 → most2 ≡ count - 16
      → (n < most) × (n2 < most2) → Accepts (rest s at2)
  accepts_second f e e2 h = rw (take_rest s at2) (stream_accepts f.second (omega (arith, h.1)))

  pub first_inside : {most v m : ℕ} → Filling s mid half count old out at n at2 n2 → most ≡ half - 16 → n < most → reading u64 (rest s at) ≡ gives (v, m)
      → at + m + 16 ≤ length s
  first_inside {v = v} f e h r =
      let g = first_stepped f (stream_one f.first out (omega arith) (rw (take_rest s at) at r)) in
      omega (arith, stream_inside g.first, g.first.counts, g.first.within)

  pub second_inside : {most v m : ℕ} → Filling s mid half count old out at n at2 n2 → most ≡ count - 16 → n2 < most → reading u64 (rest s at2) ≡ gives (v, m)
      → at2 + m + 16 ≤ length s
  second_inside {v = v} f e h r =
      let g = second_stepped f (stream_one f.second out (omega arith) (rw (take_rest s at2) at r)) in
      omega (arith, stream_inside g.second, g.second.counts)

  turn_numbers : {v m v2 m2 : ℕ} → Turn 17 s mid half count old out at n at2 n2 → reading u64 (drop at s) ≡ gives (v, m)
      → reading u64 (drop at2 s) ≡ gives (v2, m2) → Turn 16 s mid half count old (set (set out n v) n2 v2) (at + m) (n + 1) (at2 + m2) (n2 + 1)
  turn_numbers {v} t e e2 =
      let f = first_stepped t.filling (stream_one t.filling.first out (omega (arith, t.many)) e) in
      let g = second_stepped f (stream_one f.second (set out n v) (omega (arith, t.many2)) e2) in
      left_inside 16 g (omega (arith, t.many)) (omega (arith, t.many2))

  pub turn_stored : {most most2 v m v2 m2 : ℕ} → Filling s mid half count old out at n at2 n2 → most ≡ half - 16 → most2 ≡ count - 16
      → (n < most) × (n2 < most2) → reading u64 (rest s at) ≡ gives (v, m) → reading u64 (rest s at2) ≡ gives (v2, m2)
      → Turn 16 s mid half count old (set (set out n v) n2 v2) (at + m) (n + 1) (at2 + m2) (n2 + 1)
  turn_stored f e e2 h r r2 = turn_numbers (turn_begins f e e2 h) (rw (take_rest s at) at r) (rw (take_rest s at2) at r2)

  module _ (t : Turn 16 s mid half count old out at n at2 n2) where
    pub ready_first : (at + 16 ≤ length s) × (n + 16 ≤ length out)
    ready_first = let f = t.filling in (t.inside, omega (arith, t.many, f.over, f.second.counts, f.enough, f.kept))

    module _ {at' n' : ℕ} {out' : List ℕ} (a : Steps s at out n at' n' out') where
      first_done : Filling s mid half count old out' at' n' at2 n2
      first_done = first_stepped t.filling (stream_steps t.filling.first (omega (arith, t.many)) a)

      pub ready_second : (at2 + 16 ≤ length s) × (n2 + 16 ≤ length out')
      ready_second = let f = first_done in (t.inside2, omega (arith, t.many2, f.enough, f.kept))

      pub turn_ends : {at2' n2' : ℕ} {out'' : List ℕ} → Steps s at2 out' n2 at2' n2' out''
          → Filling s mid half count old out'' at' n' at2' n2'
      turn_ends b = second_stepped first_done (stream_steps first_done.second (omega (arith, t.many2)) b)
