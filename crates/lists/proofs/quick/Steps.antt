-- What a step takes of the numbers left, and what it stores.
--
--   Stepped ..   a step took the numbers xs of those left, vs, and what it stored behind them lies where the rest will
--   Steps ..     a step does so, whatever numbers are left, if they are sixteen or more
--   rest s at    what is left of a list from a place on, as a part of it up to its end; `rest_long`: how long
--   step_one     a step of one number, read and stored
--   few_taken    sixteen bytes have at most sixteen small ones
--   step_small   a step of the small numbers at the front, of none or of sixteen bytes stored
use Prim.Native.Nat.{ℕ, zero, suc, ◌+◌, ◌-◌, ◌≤◌, ◌<◌}
use mathlib.Core.Path.{◌≡◌, refl, ap, sym, ◌∙◌}
use mathlib.Core.List.{List, [], ◌∷◌, ◌++◌, append_assoc, append-nil}
use native.Mathlib.Nat.{add-zero, min-le_left}
use native.Mathlib.Numerals.{add-one}
use native.Mathlib.Omega.{arith}
use lib.ListN.{length, get_or, take, drop, set, length-drop, length-take, length-append, take-append-drop, drop_of_length-le}
use lib.Seq.{sets, sets-eq, drop-cons, drop-drop, length-take-le}
use borrow.Rule.Slice.PartMut.{put_mid}
use Rattle.std.proofs.lemmas.List.{take_rest}
use Rattle.words.specs.Answer.{gives}
use Rattle.words.proofs.Cases.{by_order}
use Rattle.groups.specs.Width.{reading}
use Rattle.groups.proofs.OneByte.{digits_one, reading_one}
use Rattle.uleb128.specs.Unsigned.{u64}
use Rattle.lists.specs.InnerWord.{smalls}
use Rattle.lists.specs.InnerWide.{Stores}
use Rattle.lists.specs.InnerLeft.{Left}
use Rattle.lists.specs.InnerHalves.{Smalls, none, some}
use Rattle.lists.proofs.quick.Smalls.{smalls_none, small_low, small_high, smalls_within}
use Rattle.lists.proofs.quick.Front.{left_within, front_read}

-- a part up to the end
abbrev pub rest : List ℕ → ℕ → List ℕ
rest s at = take (length s - at) (drop at s)

pub rest_long : (s : List ℕ) (at n : ℕ) → at + n ≤ length s → n ≤ length (rest s at)
rest_long s at n h = rw (take_rest s at, length-drop at s) (omega arith)

put_rest : (k : ℕ) (old out : List ℕ) → k ≤ length old → put_mid k (length old - k) old out ≡ take k old ++ out
put_rest k old out h =
    let none : drop (length old - k) (drop k old) ≡ [] = drop_of_length-le (drop k old) (rw (length-drop k old) (omega arith)) in
    ap (λ (l : List ℕ). take k old ++ (out ++ l)) none ∙ ap (λ (l : List ℕ). take k old ++ l) (append-nil out)

sixteen_there : (s : List ℕ) (at : ℕ) → at + 16 ≤ length s → length (take 16 (drop at s)) ≡ 16
sixteen_there s at h = length-take-le 16 (drop at s) (rw (length-drop at s) (omega arith))

pub record Stepped (s : List ℕ) (to at : ℕ) (vs old : List ℕ) (n at2 n2 : ℕ) (out : List ℕ) : Type 0 where
  pub xs : List ℕ
  pub junk : List ℕ
  pub rest : List ℕ
  pub split : vs ≡ xs ++ rest
  pub left : Left s to at2 rest
  pub count : n2 ≡ n + length xs
  pub leaves : out ≡ sets old n (xs ++ junk)
  pub covered : length junk ≤ length rest

abbrev pub Steps : List ℕ → ℕ → List ℕ → ℕ → ℕ → ℕ → List ℕ → Type 0
Steps s at old n at2 n2 out = (to : ℕ) (vs : List ℕ) → Left s to at vs → to ≤ length s → 16 ≤ length vs → Stepped s to at vs old n at2 n2 out

pub step_one : {s : List ℕ} {to at v n : ℕ} {vs : List ℕ} (old : List ℕ) (k : ℕ) → Left s to at vs → at < to
    → reading u64 (drop at s) ≡ gives (v, n) → Stepped s to at vs old k (at + n) (k + 1) (set old k v)
step_one {v = v} old k l h e =
    let f = front_read l h e in
    record {
      xs = v ∷ [];
      junk = [];
      rest = f.rest;
      split = f.is;
      left = f.left;
      count = refl;
      leaves = refl;
      covered = omega arith;
    }

step_none : (s : List ℕ) (at : ℕ) (old : List ℕ) (k : ℕ) → Steps s at old k at k old
step_none s at old k to vs l w m = record {
  xs = [];
  junk = [];
  rest = vs;
  split = refl;
  left = l;
  count = omega arith;
  leaves = refl;
  covered = omega arith;
}

-- the small bytes at the front of the bytes g are numbers, and rest is left behind them
record SmallFront (s : List ℕ) (to at : ℕ) (vs g : List ℕ) : Type 0 where
  rest : List ℕ
  split : vs ≡ take (smalls g) g ++ rest
  left : Left s to (at + smalls g) rest

no_small : {s : List ℕ} {to at : ℕ} {vs : List ℕ} (g : List ℕ) → smalls g ≡ 0 → Left s to at vs → SmallFront s to at vs g
no_small {at = at} {vs = vs} g z l = record { rest = vs; split = rw z; left = rw (z, add-zero at) l }

one_more_small : {s : List ℕ} {to at : ℕ} {vs us f g : List ℕ} (b : ℕ) → b < 128 → f ≡ b ∷ g → vs ≡ b ∷ us → SmallFront s to (at + 1) us g
    → SmallFront s to at vs f
one_more_small {s} {to} {at} {g = g} b h c e m =
    let n : smalls (b ∷ g) ≡ suc (smalls g) = small_low b g h in
    let i : at + 1 + smalls g ≡ at + suc (smalls g) = omega arith in
    record { rest = m.rest; split = rw (c, n) (e ∙ ap (λ (x : List ℕ). b ∷ x) m.split); left = rw (c, n) (rw i at m.left) }

first_byte : (s : List ℕ) (at : ℕ) → at < length s → drop at s ≡ get_or s at 0 ∷ drop (at + 1) s
first_byte s at h = rw (add-one at) (drop-cons s at 0 h)

small_read : (s : List ℕ) (at : ℕ) → at < length s → get_or s at 0 < 128 → reading u64 (drop at s) ≡ gives (get_or s at 0, 1)
small_read s at h o =
    ap (reading u64) (first_byte s at h) ∙ reading_one u64 (omega arith) (get_or s at 0) (drop (at + 1) s) o ∙ rw (digits_one (get_or s at 0) o)

small_front : (k : ℕ) {s : List ℕ} {to at : ℕ} {vs : List ℕ} → to ≤ length s → at + k ≤ to → Left s to at vs
    → SmallFront s to at vs (take k (drop at s))
small_front zero w h l = no_small [] smalls_none l
small_front (suc k) {s} {to} {at} {vs} w h l =
    let there : at < length s = omega arith in
    let more : at + 1 + k ≤ to = omega arith in
    let e : take (suc k) (drop at s) ≡ get_or s at 0 ∷ take k (drop (at + 1) s) = ap (take (suc k)) (first_byte s at there) in
    by_order (get_or s at 0) 128
    (λ o.
    let f = front_read l (omega arith) (small_read s at there o) in
    one_more_small (get_or s at 0) o e f.is (small_front k w more f.left))
    (λ o. no_small (take (suc k) (drop at s)) (rw e (small_high (get_or s at 0) (take k (drop (at + 1) s)) o)) l)

step_stored : {s : List ℕ} {at k r : ℕ} {old out : List ℕ} → k + 16 ≤ length old → Stores (drop at s) (drop k old) r out
    → Steps s at old k (at + r) (k + r) (take k old ++ out)
step_stored {s} {at} {k} {r} {old} room t to vs l w m =
    let b = left_within l in
    let g = take 16 (drop at s) in
    let z = small_front 16 w (omega arith) l in
    let long : length g ≡ 16 = sixteen_there s at (omega arith) in
    let few : length (take (smalls g) g) ≡ smalls g = length-take-le (smalls g) g (smalls_within g) in
    let behind : drop 16 (drop k old) ≡ drop (k + length g) old = rw long (drop-drop 16 k old) in
    record {
      xs = take (smalls g) g;
      junk = drop (smalls g) g;
      rest = z.rest;
      split = z.split;
      left = rw t.many z.left;
      count = rw (t.many, few);
      leaves = rw (t.leaves, behind, ← append_assoc (take k old) g (drop (k + length g) old)) (sym (sets-eq g old k (omega arith))) ∙ ap (sets old k) (sym (take-append-drop (smalls g) g));
      covered =
          let q = ap length z.split ∙ length-append (take (smalls g) g) z.rest in
          rw (length-drop (smalls g) g) (omega arith);
    }

step_few : (s : List ℕ) (at : ℕ) (old : List ℕ) (k : ℕ) {r : ℕ} {out : List ℕ} → k + 16 ≤ length old → Smalls (drop at s) (drop k old) r out
    → Steps s at old k (at + r) (k + r) (take k old ++ out)
step_few s at old k room none = rw (take-append-drop k old, add-zero at, add-zero k) (step_none s at old k)
step_few s at old k room (some t) = step_stored room t

pub few_taken : {s old : List ℕ} {r : ℕ} {out : List ℕ} → Stores s old r out → r ≤ 16
few_taken {s = s} t = omega (arith, t.many, smalls_within (take 16 s), length-take 16 s, min-le_left 16 (length s))

pub step_small : (s : List ℕ) (at : ℕ) (old : List ℕ) (k : ℕ) {r : ℕ} {out : List ℕ} → k + 16 ≤ length old → Smalls (rest s at) (rest old k) r out
    → Steps s at old k (at + r) (k + r) (put_mid k (length old - k) old out)
step_small s at old k {out = out} room t =
    let e : put_mid k (length old - k) old out ≡ take k old ++ out = put_rest k old out (omega arith) in
    rw e (step_few s at old k room (rw (take_rest s at, take_rest old k) at t))
