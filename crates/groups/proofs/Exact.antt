-- Which groups a width accepts: exactly those that spell a number below its limit, which is 128 to the most - 1, times top + 1.
--
--   group_length               a group is one byte longer than its run
--   Spells w below small top   the width's rules say what spelling so asks for: its "one too many" and its last byte allowed
--   shortest                   a group whose last byte says less than small, and isn't one too many, is the spelling of what it says
--   accepts                    what is spelled below the limit is a group that is accepted
--   accepted                   what is accepted is spelled, and below the limit
--   longer                     a last byte is one too many exactly where the spelling of what the group says is shorter than the group
use Prim.Native.Nat.{ℕ, suc, ◌+◌, ◌-◌, ◌*◌, ◌/◌, ◌%◌, ◌^◌, ◌≤◌, ◌<◌}
use mathlib.Core.Path.{◌≡◌, ap, sym, ◌∙◌, subst}
use mathlib.Core.List.{List, [], ◌∷◌}
use mathlib.Core.Bool.{Bool, true, false}
use mathlib.Core.Logic.{◌↔◌}
use native.Mathlib.Nat.{mod-eq_of_lt, mul_comm, mul-le-mul_left, pow-succ', lt_of_mul-lt-mul_left}
use native.Mathlib.Omega.{arith}
use borrow.Author.Tests.{le-leb, lt-leb, lt-ltb}
use lib.Dec.{leb}
use lib.ListN.{length, get_or}
use Rattle.words.proofs.Cases.{by_order, by_test, clash}
use Rattle.groups.specs.Group.{run, Group, one, more}
use Rattle.groups.specs.Form.{say, spell}
use Rattle.groups.specs.Width.{Width, is_too_large, is_too_many}
use Rattle.groups.proofs.Run.{run_low, run_high, in_run, at_run, pow_up}
use Rattle.groups.proofs.Rows.{not_large, first_not_many, large_when}
use Rattle.groups.proofs.FromWalk.{Sound}
use Rattle.groups.proofs.Spelling.{say_below, said, say_say, say_high, Spelled, last, byte, spelled, times_more, last_bounds, last_small, spelled_group, spelled_unique, spelled_short}

pub group_length : {g : List ℕ} → Group g → length g ≡ suc (run g)
group_length (one {b} p) = rw (run_low b [] p)
group_length (more {b} {g} h l r) = rw (run_high b g h, group_length r)

module _ {A : Type 0} (w : Width A) where
  -- the byte before the last, and the last, of two; of more, the first does not matter
  many_two : (b c : ℕ) → 128 ≤ b → c < 128 → is_too_many w (b ∷ c ∷ []) ≡ w.extra b c
  unfolding is_too_many
  many_two b c h l = rw (run_high b (c ∷ []) h, run_low c [] l)

  many_more : (b c : ℕ) (g : List ℕ) → 128 ≤ b → 128 ≤ c → is_too_many w (b ∷ c ∷ g) ≡ is_too_many w (c ∷ g)
  unfolding is_too_many
  many_more b c g h l =
      let i : suc (suc (run g)) - 1 ≡ suc (run g) = omega arith in
      let j : suc (run g) - 1 ≡ run g = omega arith in
      rw (run_high b (c ∷ g) h, run_high c g l, i, j, lt-ltb 0 (suc (suc (run g))) (omega arith), lt-ltb 0 (suc (run g)) (omega arith))

  many_tail : {b : ℕ} {g : List ℕ} → Group g → 128 ≤ b → is_too_many w (b ∷ g) ≡ false → is_too_many w g ≡ false
  many_tail {b} (one {b = c} p) h t = first_not_many w (c ∷ []) (run_low c [] p)
  many_tail {b} (more {b = c} {g} l k r) h t = sym (many_more b c g h l) ∙ t

-- a byte in front of what is spelled
front : {below : Bool} {small b m : ℕ} {g : List ℕ} → 128 ≤ b → b < 256 → Spelled below small m g
    → small ≤ say below (b % 128) + 128 * m → Spelled below small (say below (b % 128) + 128 * m) (b ∷ g)
front {below} {small} {b} {m} {g} hi l s e =
    let d : say below (b % 128) < 128 = say_below below (b % 128) (omega arith) in
    let q : (say below (b % 128) + 128 * m) / 128 ≡ m = omega arith in
    let r : (say below (b % 128) + 128 * m) % 128 ≡ say below (b % 128) = omega arith in
    let f : 128 + say below ((say below (b % 128) + 128 * m) % 128) ≡ b = rw (r, say_say below (b % 128) (omega arith)) (omega arith) in
    subst (λ (x : ℕ). Spelled below small (say below (b % 128) + 128 * m) (x ∷ g)) f (byte e (rw q s))

at_most : (p : ℕ) {a b m : ℕ} → p * a ≤ m → m < p * (b + 1) → a ≤ b
at_most p {a} {b} h l = let q : a < b + 1 = lt_of_mul-lt-mul_left p (omega arith) in omega arith

pub record Spells {A : Type 0} (w : Width A) (below : Bool) (small top : ℕ) : Type 0 where
  pub sound : Sound w
  pub some : 0 < small
  pub low : small ≤ 128
  pub under : top < small
  -- the last byte allowed at the greatest length says at most top
  pub allowed : (b : ℕ) → b < 128 → say below b < small → w.allowed b ≡ leb (say below b) top
  -- a last byte is needed exactly when it and the one before it say no less than one byte could
  pub needed : (before b : ℕ) → b < 128 → say below b < small
      → (w.extra before b ≡ false) ↔ (small ≤ say below (before % 128) + 128 * say below b)

module _ {A : Type 0} {w : Width A} {below : Bool} {small top : ℕ} (k : Spells w below small top) where
  -- a byte in front of what spells m, that is not one too few
  enough : {b m : ℕ} {g : List ℕ} → 128 ≤ b → Spelled below small m g → is_too_many w (b ∷ g) ≡ false → small ≤ say below (b % 128) + 128 * m
  enough {b} h (last {m} p) t =
      let l : say below m < 128 = say_below below m (omega (arith, k.low)) in
      let e : say below (say below m) ≡ m = say_say below m (omega (arith, k.low)) in
      rw e at ((k.needed b (say below m) l (rw e p)).0 (sym (many_two w b (say below m) h l) ∙ t))
  enough h (byte p r) t = omega (arith, k.low, k.some)

  not_many : {m : ℕ} {g : List ℕ} → Spelled below small m g → is_too_many w g ≡ false
  not_many (last {m} p) = first_not_many w (say below m ∷ []) (run_low (say below m) [] (say_below below m (omega (arith, k.low))))
  not_many (byte {m} p (last q)) =
      let d : say below (m % 128) < 128 = say_below below (m % 128) (omega arith) in
      let l : say below (m / 128) < 128 = say_below below (m / 128) (omega (arith, k.low)) in
      let e : say below (say below (m / 128)) ≡ m / 128 = say_say below (m / 128) (omega (arith, k.low)) in
      let f : say below ((128 + say below (m % 128)) % 128) ≡ m % 128 = say_high below (m % 128) (omega arith) in
      many_two w (128 + say below (m % 128)) (say below (m / 128)) (omega arith) l
      ∙ (k.needed (128 + say below (m % 128)) (say below (m / 128)) l (rw e q)).1 (rw (e, f) (omega arith))
  not_many (byte {m} {g} p (byte {m = m'} {g = g'} q r)) =
      many_more w (128 + say below (m % 128)) (128 + say below (m' % 128)) g' (omega arith) (omega arith) ∙ not_many (byte q r)

  module _ {m : ℕ} {g : List ℕ} (s : Spelled below small m g) where
    size : length g ≡ suc (run g)
    size = group_length (spelled_group k.low s)

    last_low : get_or g (run g) 0 < 128
    last_low = at_run g (omega (arith, size))

    last_allowed : w.allowed (get_or g (run g) 0) ≡ leb (say below (get_or g (run g) 0)) top
    last_allowed = k.allowed (get_or g (run g) 0) last_low (last_small k.low s)

    -- the limit: at the greatest length the last byte says at most top, exactly when the number is below it
    below_not_large : m < 128 ^ (w.most - 1) * (top + 1) → is_too_large w g ≡ false
    below_not_large h =
        let n : length g ≤ suc (w.most - 1) =
        spelled_short k.low (w.most - 1) s
        (omega (arith, mul_comm small (128 ^ (w.most - 1)), mul-le-mul_left (128 ^ (w.most - 1)) k.under)) in
        not_large w g (omega (arith, size, k.sound.some))
        (λ e. last_allowed ∙ le-leb (say below (get_or g (run g) 0)) top (at_most (128 ^ (w.most - 1))
        (rw (let i : run g ≡ w.most - 1 = omega arith in ap (λ (j : ℕ). 128 ^ j) i) at (last_bounds k.low s).0) h))

    limit_long : 128 ^ (w.most - 1) * (top + 1) ≤ m → w.most ≤ run g + 1
    limit_long h =
        by_order (run g + 1) w.most
        (λ l.
        let d : say below (get_or g (run g) 0) < 128 = say_below below (get_or g (run g) 0) last_low in
        let a : 128 ^ run g * (say below (get_or g (run g) 0) + 1) ≤ 128 ^ run g * 128 = mul-le-mul_left (128 ^ run g) (omega arith) in
        let b : 128 ^ suc (run g) ≤ 128 ^ (w.most - 1) = pow_up (suc (run g)) (w.most - 1) (omega arith) in
        let c : 128 ^ (w.most - 1) * 1 ≤ 128 ^ (w.most - 1) * (top + 1) = mul-le-mul_left (128 ^ (w.most - 1)) (omega arith) in
        absurd (omega (arith, last_bounds k.low s, pow-succ' 128 (run g))))
        (λ l. l)

    limit_large : 128 ^ (w.most - 1) * (top + 1) ≤ m → is_too_large w g ≡ true
    limit_large h =
        large_when w g (limit_long h)
        (by_order (w.most - 1) (run g) (λ l. k.sound.low (get_or g (w.most - 1) 0) (in_run g (w.most - 1) l))
        (λ l.
        let i : run g ≡ w.most - 1 = omega (arith, limit_long h) in
        let q : 128 ^ run g ≡ 128 ^ (w.most - 1) = ap (λ (j : ℕ). 128 ^ j) i in
        let u : m < 128 ^ (w.most - 1) * (say below (get_or g (run g) 0) + 1) = rw q at (last_bounds k.low s).1 in
        let o : top + 1 ≤ say below (get_or g (run g) 0) = at_most (128 ^ (w.most - 1)) h u in
        rw (← i) (last_allowed ∙ lt-leb (say below (get_or g (run g) 0)) top (omega arith))))

    not_large_below : is_too_large w g ≡ false → m < 128 ^ (w.most - 1) * (top + 1)
    not_large_below e =
        by_order m (128 ^ (w.most - 1) * (top + 1)) (λ l. l) (λ l. clash e (limit_large l))

  -- a group with a last byte that could end it, and none too many, is spelled
  recognized : {g : List ℕ} → Group g → say below (get_or g (run g) 0) < small → is_too_many w g ≡ false → Spelled below small (said below g) g
  unfolding said
  recognized (one {b} p) h t =
      let h' : say below b < small = rw (run_low b [] p) at h in
      let m : say below (b % 128) + 128 * 0 ≡ say below b = rw (mod-eq_of_lt p) (omega arith) in
      rw m (subst (λ (x : ℕ). Spelled below small (say below b) (x ∷ [])) (say_say below b p) (last h'))
  recognized (more {b} {g} hi l r) h t =
      let s : Spelled below small (said below g) g = recognized r (rw (run_high b g hi) at h) (many_tail w r hi t) in
      front hi l s (enough hi s t)

  -- and so it is the spelling of what it says
  pub shortest : {g : List ℕ} → Group g → say below (get_or g (run g) 0) < small → is_too_many w g ≡ false → g ≡ spell below small (said below g)
  shortest {g} r h t = spelled_unique (recognized r h t) (spelled below small k.some (said below g))

  pub accepts : {m : ℕ} → m < 128 ^ (w.most - 1) * (top + 1)
      → Group (spell below small m) × (is_too_large w (spell below small m) ≡ false) × (is_too_many w (spell below small m) ≡ false)
  accepts {m} h = let s = spelled below small k.some m in (spelled_group k.low s, below_not_large s h, not_many s)

  pub accepted : {g : List ℕ} → Group g → say below (get_or g (run g) 0) < small → is_too_large w g ≡ false → is_too_many w g ≡ false
      → (g ≡ spell below small (said below g)) × (said below g < 128 ^ (w.most - 1) * (top + 1))
  accepted {g} r h e t = (shortest r h t, not_large_below (recognized r h t) e)

  -- with a last byte that is one too many, one byte fewer would do
  too_many_small : {g : List ℕ} → Group g → say below (get_or g (run g) 0) < small → is_too_many w g ≡ true
      → (0 < run g) × (said below g < small * 128 ^ (run g - 1))
  unfolding said
  too_many_small (one {b} p) h t = clash (first_not_many w (b ∷ []) (run_low b [] p)) t
  too_many_small (more {b} hi l (one {b = c} p)) h t =
      let e : c % 128 ≡ c = mod-eq_of_lt p in
      let q : say below c < small = rw (run_high b (c ∷ []) hi, run_low c [] p) at h in
      rw (run_high b (c ∷ []) hi, run_low c [] p, e)
      (by_order (say below (b % 128) + 128 * say below c) small (λ lt. (omega arith, omega arith))
      (λ ge. clash (many_two w b c hi p ∙ (k.needed b c p q).1 ge) t))
  too_many_small (more {b} hi l (more {b = c} {g = g} hi' l' r)) h t =
      let n = run_high b (c ∷ g) hi in
      let ih = too_many_small (more hi' l' r) (rw n at h) (sym (many_more w b c g hi hi') ∙ t) in
      let i : suc (run (c ∷ g)) - 1 ≡ suc (run (c ∷ g) - 1) = omega (arith, ih.0) in
      let d : say below (b % 128) < 128 = say_below below (b % 128) (omega arith) in
      rw (n, i) (omega arith, omega (arith, ih.1, times_more small (run (c ∷ g) - 1)))

  -- one too many: exactly where the shortest spelling of the same number is shorter
  pub longer : {g : List ℕ} → Group g → say below (get_or g (run g) 0) < small
      → (is_too_many w g ≡ true) ↔ (length (spell below small (said below g)) < length g)
  longer {g} r h = (
    λ t.
        let q = too_many_small r h t in
        omega (arith, group_length r, q.0, spelled_short k.low (run g - 1) (spelled below small k.some (said below g)) q.1),
    λ l. by_test (is_too_many w g) (λ e. e) (λ e.
        let n : length g ≡ length (spell below small (said below g)) = ap length (shortest r h e) in
        absurd (omega arith)),
  )
