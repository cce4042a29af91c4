-- A group that the walk closed, of two bytes or more: its value, its rows, and so what a reading answers. The last byte tells the sign: below
-- zero where it is above 63.
--
--   closed_closes   what the bytes say at the sign that the last one tells closes a group (`Closes`),
--   closed_reads    and the reading is `closing` of the same
use Prim.Native.Nat.{ℕ, suc, ◌+◌, ◌-◌, ◌*◌, ◌%◌, ◌^◌, ◌≤◌, ◌<◌}
use mathlib.Core.Path.{◌≡◌, refl, ap, sym, ◌∙◌}
use mathlib.Core.List.{List}
use mathlib.Core.Bool.{Bool, true, false}
use native.Mathlib.Nat.{mul-sub, mul_comm, mul-add, mul_assoc, mul_left_comm, mul-le-mul_left, pow-succ'}
use native.Mathlib.Numerals.{add-one}
use native.Mathlib.Omega.{arith}
use borrow.Author.Tests.{lt-ltb, le-ltb, le-leb, lt-leb, ltb-true}
use lib.Dec.{ltb}
use lib.IntN.{negsuc}
use lib.ListN.{get_or, take, drop}
use lib.Seq.{length-take-le}
use Rattle.words.specs.Answer.{both}
use Rattle.words.proofs.Cases.{by_order, by_test, both_true}
use Rattle.groups.specs.Group.{digits}
use Rattle.groups.specs.Form.{say}
use Rattle.groups.specs.Width.{read}
use Rattle.groups.proofs.Run.{digits_take, digits_take_below}
use Rattle.groups.proofs.FromWalk.{Closing, closed_large, closed_many, closed_number, closed_digits, closed_below}
use Rattle.sleb128.specs.Signed.{signed, twos, i64}
use Rattle.sleb128.specs.Inner.{saying, closing, Closes}
use Rattle.sleb128.proofs.ClosingRows.{closing_large, closing_many, closing_number, tenth_zero}
use Rattle.sleb128.proofs.Widths.{sound, allowed, one_too_many, pow_seven, half_seven}

saying_below : (b : Bool) (v up : ℕ) → v < up → saying b (up - 1) v < up
saying_below false v up h = h
saying_below true v up h = omega arith

-- bits of weight unit above others say what they say by themselves
saying_above : (b : Bool) (low unit d : ℕ) → low < unit → d < 128
    → saying b (128 * unit - 1) (low + unit * d) ≡ saying b (unit - 1) low + unit * say b d
saying_above false low unit d h l = refl
saying_above true low unit d h l =
    let m : unit * d ≤ unit * 127 = mul-le-mul_left unit (omega arith) in
    omega (arith, mul-sub unit 127 d)

-- low bytes that say low, and a last one that says bits, make up the whole number at their sign
twos_value : (s : Bool) (k sum weight last : ℕ) → weight ≡ 128 ^ k → sum < weight → last < 128 → say s last < 64
    → twos (k + 1) (sum + weight * last) ≡ signed s (saying s (weight - 1) sum + weight * say s last)
unfolding twos
twos_value false k sum weight last e h l b =
    let m : weight * last ≤ weight * 63 = mul-le-mul_left weight (omega arith) in
    rw (half_seven k, ← e, lt-ltb (sum + weight * last) (64 * weight) (omega (arith, mul_comm weight 64)))
twos_value true k sum weight last e h l b =
    let m : weight * 64 ≤ weight * last = mul-le-mul_left weight (omega arith) in
    let n : weight * last ≤ weight * 127 = mul-le-mul_left weight (omega arith) in
    let p : 2 ^ (7 * (k + 1)) ≡ 128 * weight = pow_seven (k + 1) ∙ rw (add-one k, pow-succ' 128 k, e) in
    rw (
      half_seven k,
      p,
      ← e,
      le-ltb (sum + weight * last) (64 * weight) (omega (arith, mul_comm weight 64)),
      lt-ltb (sum + weight * last) (128 * weight) (omega arith),
    )
    (ap negsuc (omega (arith, saying_above true sum weight last h l)))

module _ {s : List ℕ} {at sum weight high last : ℕ} (c : Closing s at sum weight high last) (more : 0 < high) where
  -- the byte before the last
  abbrev before : ℕ
  before = get_or (drop at s) (high - 1) 0

  -- what the high bytes say at the sign b: the last of them weighs unit, and those before it say rest
  record Split (b : Bool) : Type 0 where
    rest : ℕ
    unit : ℕ
    under : rest < unit
    weighs : weight ≡ 128 * unit
    says : saying b (weight - 1) sum ≡ rest + unit * say b (before % 128)

  split : (b : Bool) → Split b
  split b =
      let i : high - 1 + 1 ≡ high = omega arith in
      let j : suc (high - 1) ≡ high = omega arith in
      let low = digits (take (high - 1) (drop at s)) in
      let under : low < 128 ^ (high - 1) = digits_take_below (drop at s) (high - 1) (omega (arith, c.ends)) in
      let weighs : weight ≡ 128 * 128 ^ (high - 1) = c.weighs ∙ (rw j at (pow-succ' 128 (high - 1))) in
      let sums : sum ≡ low + 128 ^ (high - 1) * (before % 128) = c.sums ∙ (rw i at (digits_take (drop at s) (high - 1) (omega (arith, c.ends)))) in
      record {
        rest = saying b (128 ^ (high - 1) - 1) low;
        unit = 128 ^ (high - 1);
        under = saying_below b low (128 ^ (high - 1)) under;
        weighs = weighs;
        says = rw (weighs, sums) (saying_above b low (128 ^ (high - 1)) (before % 128) under (omega arith));
      }

  module _ (b : Bool) (small : say b last < 64) where
    -- what all bytes say, and what the last two say
    abbrev magnitude : ℕ
    magnitude = saying b (weight - 1) sum + weight * say b last

    abbrev two : ℕ
    two = say b (before % 128) + 128 * say b last

    whole : (k : Split b) → magnitude ≡ k.rest + k.unit * two
    whole k =
        omega (
          arith,
          k.says,
          ap (λ (w : ℕ). w * say b last) k.weighs,
          mul_assoc 128 k.unit (say b last),
          mul-add k.unit (say b (before % 128)) (128 * say b last),
          mul_left_comm k.unit 128 (say b last),
        )

    -- so the last two tell whether twice the magnitude is below the weight
    twice_below : two < 64 → magnitude * 2 < weight
    twice_below h = let k = split b in omega (arith, whole k, k.under, k.weighs, mul-le-mul_left k.unit h, mul-add k.unit two 1)

    twice_above : 64 ≤ two → weight ≤ magnitude * 2
    twice_above h = let k = split b in omega (arith, whole k, k.weighs, mul-le-mul_left k.unit h)

    number_value : i64.value (take (high + 1) (drop at s)) ≡ signed b magnitude
    number_value =
        rw (length-take-le (high + 1) (drop at s) (omega (arith, c.ends)), closed_digits c)
        (twos_value b high sum weight last c.weighs (closed_below c) c.low small)

    reads_at : read i64 s at ≡ closing b (saying b (weight - 1) sum) weight high (say b last) (at + high)
    reads_at =
        by_test (both (ltb 8 high) (ltb 0 (say b last)))
        (λ e.
        let t = both_true (ltb 8 high) (ltb 0 (say b last)) e in
        closed_large i64 sound s at c (omega (arith, c.few, ltb-true 8 high t.0))
        (allowed b last c.low small ∙ lt-leb (say b last) 0 (ltb-true 0 (say b last) t.1))
        ∙ sym (closing_large _ _ _ _ _ _ e))
        (λ e.
        let last_allowed : high + 1 ≡ 10 → i64.allowed last ≡ true =
        λ q. allowed b last c.low small ∙ le-leb (say b last) 0 (tenth_zero high (say b last) e (omega arith)) in
        by_order two 64
        (λ l.
        closed_many i64 sound s at c (omega (arith, c.few)) last_allowed more (one_too_many b _ last c.low small ∙ lt-ltb two 64 l)
        ∙ sym (closing_many _ _ _ _ _ _ e (twice_below l)))
        (λ l.
        closed_number i64 sound s at c (omega (arith, c.few)) last_allowed (λ h. one_too_many b _ last c.low small ∙ le-ltb two 64 l)
        ∙ (rw number_value)
        ∙ sym (closing_number _ _ _ _ _ _ e (twice_above l))))

  closes_at : (b : Bool) → say b last < 64 → Closes (saying b (weight - 1) sum) weight high (say b last)
  closes_at b small = record { under = saying_below b sum weight (closed_below c); weighs = c.weighs; few = c.few; small = small }

  -- the sign that the last byte tells
  pub closed_closes : Closes (saying (ltb 63 last) (weight - 1) sum) weight high (saying (ltb 63 last) 127 last)
  closed_closes =
      by_order 63 last (λ h. rw (lt-ltb 63 last h) (closes_at true (omega arith))) (λ h. rw (le-ltb 63 last h) (closes_at false (omega arith)))

  pub closed_reads : read i64 s at ≡ closing (ltb 63 last) (saying (ltb 63 last) (weight - 1) sum) weight high (saying (ltb 63 last) 127 last) (at + high)
  closed_reads =
      by_order 63 last (λ h. rw (lt-ltb 63 last h) (reads_at true (omega arith))) (λ h. rw (le-ltb 63 last h) (reads_at false (omega arith)))
