-- The values at which a number grows by a byte.
--
--   growth_values   they are document 01's nine
use Prim.Native.Nat.{ℕ, ◌+◌, ◌-◌, ◌^◌, ◌≤◌, ◌<◌}
use mathlib.Core.Path.{◌≡◌, refl, sym, ◌∙◌}
use native.Mathlib.Omega.{arith}
use lib.ListN.{length}
use Rattle.words.proofs.Cases.{by_order}
use Rattle.groups.proofs.Run.{pow_up}
use Rattle.groups.proofs.Lookup.{pow_more, growth_at_lem}
use Rattle.uleb128.specs.Unsigned.{form}
use Rattle.uleb128.proofs.Forms.{form_some, form_short, form_long}
use Rattle.claims.specs.OfNumbers.{Grows, GrowthValues}

-- 128 to the k + 1 is the least number that takes k + 2 bytes
grows : (k : ℕ) → Grows (k + 2) (128 ^ (k + 1))
grows k =
    let g = 128 ^ (k + 1) in
    let some : 1 ≤ 128 ^ k = pow_up 0 k (omega arith) in
    record {
      takes = omega (arith, form_long g (k + 1) (omega arith), form_short g (k + 1) (omega (arith, pow_more k, pow_more (k + 1))));
      before = omega (arith, form_long (g - 1) k (omega (arith, pow_more k)), form_short (g - 1) k (omega (arith, pow_more k)));
      least = λ v h. omega (arith, form_short v k h);
    }

-- and no other number takes k + 2 bytes and one more than the number before it
grown : (v k : ℕ) → length (form (v - 1)) ≡ k + 1 → length (form v) ≡ k + 2 → v ≡ 128 ^ (k + 1)
grown v k before now =
    by_order v (128 ^ (k + 1)) (λ l. absurd (omega (arith, form_short v k l)))
    (λ l. by_order (v - 1) (128 ^ (k + 1)) (λ m. omega arith) (λ m. absurd (omega (arith, form_long (v - 1) (k + 1) m))))

pub growth_values : GrowthValues
growth_values = record {
  nine = refl;
  of_width = λ i h. rw (growth_at_lem i h) (omega (arith, pow_up (i + 1) 9 (omega arith)));
  each = λ i h. rw (growth_at_lem i h) (grows i);
  no_other = λ v h more.
      let k = length (form (v - 1)) - 1 in
      let few : k < 9 = omega (arith, form_some (v - 1), form_short v 9 (omega arith)) in
      (k, few, grown v k (omega (arith, form_some (v - 1))) (omega (arith, form_some (v - 1))) ∙ sym (growth_at_lem k few));
}
