-- What `item` and `items` answer, return by return.
--
--   at_end, at_leaf, at_bottom, at_branch, at_empty   the answers of `item`
--   ItemsLeft d k s first at done                     the k items from the place first on are done many up to the place at, and the others, that end
--                                                     where all do
--   none_done, one_done                               at first none are done, and with each item one more
--   all_done, no_item_left                            the answers of `items`
use native.Mathlib.Nat.{sub-zero}
use lib.ListN.{drop_of_length-le}
use lib.Seq.{drop-cons}
use Rattle.std.proofs.Common.{◌≡◌, ℕ, suc, ◌+◌, ◌-◌, ◌/◌, ◌%◌, ◌<◌, ◌≤◌, ◌↔◌, List, ◌∷◌, Option, Some, None, length, get_or, drop, add-one, arith}
use Rattle.phrases.specs.Inner.{OneAhead, SomeAhead, Passes, found, missed}
use Rattle.phrases.proofs.Ahead.{nothing_ahead, leaf_ahead, too_deep, branch_ahead, ahead_branch, none_ahead, more_ahead, ahead_more, no_first}

pub at_end : {d : ℕ} (s : List ℕ) {at : ℕ} → length s ≤ at → Passes (OneAhead d) s at None
at_end s h = missed (λ r x. nothing_ahead (rw (drop_of_length-le s h) at x))

-- n is the number at the place
module _ (s : List ℕ) {at n : ℕ} (h : at < length s) (e : n ≡ get_or s at 0) where
  ahead : drop at s ≡ n ∷ drop (at + 1) s
  ahead = rw (e, add-one at) (drop-cons s at 0 h)

  pub at_leaf : {d : ℕ} → n % 2 < 1 → Passes (OneAhead d) s at (Some (at + 1))
  at_leaf even = found (omega arith) (rw (ahead) (leaf_ahead n even))

  pub at_bottom : {d : ℕ} → 1 ≤ n % 2 → d ≡ 0 → Passes (OneAhead d) s at None
  at_bottom odd z = missed (λ r x. too_deep odd (rw (ahead, z) at x))

  -- a branch ends where its items do
  pub at_branch : {d inside : ℕ} {r : Option ℕ} → 1 ≤ n % 2 → d ≡ suc inside → Passes (SomeAhead inside (n / 2)) s (at + 1) r → Passes (OneAhead d) s at r
  at_branch odd i (found w x) = found w (rw (ahead, i) (branch_ahead odd x))
  at_branch odd i (missed f) = missed (λ r y. f r (ahead_branch odd (rw (ahead, i) at y)))

  pub at_empty : {d inside : ℕ} → 1 ≤ n % 2 → d ≡ suc inside → n / 2 ≡ 0 → Passes (OneAhead d) s at (Some (at + 1))
  at_empty odd i none = at_branch odd i (found (omega arith) (rw none none_ahead))

pub record ItemsLeft (d k : ℕ) (s : List ℕ) (first at done : ℕ) : Type 0 where
  pub within : at ≤ length s
  pub same : (r : List ℕ) → SomeAhead d (k - done) (drop at s) r ↔ SomeAhead d k (drop first s) r

pub none_done : (d k : ℕ) (s : List ℕ) (first : ℕ) → first ≤ length s → ItemsLeft d k s first first 0
none_done d k s first h = record { within = h; same = λ r. (λ x. rw sub-zero at x, λ x. rw sub-zero x) }

module _ {d k : ℕ} {s : List ℕ} {first at done : ℕ} (g : ItemsLeft d k s first at done) where
  pub all_done : k ≤ done → Passes (SomeAhead d k) s first (Some at)
  all_done h = let e : k - done ≡ 0 = omega arith in found g.within ((g.same (drop at s)).0 (rw e none_ahead))

  module _ (h : done < k) where
    one_less : k - done ≡ suc (k - (done + 1))
    one_less = omega arith

    pub one_done : {to : ℕ} → Passes (OneAhead d) s at (Some to) → ItemsLeft d k s first to (done + 1)
    one_done (found i y) =
        record { within = i; same = λ r. (λ z. (g.same r).0 (rw one_less (more_ahead y z)), λ z. ahead_more y (rw one_less at ((g.same r).1 z))) }

    pub no_item_left : Passes (OneAhead d) s at None → Passes (SomeAhead d k) s first None
    no_item_left (missed f) = missed (λ r z. no_first f (rw one_less at ((g.same r).1 z)))
