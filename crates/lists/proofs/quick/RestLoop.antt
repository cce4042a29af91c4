-- The numbers from a place on, stored one by one: what the loop holds.
--
--   Poured s from n out at i   of the n numbers from the place from on, the first i are those of out, and the others are left from at on
--   none_poured                at first none are
--   one_poured                 a number that was read is one more when it is stored
--   not_refused                no reading is refused
--   all_poured                 at the end all are
use Prim.Native.Nat.{ℕ, ◌+◌, ◌-◌, ◌≤◌, ◌<◌}
use mathlib.Core.Path.{◌≡◌, refl, ap, sym, ◌∙◌}
use mathlib.Core.List.{List, [], ◌∷◌, ◌++◌, append_assoc, append-nil}
use native.Mathlib.Nat.{sub-zero}
use native.Mathlib.Omega.{arith}
use lib.ListN.{length, take, drop, set}
use Rattle.std.proofs.lemmas.List.{nil_from_length, take_all, take_more_set}
use Rattle.words.specs.Answer.{Answer, gives, refused, Why}
use Rattle.words.proofs.Moved.{moved_gave}
use Rattle.groups.specs.Width.{reading, read}
use Rattle.groups.proofs.Rows.{read_from}
use Rattle.uleb128.specs.Unsigned.{u64}
use Rattle.lists.specs.InnerLeft.{Left}
use Rattle.lists.specs.InnerHalves.{RestFits, RestStored}
use Rattle.lists.proofs.quick.Front.{left_within, front, front_read, same_list}

pub record Poured (s : List ℕ) (from n : ℕ) (out : List ℕ) (at i : ℕ) : Type 0 where
  pub fits : RestFits s at (n - i)
  pub same : (to : ℕ) (vs : List ℕ) → Left s to from vs → length vs ≡ n → vs ≡ take i out ++ fits.vs

pub none_poured : {s : List ℕ} {from n : ℕ} (out : List ℕ) → RestFits s from n → Poured s from n out from 0
none_poured {n = n} out f = record {
  fits = record { to = f.to; vs = f.vs; left = f.left; within = f.within; many = f.many ∙ sym (sub-zero n) };
  same = λ to vs l e. same_list l f.left (omega (arith, f.many));
}

module _ {s : List ℕ} {from n : ℕ} {out : List ℕ} {at i : ℕ} (g : Poured s from n out at i) where
  pub all_poured : length out ≡ n → n ≤ i → RestStored s from out
  all_poured h l =
      let none : g.fits.vs ≡ [] = nil_from_length g.fits.vs (omega (arith, g.fits.many)) in
      λ to vs k e. sym (g.same to vs k (e ∙ h) ∙ rw (none, take_all i out (omega arith)) (append-nil out))

  module _ (here : i < n) where
    some_there : at < g.fits.to
    some_there = omega (arith, left_within g.fits.left, g.fits.many)

    inside : at ≤ length s
    inside = omega (arith, some_there, g.fits.within)

    pub not_refused : {X : Type 0} {k : Why} → refused k ≡ read u64 s at → X
    not_refused {k = k} q =
        let f = front g.fits.left some_there in
        let r : ◌≡◌ {A = Answer (ℕ × ℕ)} (refused k) (gives (f.0, f.1)) = q ∙ read_from u64 s at inside f.2 in
        let z : ◌≡◌ {A = ℕ} 0 1 = cc in absurd (omega arith)

    pub one_poured : {v m : ℕ} → gives (v, m) ≡ read u64 s at → i < length out → (at + m ≤ length s) × Poured s from n (set out i v) (at + m) (i + 1)
    one_poured {v} {m} q room =
        let e : reading u64 (drop at s) ≡ gives (v, m) = moved_gave at (reading u64 (drop at s)) (sym (read_from u64 s at inside refl) ∙ sym q) in
        let f = front_read g.fits.left some_there e in
        let p = g.fits in (
          omega (arith, left_within f.left, p.within),
          record {
            fits = record { to = p.to; vs = f.rest; left = f.left; within = p.within; many = omega (arith, ap length f.is, p.many) };
            same = λ to vs l k. g.same to vs l k ∙ ap (λ (x : List ℕ). take i out ++ x) f.is
                ∙ rw (take_more_set out i v room) (sym (append_assoc (take i out) (v ∷ []) f.rest));
          },
        )
