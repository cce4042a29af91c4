-- Storing the halves of the even numbers.
--
--   count_halves                 there are as many as even numbers
--   Stored s out at filled       those of the numbers in front of the place at stand in front of the place filled, and the slice just has room for all
--   none_stored, next_stored     at first none are stored, and with each even number one more; what an odd one stores, the next even one stores over
--   all_seen                     behind the last number the slice is full
--   all_stored                   where it is full, all are stored
use Rattle.std.specs.List.{count_by, filter}
use Rattle.std.proofs.Common.{◌≡◌, ℕ, ◌+◌, ◌-◌, ◌/◌, ◌%◌, ◌<◌, ◌≤◌, List, [], ◌∷◌, ◌++◌, length, get_or, take, drop, set, refl, ap, sym, ◌∙◌, arith, zero-add, append-nil}
use Rattle.std.proofs.Math.ListN.{length-set, drop_of_length-le}
use Rattle.std.proofs.Math.Seq.{take-length}
use Rattle.std.proofs.lemmas.List.{length-map, map-append, take_more, drop_more, take-append-drop, nil_from_length, take-set, take_more_set}
use Rattle.std.proofs.lemmas.List.Elements.{filter-append}
use Rattle.std.proofs.lemmas.List.Sums.{length-filter}
use Rattle.words.proofs.Cases.{by_order}
use Rattle.phrases.specs.Inner.{even, halves}

pub count_halves : (s : List ℕ) → length (halves s) ≡ count_by even s
unfolding halves
count_halves s = length-map (filter even s) (λ n. n / 2) ∙ length-filter even s

halves_both : (a b : List ℕ) → halves (a ++ b) ≡ halves a ++ halves b
unfolding halves
halves_both a b = rw (filter-append even a b) (map-append (λ n. n / 2) (filter even a) (filter even b))

even_alone : (n : ℕ) → n % 2 ≡ 0 → halves (n ∷ []) ≡ n / 2 ∷ []
unfolding halves
even_alone n h = simp h

odd_alone : (n : ℕ) → n % 2 ≡ 1 → halves (n ∷ []) ≡ []
unfolding halves
odd_alone n h = simp h

halves_more : (s : List ℕ) (at : ℕ) → at < length s → halves (take (at + 1) s) ≡ halves (take at s) ++ halves (get_or s at 0 ∷ [])
halves_more s at h = rw (take_more s at 0 h) (halves_both (take at s) (get_or s at 0 ∷ []))

no_halves : halves [] ≡ []
unfolding halves
no_halves = refl

pub record Stored (s out : List ℕ) (at filled : ℕ) : Type 0 where
  pub front : take filled out ≡ halves (take at s)
  pub room : filled + length (halves (drop at s)) ≡ length out

pub none_stored : (s out : List ℕ) → length out ≡ count_by even s → Stored s out 0 0
none_stored s out h = record { front = sym no_halves; room = zero-add (length (halves s)) ∙ count_halves s ∙ sym h }

module _ (s out : List ℕ) {at filled : ℕ} (g : Stored s out at filled) where
  pub all_stored : filled ≡ length out → out ≡ halves s
  all_stored h =
      let none : halves (drop at s) ≡ [] = nil_from_length (halves (drop at s)) (omega (arith, g.room)) in
      let all : halves s ≡ halves (take at s) = ap halves (sym (take-append-drop at s)) ∙ halves_both (take at s) (drop at s) ∙ rw none (append-nil (halves (take at s))) in
      sym (take-length out) ∙ rw (← h) g.front ∙ sym all

  pub all_seen : length s ≤ at → filled ≡ length out
  all_seen h = let none : halves (drop at s) ≡ [] = rw (drop_of_length-le s h) no_halves in omega (arith, g.room, ap length none)

  module _ (h : at < length s) (l : filled < length out) where
    left : halves (drop at s) ≡ halves (get_or s at 0 ∷ []) ++ halves (drop (at + 1) s)
    left = ap halves (drop_more s at 0 h) ∙ halves_both (get_or s at 0 ∷ []) (drop (at + 1) s)

    pub next_stored : Stored s (set out filled (get_or s at 0 / 2)) (at + 1) (filled + (1 - get_or s at 0 % 2))
    next_stored =
        let n = get_or s at 0 in
        let more = halves_more s at h in
        by_order (n % 2) 1
        (λ i.
        let k : filled + (1 - n % 2) ≡ filled + 1 = omega arith in
        let one = even_alone n (omega arith) in
        record {
          front = rw (k, take_more_set out filled (n / 2) l, g.front, more, one) refl;
          room = simp length-set (let q = ap length (rw one at left) in omega (arith, g.room));
        })
        (λ i.
        let k : filled + (1 - n % 2) ≡ filled = omega arith in
        let one = odd_alone n (omega arith) in
        record {
          front = rw (k, take-set out filled (n / 2), g.front, more, one) (sym (append-nil (halves (take at s))));
          room = simp length-set (let q = ap length (rw one at left) in omega (arith, g.room));
        })
