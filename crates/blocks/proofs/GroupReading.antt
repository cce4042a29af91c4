-- What a reader of numbers says at a start before the end of a block, and what a step then says there.
--
--   reads_number                where the reading is a number, a step says it, with its count of bytes
--   reads_none                  where it is refused, a step says what is `missing`
--   decided_high                and all bytes before the one that decided it are 128 or more
--   reads_one                   at a byte below 128, a step says the number of that byte alone
--   one_unsigned                the number of one byte below 128, by the unsigned rule,
--   one_above, one_below        and by the signed rule: below 64 the byte itself, else below zero
--   decided_inside, run_ends    the byte that decided a refusal, and the end of the run from there on, stand behind the start and within the block
--   missing_tail, missing_gap   what is missing, by the run from the byte that decided it on: a tail where it ends with the block, else a gap
use Prim.Native.Nat.{ℕ, suc, ◌+◌, ◌-◌, ◌≤◌, ◌<◌}
use mathlib.Core.Path.{◌≡◌, refl, ap, sym, ◌∙◌}
use mathlib.Core.List.{List, [], ◌∷◌}
use native.Mathlib.Omega.{arith}
use borrow.Author.Tests.{eq-eqb, ne_eqb}
use lib.IntN.{ℤ, pos, negsuc}
use lib.ListN.{length, get_or, take, drop, length-drop}
use lib.Seq.{get_or-drop, drop-drop, drop-cons, length-take-le}
use Rattle.std.specs.List.{take_while, slice_range}
use Rattle.words.specs.Answer.{Answer, gives, refused, Why, because_at, moved}
use Rattle.words.specs.declared.Refusal.{Refusal}
use Rattle.words.proofs.Cases.{by_order}
use Rattle.bits.specs.Macros.{is_high_8_bit_set_lem}
use Rattle.groups.specs.Group.{Bytes, run}
use Rattle.groups.specs.Width.{Width, reading, read}
use Rattle.groups.proofs.Run.{run_low, run_within, run_drop}
use Rattle.groups.proofs.OneByte.{digits_one, reading_one}
use Rattle.groups.proofs.Rows.{read_from, read_decided}
use Rattle.groups.proofs.FromWalk.{Sound}
use Rattle.groups.proofs.Stands.{read_stands, stands_through, reading_alone}
use Rattle.uleb128.specs.Unsigned.{u64}
use Rattle.sleb128.specs.Signed.{i64}
use Rattle.sleb128.proofs.Widths as S
use Rattle.blocks.specs.Block.{Val, unsigned, signed, Stepped, number, gap, tail, valued, read_by, says}
use Rattle.blocks.specs.Inner.{standing, missing, InRun}
use Rattle.blocks.specs.declared.Rule.{Rule}
use Rattle.blocks.specs.declared.Rule.TheVariants.{Unsigned, Signed}
use Rattle.blocks.proofs.HighRun.{run_taken, run_inside}

valued_moved : {A : Type 0} (f : A → Val) (n : ℕ) (a : Answer (A × ℕ)) → valued f (moved n a) ≡ moved n (valued f a)
valued_moved f n (gives v) = refl
valued_moved f n (refused k) = refl

module _ (s : List ℕ) (p : ℕ) where
  -- a rule's width, and how its numbers are told
  module _ (bytes : Bytes s) {A : Type 0} (rule : Rule) (f : A → Val) (w : Width A) (is : (g : List ℕ) → read_by rule g ≡ valued f (reading w g)) where
    -- a group read where it stands is read as it is alone
    group_says : p + run (drop p s) < length s → standing rule s p ≡ says (valued f (read w s p)) (run (drop p s) + 1) p
    unfolding standing
    group_says h =
        let g = take (run (drop p s) + 1) (drop p s) in
        let ne : run (drop p s) ≡ length (drop p s) → ⊥ = λ e. omega (arith, length-drop p s) in
        let from : Bytes (drop p s) = λ i. rw (get_or-drop p s i 0) (bytes (p + i)) in
        let whole : valued f (read w s p) ≡ moved p (valued f (reading w g)) =
        ap (valued f) (read_from w s p (omega arith) (reading_alone w (drop p s) from (omega (arith, length-drop p s)))) ∙ valued_moved f p (reading w g) in
        rw (ne_eqb (run (drop p s)) (length (drop p s)) ne, is g, length-take-le (run (drop p s) + 1) (drop p s) (omega (arith, length-drop p s)), whole)

    pub reads_number : Sound w → {v : A} {n : ℕ} → read w s p ≡ gives (v, n) → (p + n ≤ length s) × (standing rule s p ≡ number (f v) n (p + n))
    reads_number sound e =
        let through = stands_through (read_stands w s p sound bytes e) in
        (omega (arith, through), group_says through.1 ∙ rw (e, through.0))

    none_says : p ≤ length s → {k : Why} → read w s p ≡ refused k → standing rule s p ≡ missing s p k
    unfolding standing missing
    none_says here e =
        by_order (run (drop p s)) (length (drop p s))
        (λ l.
        let ne : run (drop p s) ≡ length (drop p s) → ⊥ = λ q. omega arith in
        group_says (omega (arith, length-drop p s)) ∙ rw (e, ne_eqb (run (drop p s)) (length (drop p s)) ne))
        (λ l. let all : run (drop p s) ≡ length (drop p s) = omega (arith, run_within (drop p s)) in rw (eq-eqb (run (drop p s)) (length (drop p s)) all))

    pub reads_none : p ≤ length s → {k : Why} → read w s p ≡ refused k → {said : Stepped} → said ≡ missing s p k → said ≡ standing rule s p
    reads_none here e q = q ∙ sym (none_says here e)

  pub decided_high : {A : Type 0} (w : Width A) → p ≤ length s → (why : Refusal) (q : ℕ) → read w s p ≡ refused (because_at why q) → InRun s p q
  decided_high w here why q e = let d = read_decided w s p here why q e in record { here = here; from = d.0; high = d.1 }

  pub reads_one : (rule : Rule) {v : Val} → p < length s → get_or s p 0 < 128 → gives v ≡ read_by rule (get_or s p 0 ∷ []) → number v 1 (p + 1) ≡ standing rule s p
  unfolding standing
  reads_one rule here low e =
      let b = get_or s p 0 in
      let z : run (b ∷ drop (suc p) s) ≡ 0 = run_low b (drop (suc p) s) low in
      let ne : 0 ≡ length (b ∷ drop (suc p) s) → ⊥ = λ a. omega arith in
      rw (drop-cons s p 0 here, z, ne_eqb 0 (length (b ∷ drop (suc p) s)) ne, ← e)

-- the number of one byte
pub one_unsigned : (b : ℕ) → b < 128 → gives (unsigned b) ≡ read_by Unsigned (b ∷ [])
one_unsigned b low = sym (ap (valued unsigned) (reading_one u64 (omega arith) b [] low) ∙ rw (digits_one b low))

one_signed : (b : ℕ) → b < 128 → {v : ℤ} → i64.value (b ∷ []) ≡ v → gives (signed v) ≡ read_by Signed (b ∷ [])
one_signed b low e = sym (ap (valued signed) (reading_one i64 (omega arith) b [] low) ∙ rw e)

pub one_above : (b : ℕ) → b < 64 → gives (signed (pos b)) ≡ read_by Signed (b ∷ [])
one_above b h = one_signed b (omega arith) (S.one_above b h)

pub one_below : (b : ℕ) → 64 ≤ b → b < 128 → gives (signed (negsuc (127 - b))) ≡ read_by Signed (b ∷ [])
one_below b h low = one_signed b low (S.one_below b h low)

pub decided_inside : {s : List ℕ} {p q : ℕ} → InRun s p q → q ≤ length s
decided_inside {s} {p} r = omega (arith, r.high, run_inside s p r.here)

-- the run from the byte that decided it on
module _ {s : List ℕ} {p q more : ℕ} (r : InRun s p q) (e : more ≡ length (take_while is_high_8_bit_set_lem (slice_range s q (length s)))) where
  run_on : q + more ≡ p + run (drop p s)
  run_on =
      let j : p + (q - p) ≡ q = omega (arith, r.from) in
      let d : drop (q - p) (drop p s) ≡ drop q s = drop-drop (q - p) p s ∙ rw j in
      omega (arith, r.from, run_drop (drop p s) (q - p) (omega (arith, r.high)), ap run d, e ∙ run_taken s q)

  pub run_ends : (p ≤ q + more) × (q + more ≤ length s)
  run_ends = (omega (arith, r.from), omega (arith, run_on, run_inside s p r.here))

  pub missing_tail : {n : ℕ} (k : Why) → n ≡ q + more - p → length s ≤ q + more → tail n p ≡ missing s p k
  unfolding missing
  missing_tail {n} k d h =
      let all : run (drop p s) ≡ length (drop p s) = omega (arith, run_on, run_within (drop p s), length-drop p s) in
      let e : n ≡ run (drop p s) = omega (arith, run_on) in
      rw (e, eq-eqb (run (drop p s)) (length (drop p s)) all)

  pub missing_gap : {n c : ℕ} {k : Why} → n ≡ q + more - p → c ≡ p + (n + 1) → q + more < length s → gap k (n + 1) c ≡ missing s p k
  unfolding missing
  missing_gap {n} d f h =
      let ne : run (drop p s) ≡ length (drop p s) → ⊥ = λ a. omega (arith, run_on, length-drop p s) in
      let e : n ≡ run (drop p s) = omega (arith, run_on) in
      rw (f, e, ne_eqb (run (drop p s)) (length (drop p s)) ne)
