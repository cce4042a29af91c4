-- Each answer of a step exactly when its row holds.
--
--   says_group      where a group stands, a step says what is said of the group
--   step_row_kept   where its row holds, an answer is a step's
--   some_step_row   in a block of bytes one of the rows holds
--   step_rows       there an answer is a step's exactly where its row holds
use Prim.Native.Nat.{ℕ, ◌+◌, ◌-◌, ◌≤◌, ◌<◌}
use mathlib.Core.Path.{◌≡◌, refl, ap, sym, ◌∙◌}
use mathlib.Core.List.{List}
use mathlib.Core.Logic.{◌↔◌}
use native.Mathlib.Omega.{arith}
use lib.ListN.{length, drop, length-drop}
use Rattle.std.specs.Prelude.{Result, Ok, Err}
use Rattle.words.specs.Answer.{Answer, gives, refused, because_at, moved}
use Rattle.words.specs.declared.Count.{Count}
use Rattle.words.specs.declared.Place.{Place}
use Rattle.words.specs.declared.Refusal.{Refusal}
use Rattle.words.specs.declared.Refusal.TheVariants as W
use Rattle.words.proofs.Cases.{by_order, by_test, clash}
use Rattle.words.proofs.OneMeaning.{by_rows}
use Rattle.groups.specs.Group.{Bytes}
use Rattle.groups.specs.Width.{Width, reading}
use Rattle.groups.specs.declared.Value.TheVariants as N
use Rattle.groups.proofs.Rows.{reading_cases}
use Rattle.uleb128.specs.Unsigned.{u64}
use Rattle.sleb128.specs.Signed.{i64}
use Rattle.blocks.specs.Block.{is_start_lem, Val, unsigned, signed, Stepped, number, gap, valued, read_by, says, says_by, stepping, block_limit}
use Rattle.blocks.specs.Promise.{means_value, Steps}
use Rattle.blocks.specs.GroupsAndTail.{Start, GroupAt, TailAt}
use Rattle.blocks.specs.Rows.{GroupReads, StepRefused, StepRow}
use Rattle.blocks.specs.Rows.StepRefused.{too_long, past, not_a_start}
use Rattle.blocks.specs.declared.Cursor.{Cursor}
use Rattle.blocks.specs.declared.Rule.{Rule}
use Rattle.blocks.specs.declared.Rule.TheVariants.{Unsigned, Signed}
use Rattle.blocks.specs.declared.Step.{Step}
use Rattle.blocks.specs.declared.Step.TheVariants as S
use Rattle.blocks.proofs.Rows.{step_too_long, step_past, step_finished, step_not_a_start}
use Rattle.blocks.proofs.FromStart.{start_true, true_start, AtStart, the_end, a_tail, a_group, from_start, tail_says, group_says, group_here, here_group}
use Rattle.blocks.proofs.OneStep.{same_step}

-- a number or a gap over n bytes, and the cursor at q
abbrev says_to : Answer Val → ℕ → ℕ → Stepped
says_to (gives v) n q = number v n q
says_to (refused k) n q = gap k n q

to_says : (a : Answer Val) (n p : ℕ) → says_to a n (p + n) ≡ says a n p
to_says (gives v) n p = refl
to_says (refused k) n p = refl

module _ (rule : Rule) (s : List ℕ) (p : ℕ) where
  pub says_group : (g : List ℕ) → length s ≤ block_limit → GroupAt s p g → says_by rule g p ≡ stepping rule s p
  says_group g f k = sym (group_says (group_here k) rule f k.start)

  -- what a group's reading makes a step say
  said : {a : Answer Val} {n q : ℕ} (k : GroupReads rule s p a n q) → says_to (moved p a) n q ≡ says_by rule k.group p
  said k = rw (k.count, k.next, ← k.reads) (to_says (moved p (read_by rule k.group)) (length k.group) p)

  -- where its row holds, an answer is a step's
  refused_row : (why : Refusal) → StepRefused s p why → Steps rule s p (Err why)
  refused_row _ (too_long h) = step_too_long rule s p h
  refused_row _ (past f h) = step_past rule s p f h
  refused_row _ (not_a_start f h not) =
      by_test (is_start_lem s p) (λ t. absurd (not (true_start s p (omega (arith, h)) t))) (λ t. step_not_a_start rule s p f h t)

  pub step_row_kept : (r : Result Step Refusal) → StepRow rule s p r → Steps rule s p r
  step_row_kept (Err why) h = refused_row why h
  step_row_kept (Ok (S.Finished c)) h = step_finished rule s p h.0 c h.2 (omega (arith, h.1)) (omega (arith, h.1))
  step_row_kept (Ok (S.Tail n c)) h =
      let k : TailAt s p = h.1 in
      let count : n.0 ≡ length (drop p s) = omega (arith, length-drop p s, h.2) in
      record { is = rw (count, h.3) (sym (tail_says k rule h.0)) }
  step_row_kept (Ok (S.Number v n c)) h =
      let k : GroupReads rule s p (gives (means_value v)) n.0 c.place.0 = h.1 in
      record { is = said k ∙ says_group k.group h.0 k.stands }
  step_row_kept (Ok (S.Gap fault n c)) h =
      let k : GroupReads rule s p (refused (because_at fault.0 h.1)) n.0 c.place.0 = h.3 in
      record { is = ap (λ (i : ℕ). gap (because_at fault.0 i) n.0 c.place.0) h.2 ∙ said k ∙ says_group k.group h.0 k.stands }

-- a group's reading is one that an answer can tell
heard : {A X : Type 0} (f : A → Val) (w : Width A) (g : List ℕ) → ((v : A) → valued f (reading w g) ≡ gives (f v) → X)
    → ((why : Refusal) (j : ℕ) → valued f (reading w g) ≡ refused (because_at why j) → X) → X
heard f w g value fault = reading_cases w g (λ v n e. value v (ap (valued f) e)) (λ why j e. fault why j (ap (valued f) e))

abbrev count : ℕ → Count
count n = record { 0 = n }

abbrev place : ℕ → Place
place p = record { 0 = p }

abbrev cursor : ℕ → Cursor
cursor q = record { place = record { 0 = q } }

module _ (s : List ℕ) (p : ℕ) (f : length s ≤ block_limit) (g : List ℕ) (k : GroupAt s p g) where
  reads : (rule : Rule) (a : Answer Val) → read_by rule g ≡ a → GroupReads rule s p a (length g) (p + length g)
  reads rule a e = record { group = g; stands = k; reads = e; count = refl; next = refl }

  row_of_group : (rule : Rule) → (r : Result Step Refusal) × StepRow rule s p r
  row_of_group Unsigned =
      heard unsigned u64 g (λ v e. (Ok (S.Number (N.Unsigned v) (count (length g)) (cursor (p + length g))), (f, reads Unsigned (gives (unsigned v)) e)))
      (λ why j e. (Ok (S.Gap (record { 0 = why; 1 = (place (p + j)) }) (count (length g)) (cursor (p + length g))), (f, j, refl, reads Unsigned (refused (because_at why j)) e)))
  row_of_group Signed =
      heard signed i64 g (λ v e. (Ok (S.Number (N.Signed v) (count (length g)) (cursor (p + length g))), (f, reads Signed (gives (signed v)) e)))
      (λ why j e. (Ok (S.Gap (record { 0 = why; 1 = (place (p + j)) }) (count (length g)) (cursor (p + length g))), (f, j, refl, reads Signed (refused (because_at why j)) e)))

-- one of the rows holds
module _ (rule : Rule) (s : List ℕ) (p : ℕ) where
  pub some_step_row : Bytes s → (r : Result Step Refusal) × StepRow rule s p r
  some_step_row bytes =
      by_order block_limit (length s) (λ h. (Err W.TooLong, too_long h))
      (λ f.
      by_order (length s) p (λ h. (Err W.Place, past f h))
      (λ h.
      by_order p (length s) (within f)
      (λ l. (Ok (S.Finished (cursor p)), (f, omega arith, refl)))))
    where
      standing : length s ≤ block_limit → p < length s → Start s p → AtStart s p → (r : Result Step Refusal) × StepRow rule s p r
      standing f h k (the_end e) = absurd (omega arith)
      standing f h k (a_tail t) = (Ok (S.Tail (count (length s - p)) (cursor p)), (f, t, omega arith, refl))
      standing f h k (a_group g here) = row_of_group s p f g (here_group here bytes k) rule

      within : length s ≤ block_limit → p < length s → (r : Result Step Refusal) × StepRow rule s p r
      within f h =
          by_test (is_start_lem s p) (λ t. let k = true_start s p (omega arith) t in standing f h k (from_start k))
          (λ t. (Err W.NotAStart, not_a_start f h (λ k. clash t (start_true k))))

pub step_rows : (rule : Rule) (s : List ℕ) (p : ℕ) (r : Result Step Refusal) → Bytes s → Steps rule s p r ↔ StepRow rule s p r
step_rows rule s p r bytes = by_rows (λ r r' a b. same_step r r' (a.is ∙ sym b.is)) (step_row_kept rule s p) (some_step_row rule s p bytes) r
