-- Each answer of strict reading exactly when its row holds, and the slice afterwards.
--
--   strict_row_kept   where its row holds, an answer with its slice is strict reading's
--   some_strict_row   in a block of bytes one of the rows holds
--   strict_rows       there an answer with its slice is strict reading's exactly where its row holds
use Prim.Native.Nat.{ℕ, suc, ◌≤◌}
use mathlib.Core.Path.{◌≡◌, refl, ap, sym, ◌∙◌}
use mathlib.Core.List.{List, ◌++◌}
use mathlib.Core.Logic.{◌↔◌}
use native.Mathlib.Omega.{arith}
use lib.ListN.{length, drop}
use Rattle.std.specs.Prelude.{Result, Ok, Err}
use Rattle.words.specs.Answer.{Answer, gives}
use Rattle.words.specs.declared.Refusal.{Refusal}
use Rattle.words.specs.declared.Refusal.TheVariants.{NoRoom, TooLong}
use Rattle.words.proofs.Cases.{by_order}
use Rattle.words.proofs.OneMeaning.{same_both, by_rows}
use Rattle.groups.specs.Group.{Bytes}
use Rattle.blocks.specs.Block.{block_limit}
use Rattle.lists.specs.Strict.{numbers}
use Rattle.lists.specs.Promise.{ReadsStrict}
use Rattle.lists.specs.declared.NotRead.TheVariants as L
use Rattle.lists.specs.declared.Numbers.{Numbers}
use Rattle.lists.specs.declared.NotRead.{NotRead}
use Rattle.lists.proofs.StrictAnswers.{block_too_long, block_faulty, slice_full}
use Rattle.lists.proofs.OneList.{same_list}
use Rattle.claims.specs.OfLists.{StrictRefused, StrictRow}
use Rattle.claims.specs.OfLists.StrictRefused.{too_long, no_room}
use Rattle.claims.proofs.ListBack.{numbers_forms, strict_fills}
use Rattle.claims.proofs.FirstFault.{Outcome, all, broken, outcome, first_fault}

module _ (s old : List ℕ) where
  -- where its row holds, an answer with its slice is strict reading's
  refused_row : (why : Refusal) → StrictRefused s (length old) why → ReadsStrict s old (Err (L.Refused why)) old
  refused_row _ (too_long h) = block_too_long s old h
  refused_row _ (no_room short ns k h) =
      let e : numbers 0 s ≡ gives ns = ap (numbers 0) k.0 ∙ numbers_forms 0 ns k.1 in
      slice_full s old {n = length ns} short (rw e) h

  pub strict_row_kept : (x : Result Numbers NotRead × List ℕ) → StrictRow s old x.0 x.1 → ReadsStrict s old x.0 x.1
  strict_row_kept (Err (L.Refused why), out) h = rw h.1 (refused_row why h.0)
  strict_row_kept (Err (L.Faulty fault), out) h = rw h.2 (block_faulty s old h.0 (rw (first_fault s fault.1.0 fault.0 h.1)))
  strict_row_kept (Ok n, out) h =
      let ns = h.1 in
      let q = strict_fills s ns old h.0 (ap (numbers 0) h.2.0 ∙ numbers_forms 0 ns h.2.1) h.3 in
      record { answer = rw h.4 (sym q.0); leaves = h.5 ∙ sym q.1 }

  -- one of the rows holds
  by_outcome : {a : Answer (List ℕ)} → length s ≤ block_limit → Outcome 0 s a → (x : Result Numbers NotRead × List ℕ) × StrictRow s old x.0 x.1
  by_outcome short (broken why p k) = ((Err (L.Faulty (record { 0 = why; 1 = (record { 0 = p }) })), old), (short, k, refl))
  by_outcome short (all ns k) =
      by_order (length old) (length ns) (λ h. ((Err (L.Refused NoRoom), old), (no_room short ns k h, refl)))
      (λ h. ((Ok (record { 0 = length ns }), ns ++ drop (length ns) old), (short, ns, k, h, refl, refl)))

  pub some_strict_row : Bytes s → (x : Result Numbers NotRead × List ℕ) × StrictRow s old x.0 x.1
  some_strict_row bytes =
      by_order block_limit (length s) (λ h. ((Err (L.Refused TooLong), old), (too_long h, refl)))
      (λ short. by_outcome short (outcome (suc (length s)) 0 s (omega arith) bytes))

  pub strict_rows : (r : Result Numbers NotRead) (out : List ℕ) → Bytes s → ReadsStrict s old r out ↔ StrictRow s old r out
  strict_rows r out bytes =
      by_rows {R = Result Numbers NotRead × List ℕ} {Promise = λ x. ReadsStrict s old x.0 x.1} {Row = λ x. StrictRow s old x.0 x.1}
      (λ x y a b. same_both (same_list x.0 y.0 (a.answer ∙ sym b.answer)) (a.leaves ∙ sym b.leaves)) strict_row_kept (some_strict_row bytes) (r, out)
