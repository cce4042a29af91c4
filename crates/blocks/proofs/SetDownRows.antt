-- Each answer of a set-down exactly when: the least start at or after a place is just past the first byte below 128 at or after the byte
-- before it.
--
--   not_before          behind place 0, no start at p or later is before the place just past that byte,
--   start_there         and where the block has such a byte that place is a start
--   some_set_down_row   one of the rows holds
--   set_down_row_kept   where its row holds, an answer is a set-down's
--   set_down_rows       an answer is a set-down's exactly where its row holds
use Prim.Native.Nat.{ℕ, ◌+◌, ◌-◌, ◌≤◌, ◌<◌}
use mathlib.Core.Path.{◌≡◌, ap, sym, ◌∙◌}
use mathlib.Core.List.{List}
use mathlib.Core.Logic.{◌↔◌, inl, inr, ⊎_elim}
use native.Mathlib.Omega.{arith}
use lib.ListN.{length, get_or, drop, length-drop}
use lib.Seq.{get_or-drop}
use Rattle.std.specs.Prelude.{Result, Ok, Err}
use Rattle.words.specs.declared.Refusal.{Refusal}
use Rattle.words.specs.declared.Refusal.TheVariants.{Place, TooLong, NoStart}
use Rattle.words.proofs.Cases.{by_order}
use Rattle.words.proofs.OneMeaning.{by_rows}
use Rattle.groups.specs.Group.{run}
use Rattle.groups.proofs.Run.{in_run, at_run}
use Rattle.blocks.specs.Block.{block_limit}
use Rattle.blocks.specs.Promise.{SetsDown}
use Rattle.blocks.specs.GroupsAndTail.{Start}
use Rattle.blocks.specs.Rows.{Least, SetDownRefused, SetDownRow}
use Rattle.blocks.specs.Rows.SetDownRefused.{too_long, past, no_start}
use Rattle.blocks.specs.declared.Cursor.{Cursor}
use Rattle.blocks.proofs.Rows.{set_too_long, set_past, set_front, set_found, set_none}
use Rattle.blocks.proofs.FromStart.{front_start}
use Rattle.blocks.proofs.OneStep.{same_set_down}

abbrev cursor : ℕ → Cursor
cursor q = record { place = record { 0 = q } }

-- behind place 0
module _ (s : List ℕ) (p : ℕ) (some : 1 ≤ p) where
  byte_of : (j : ℕ) → p ≤ j → get_or (drop (p - 1) s) (j - p) 0 ≡ get_or s (j - 1) 0
  byte_of j h = let i : p - 1 + (j - p) ≡ j - 1 = omega arith in get_or-drop (p - 1) s (j - p) 0 ∙ ap (λ (k : ℕ). get_or s k 0) i

  pub not_before : (j : ℕ) → p ≤ j → Start s j → p + run (drop (p - 1) s) ≤ j
  not_before j h k =
      ⊎_elim (λ (e : j ≡ 0). absurd (omega arith))
      (λ (b : (0 < j) × (get_or s (j - 1) 0 < 128)).
      by_order (j - p) (run (drop (p - 1) s))
      (λ l.
      let hi : 128 ≤ get_or (drop (p - 1) s) (j - p) 0 = in_run (drop (p - 1) s) (j - p) l in
      absurd (omega (arith, b.1, byte_of j h)))
      (λ l. omega arith))
      k.behind

  pub start_there : p - 1 + run (drop (p - 1) s) < length s → Start s (p + run (drop (p - 1) s))
  start_there h =
      let q = p + run (drop (p - 1) s) in
      let b : get_or (drop (p - 1) s) (run (drop (p - 1) s)) 0 < 128 = at_run (drop (p - 1) s) (omega (arith, length-drop (p - 1) s)) in
      let i : p + run (drop (p - 1) s) - 1 ≡ p - 1 + run (drop (p - 1) s) = omega arith in
      record { here = omega arith; behind = inr (omega arith, rw (i, ← (get_or-drop (p - 1) s (run (drop (p - 1) s)) 0)) b) }

module _ (s : List ℕ) (p : ℕ) where
  -- one of the rows holds
  pub some_set_down_row : (r : Result Cursor Refusal) × SetDownRow s p r
  some_set_down_row =
      by_order block_limit (length s) (λ h. (Err TooLong, too_long h))
      (λ f.
      by_order (length s) p (λ h. (Err Place, past f h))
      (λ here.
      by_order p 1
      (λ z. (
        Ok (cursor p),
        (
          f,
          record {
            from = omega arith;
            start = record { here = here; behind = inl (omega arith) };
            none_before = λ j a b c. omega arith;
          },
        ),
      ))
      (λ some.
      by_order (p - 1 + run (drop (p - 1) s)) (length s)
      (λ l. (
        Ok (cursor (p + run (drop (p - 1) s))),
        (
          f,
          record {
            from = omega arith;
            start = start_there s p some l;
            none_before = λ j a b c. omega (arith, not_before s p some j a c);
          },
        ),
      ))
      (λ l. (Err NoStart, no_start f here (λ q a c. omega (arith, not_before s p some q a c, c.here)))))))

  -- where its row holds, an answer is a set-down's
  refused_row : (why : Refusal) → SetDownRefused s p why → SetsDown s p (Err why)
  refused_row _ (too_long h) = set_too_long s p h
  refused_row _ (past f h) = set_past s p f h
  refused_row _ (no_start f here none) =
      by_order p 1 (λ z. absurd (none p (omega arith) (record { here = here; behind = inl (omega arith) })))
      (λ some.
      by_order (p - 1 + run (drop (p - 1) s)) (length s)
      (λ l. absurd (none (p + run (drop (p - 1) s)) (omega arith) (start_there s p some l)))
      (λ l. set_none s p f here some l))

  pub set_down_row_kept : (r : Result Cursor Refusal) → SetDownRow s p r → SetsDown s p r
  set_down_row_kept (Err why) h = refused_row why h
  set_down_row_kept (Ok c) h =
      let k : Least s p c.place.0 = h.1 in
      by_order p 1
      (λ z. set_front s p h.0 (omega (arith, k.from, k.start.here)) c
      (by_order 0 c.place.0 (λ l. absurd (k.none_before 0 (omega arith) l (front_start s))) (λ l. omega arith)) z)
      (λ some.
      let low = not_before s p some c.place.0 k.from k.start in
      let there : p - 1 + run (drop (p - 1) s) < length s = omega (arith, low, k.start.here) in
      set_found s p h.0 (omega (arith, k.from, k.start.here)) some c
      (by_order (p + run (drop (p - 1) s)) c.place.0 (λ l. absurd (k.none_before (p + run (drop (p - 1) s)) (omega arith) l (start_there s p some there))) (λ l. omega (arith, low)))
      there)

  pub set_down_rows : (r : Result Cursor Refusal) → SetsDown s p r ↔ SetDownRow s p r
  set_down_rows = by_rows (λ r r' a b. same_set_down r r' (a.is ∙ sym b.is)) set_down_row_kept some_set_down_row
