-- The rows of document 01's table are the refusals of a reading, at any sound width.
--
--   row_refused     where a row holds, the reading is its refusal, with the place where it was decided
--   Decided s at    a row holds at the place, or a group that the width accepts stands there
--   row_or_number   so it is at any place, for a list of bytes
use Prim.Native.Nat.{ℕ, suc, ◌+◌, ◌-◌, ◌≤◌, ◌<◌}
use mathlib.Core.Path.{◌≡◌, refl, ap, sym, ◌∙◌}
use mathlib.Core.List.{List, ◌++◌}
use mathlib.Core.Bool.{true, false}
use mathlib.Core.Logic.{◌⊎◌, inl, inr}
use native.Mathlib.Omega.{arith}
use lib.ListN.{length, get_or, take, drop, length-drop, take-append-drop}
use lib.Seq.{get_or-drop}
use Rattle.words.specs.Answer.{refused, by_at, because_at}
use Rattle.words.specs.declared.Refusal.{Refusal}
use Rattle.words.specs.declared.Refusal.TheVariants.{End, Overflow, NotShortest, Place}
use Rattle.words.proofs.Cases.{by_order, by_test, clash}
use Rattle.words.proofs.Moved.{same_place}
use Rattle.groups.specs.Group.{Bytes, Group, run}
use Rattle.groups.specs.Width.{Width, reading, read, is_too_large, is_too_many}
use Rattle.groups.proofs.Run.{run_within, in_run, high_run, run_take_high, high_full, full_high}
use Rattle.groups.proofs.Rows.{row_end, row_large, read_past, read_from, not_large, large_when, many_when, when_large, when_many}
use Rattle.groups.proofs.FromWalk.{Sound}
use Rattle.groups.proofs.Exact.{group_length}
use Rattle.groups.proofs.Stands.{Stands, front_group, reading_behind, large_behind}
use Rattle.claims.specs.Table.{EndRow, OverflowRow, NotShortestRow, Row}
use Rattle.claims.specs.Table.Row.{ends, overflows, not_shortest, past}

module _ {A : Type 0} (w : Width A) (sound : Sound w) where
  end_refused : (l : List ℕ) → EndRow w l → reading w l ≡ refused (by_at 1 (length l))
  end_refused l row =
      let h = high_full l row.high in row_end w l h (omega (arith, row.fewer))

  overflow_refused : (l : List ℕ) → OverflowRow w l → reading w l ≡ refused (by_at 2 (w.most - 1))
  overflow_refused l row =
      let h : w.most - 1 ≤ run l = high_run l (w.most - 1) (omega (arith, row.there)) row.high in
      row_large w l row.there (omega arith) row.outside

  not_shortest_refused : (l : List ℕ) (row : NotShortestRow w l) → reading w l ≡ refused (by_at 3 (length row.group - 1))
  not_shortest_refused l row =
      let g = row.group in
      let n : length g ≡ suc (run g) = group_length row.is_group in
      let i : length g - 1 ≡ run g = omega arith in
      let j : length g - 2 ≡ run g - 1 = omega arith in
      let large : is_too_large w g ≡ false =
      not_large w g (omega (arith, row.fits)) (λ e. rw i at (row.allowed (omega arith))) in
      let many : is_too_many w g ≡ true = many_when w g (omega (arith, row.not_first)) (rw (i, j) at row.too_many) in
      ap (reading w) row.ends ∙ reading_behind w row.rest row.is_group ∙ rw (large, many, i)

  pub row_refused : (why : Refusal) (s : List ℕ) (at p : ℕ) → Row w s at p why → read w s at ≡ refused (because_at why p)
  row_refused _ s at p (ends here row e) = read_from w s at here (end_refused (drop at s) row) ∙ same_place (omega (arith, here, length-drop at s))
  row_refused _ s at p (overflows here row e) = read_from w s at here (overflow_refused (drop at s) row) ∙ same_place (sym e)
  row_refused _ s at p (not_shortest here row e) = read_from w s at here (not_shortest_refused (drop at s) row) ∙ same_place (sym e)
  row_refused _ s at p (past h e) = read_past w s at h ∙ same_place (sym e)

  -- each reading is decided: by a row, or by a group that stands there
  abbrev pub Decided : List ℕ → ℕ → Type 0
  Decided s at = ((why : Refusal) × (p : ℕ) × Row w s at p why) ⊎ ((v : A) × (n : ℕ) × Stands w s at v n)

  overrun_row : (l : List ℕ) → w.most ≤ run l → OverflowRow w l
  overrun_row l h = record {
    there = omega (arith, run_within l);
    high = run_take_high l (w.most - 1) (omega arith);
    outside = sound.low (get_or l (w.most - 1) 0) (in_run l (w.most - 1) (omega (arith, sound.some)));
  }

  large_row : (l : List ℕ) → run l < length l → is_too_large w l ≡ true → OverflowRow w l
  large_row l h t =
      let p = when_large w l t in
      record { there = omega (arith, p.0); high = run_take_high l (w.most - 1) (omega (arith, p.0)); outside = p.1 }

  many_row : (l g rest : List ℕ) → l ≡ g ++ rest → Group g → is_too_large w g ≡ false → is_too_many w g ≡ true → NotShortestRow w l
  many_row l g rest e r small many =
      let n : length g ≡ suc (run g) = group_length r in
      let i : length g - 1 ≡ run g = omega arith in
      let j : length g - 2 ≡ run g - 1 = omega arith in
      let p = when_many w g many in
      record {
        group = g;
        rest = rest;
        ends = e;
        is_group = r;
        fits =
            by_order w.most (length g)
            (λ l. clash small (large_when w g (omega arith)
            (sound.low (get_or g (w.most - 1) 0) (in_run g (w.most - 1) (omega (arith, sound.some))))))
            (λ l. l);
        allowed = λ m.
            by_test (w.allowed (get_or g (length g - 1) 0)) (λ t. t)
            (λ t. let q : w.most - 1 ≡ length g - 1 = omega arith in clash small (large_when w g (omega arith) (rw q t)));
        not_first = omega (arith, p.0);
        too_many = rw (i, j) p.1;
      }

  -- a group stands there: the tests on it
  decide_closed : (s : List ℕ) (at : ℕ) → Bytes s → at ≤ length s → run (drop at s) < length (drop at s) → Decided s at
  decide_closed s at bytes here closed =
      let l = drop at s in
      let g = take (run l + 1) l in
      let split : l ≡ g ++ drop (run l + 1) l = sym (take-append-drop (run l + 1) l) in
      let r : Group g = front_group l (λ i. rw (get_or-drop at s i 0) (bytes (at + i))) closed in
      let same : is_too_large w l ≡ is_too_large w g = ap (is_too_large w) split ∙ large_behind w (drop (run l + 1) l) r in
      by_test (is_too_large w l) (λ t. inl (Overflow, at + (w.most - 1), overflows here (large_row l closed t) refl))
      (λ t.
      let small : is_too_large w g ≡ false = sym same ∙ t in
      by_test (is_too_many w g)
      (λ u. let row = many_row l g (drop (run l + 1) l) split r small u in inl (NotShortest, at + (length row.group - 1), not_shortest here row refl))
      (λ u. inr (
        w.value g,
        length g,
        record {
          here = here;
          group = g;
          rest = drop (run l + 1) l;
          begins = split;
          is_group = r;
          not_large = small;
          not_many = u;
          value = refl;
          count = refl;
        },
      )))

  pub row_or_number : (s : List ℕ) (at : ℕ) → Bytes s → Decided s at
  row_or_number s at bytes =
      by_order (length s) at (λ p. inl (Place, at, past p refl))
      (λ here.
      by_order (run (drop at s)) (length (drop at s)) (λ closed. decide_closed s at bytes here closed)
      (λ all.
      by_order (run (drop at s)) w.most
      (λ few. inl (End, length s, ends here (record { fewer = omega arith; high = full_high (drop at s) all }) refl))
      (λ many. inl (Overflow, at + (w.most - 1), overflows here (overrun_row (drop at s) many) refl))))
