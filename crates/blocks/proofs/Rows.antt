-- The rows of a step and of a set-down, in their order: what is answered where no row before it holds.
--
--   step_too_long      a step in a block above the limit is refused by 7
--   step_past          past the end of the block, by 4
--   step_finished      at the end, it says Finished
--   step_not_a_start   where the test for a start fails, it is refused by 6
--   step_tail          where no byte below 128 follows, it says Tail, with the count of the bytes that are left, and stays
--   step_says          else, it says what is said of the group through the first byte below 128
--   step_standing      either way, what is `standing` there
--   set_too_long       a set-down in a block above the limit is refused by 7
--   set_past           past the end of the block, by 4
--   set_front          at place 0, it stays there
--   set_found          else, it goes just past the first byte below 128 at or after the byte before the place,
--   set_none           and where there is no such byte it is refused by 8
use Prim.Native.Nat.{ℕ, ◌+◌, ◌-◌, ◌≤◌, ◌<◌}
use mathlib.Core.Path.{◌≡◌, ap, ◌∙◌}
use mathlib.Core.List.{List}
use mathlib.Core.Bool.{true, false}
use native.Mathlib.Omega.{arith}
use borrow.Author.Tests.{lt-ltb, le-ltb, le-leb, lt-leb, eq-eqb, ne_eqb}
use lib.ListN.{length, take, drop, length-drop}
use Rattle.std.specs.Prelude.{Result, Ok, Err}
use Rattle.words.specs.Answer.{gives}
use Rattle.words.specs.declared.Count.{Count}
use Rattle.words.specs.declared.Refusal.TheVariants.{TooLong, Place, NotAStart, NoStart}
use Rattle.words.specs.declared.Refusal.{Refusal}
use Rattle.groups.specs.Group.{run}
use Rattle.groups.proofs.Run.{run_within}
use Rattle.blocks.specs.Block.{is_start_lem, finished, says_by, stepping, setting_down, block_limit}
use Rattle.blocks.specs.Inner.{standing}
use Rattle.blocks.specs.Promise.{means_step, Steps, SetsDown}
use Rattle.blocks.specs.declared.Cursor.{Cursor}
use Rattle.blocks.specs.declared.Rule.{Rule}
use Rattle.blocks.specs.declared.Step.{Step}
use Rattle.blocks.specs.declared.Step.TheVariants as S

module _ (rule : Rule) (s : List ℕ) (p : ℕ) where
  pub step_too_long : block_limit < length s → Steps rule s p (Err TooLong)
  unfolding stepping
  step_too_long h = record { is = rw (lt-ltb block_limit (length s) h) }

  module _ (fits : length s ≤ block_limit) where
    pub step_past : length s < p → Steps rule s p (Err Place)
    unfolding stepping
    step_past h = record { is = rw (le-ltb block_limit (length s) fits, lt-ltb (length s) p h) }

    pub step_finished : (c : Cursor) → c.place.0 ≡ p → p ≤ length s → length s ≤ p → Steps rule s p (Ok (S.Finished c))
    unfolding stepping
    step_finished c e h l = record { is = rw (le-ltb block_limit (length s) fits, le-ltb (length s) p h, le-leb (length s) p l) (ap finished e) }

    module _ (here : p < length s) where
      pub step_not_a_start : is_start_lem s p ≡ false → Steps rule s p (Err NotAStart)
      unfolding stepping
      step_not_a_start e =
          record { is = rw (le-ltb block_limit (length s) fits, le-ltb (length s) p (omega arith), lt-leb (length s) p here, e) }

      module _ (starts : is_start_lem s p ≡ true) where
        pub step_tail : (n : Count) (c : Cursor) → n.0 ≡ run (drop p s) → c.place.0 ≡ p → length s ≤ p + run (drop p s) → Steps rule s p (Ok (S.Tail n c))
        unfolding stepping
        step_tail n c e f h =
            let all : run (drop p s) ≡ length (drop p s) = omega (arith, run_within (drop p s), length-drop p s) in
            record {
              is =
                  rw (
                    le-ltb block_limit (length s) fits,
                    le-ltb (length s) p (omega arith),
                    lt-leb (length s) p here,
                    starts,
                    eq-eqb (run (drop p s)) (length (drop p s)) all,
                    e,
                    f,
                  );
            }

        pub step_says : p + run (drop p s) < length s → stepping rule s p ≡ says_by rule (take (run (drop p s) + 1) (drop p s)) p
        unfolding stepping
        step_says h =
            let ne : run (drop p s) ≡ length (drop p s) → ⊥ = λ e. omega (arith, length-drop p s) in
            rw (
              le-ltb block_limit (length s) fits,
              le-ltb (length s) p (omega arith),
              lt-leb (length s) p here,
              starts,
              ne_eqb (run (drop p s)) (length (drop p s)) ne,
            )

        pub step_standing : {asked : Rule} {r : Result Step Refusal} → rule ≡ asked → means_step r ≡ standing asked s p → Steps rule s p r
        unfolding stepping standing
        step_standing a e =
            record { is = e ∙ rw (← a, le-ltb block_limit (length s) fits, le-ltb (length s) p (omega arith), lt-leb (length s) p here, starts) }

module _ (s : List ℕ) (p : ℕ) where
  pub set_too_long : block_limit < length s → SetsDown s p (Err TooLong)
  unfolding setting_down
  set_too_long h = record { is = rw (lt-ltb block_limit (length s) h) }

  module _ (fits : length s ≤ block_limit) where
    pub set_past : length s < p → SetsDown s p (Err Place)
    unfolding setting_down
    set_past h = record { is = rw (le-ltb block_limit (length s) fits, lt-ltb (length s) p h) }

    module _ (here : p ≤ length s) where
      pub set_front : (c : Cursor) → c.place.0 ≡ p → p < 1 → SetsDown s p (Ok c)
      unfolding setting_down
      set_front c e h =
          let z : p ≡ 0 = omega arith in
          record { is = rw (le-ltb block_limit (length s) fits, le-ltb (length s) p here, eq-eqb p 0 z) (ap gives (e ∙ z)) }

      module _ (some : 1 ≤ p) where
        pub set_found : (c : Cursor) → c.place.0 ≡ p - 1 + run (drop (p - 1) s) + 1 → p - 1 + run (drop (p - 1) s) < length s → SetsDown s p (Ok c)
        unfolding setting_down
        set_found c e h =
            record {
              is =
                  rw (le-ltb block_limit (length s) fits, le-ltb (length s) p here, ne_eqb p 0 (λ z. omega arith), lt-ltb _ (length s) h)
                  (ap gives (e ∙ omega arith));
            }

        pub set_none : length s ≤ p - 1 + run (drop (p - 1) s) → SetsDown s p (Err NoStart)
        unfolding setting_down
        set_none h =
            record {
              is =
                  rw (le-ltb block_limit (length s) fits, le-ltb (length s) p here, ne_eqb p 0 (λ z. omega arith), le-ltb _ (length s) h);
            }
