-- What the functions of this crate promise.
--
--   means_value                  the number that a step gives, by its rule
--   means_step, means_set_down   what the answers of a step and of a set-down say
--   Steps                        a step of a cursor at the place p of the block s, by the rule
--   SetsDown                     set-down at the place p of the block s
use Rattle.std.specs.Prelude.{ℕ, List, ◌≡◌, Result, Ok, Err}
use Rattle.words.specs.Answer.{Answer, gives, refused, because, because_of}
use Rattle.words.specs.declared.Refusal.{Refusal}
use Rattle.groups.specs.declared.Value.{Value}
use Rattle.groups.specs.declared.Value.TheVariants as N
use Rattle.blocks.specs.Block.{Val, unsigned, signed, Stepped, number, gap, tail, finished, refuses, stepping, setting_down}
use Rattle.blocks.specs.declared.Rule.{Rule}
use Rattle.blocks.specs.declared.Step.{Step}
use Rattle.blocks.specs.declared.Step.TheVariants as S
use Rattle.blocks.specs.declared.Cursor.{Cursor}

abbrev pub means_value : Value → Val
means_value (N.Unsigned v) = unsigned v
means_value (N.Signed v) = signed v

abbrev pub means_step : Result Step Refusal → Stepped
means_step (Ok (S.Number v n c)) = number (means_value v) n.0 c.place.0
means_step (Ok (S.Gap f n c)) = gap (because_of f) n.0 c.place.0
means_step (Ok (S.Tail n c)) = tail n.0 c.place.0
means_step (Ok (S.Finished c)) = finished c.place.0
means_step (Err why) = refuses (because why)

abbrev pub means_set_down : Result Cursor Refusal → Answer ℕ
means_set_down (Ok c) = gives c.place.0
means_set_down (Err why) = refused (because why)

pub record Steps (rule : Rule) (s : List ℕ) (p : ℕ) (r : Result Step Refusal) : Type 0 where
  pub is : means_step r ≡ stepping rule s p

pub record SetsDown (s : List ℕ) (p : ℕ) (r : Result Cursor Refusal) : Type 0 where
  pub is : means_set_down r ≡ setting_down s p
