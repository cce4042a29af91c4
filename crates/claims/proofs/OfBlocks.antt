-- What is claimed of blocks, proved.
--
--   blocks   the chapter
use mathlib.Core.Path.{sym, ◌∙◌}
use Rattle.blocks.proofs.OneStep.{same_step, same_set_down}
use Rattle.blocks.proofs.StepRows.{step_row_kept, some_step_row as step-found, step_rows}
use Rattle.blocks.proofs.SetDownRows.{set_down_row_kept, some_set_down_row as set_found, set_down_rows}
use Rattle.claims.specs.OfBlocks.{OfBlocks}
use Rattle.claims.proofs.ReaderSetDown.{reader_from, reader_set_down}
use Rattle.claims.proofs.ReadGroup.{read_group}
use Rattle.claims.proofs.Gaps.{gap_within}

pub blocks : OfBlocks
blocks = record {
  read_group = read_group;
  step_rows = step_rows;
  gap_within = gap_within;
  set_down_rows = set_down_rows;
  reader_from = reader_from;
  reader_set_down = reader_set_down;
  met = record {
    step = λ rule s p bytes. let f = step-found rule s p bytes in (f.0, step_row_kept rule s p f.0 f.1);
    set_down = λ s p. let f = set_found s p in (f.0, set_down_row_kept s p f.0 f.1);
  };
  one = record {
    step = λ rule s p r r' a b. same_step r r' (a.is ∙ sym b.is);
    set_down = λ s p r r' a b. same_set_down r r' (a.is ∙ sym b.is);
  };
}
