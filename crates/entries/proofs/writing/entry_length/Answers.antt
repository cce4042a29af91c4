-- `entries::entry_length` keeps what it promises inside the crate: each number takes ten bytes at most.
use Rattle.std.specs.Int.Signed.{mag}
use Rattle.std.proofs.Common.{◌<◌, ◌^◌, arith}
use Rattle.groups.proofs.SignedWords.{word_back}
use Rattle.entries.proofs.PutEntry.{form_ten, signed_ten}
use Rattle.entries.proofs.writing.entry_length.Goals as goal

pub overflow_add-result : goal.overflow_add-result
overflow_add-result c = omega (arith, c.length_u64-segment.ensures.is, form_ten c.args.entry.segment (omega arith))

pub overflow_add-result-2 : goal.overflow_add-result-2
overflow_add-result-2 c =
    omega (
      arith,
      c.length_u64-segment.ensures.is,
      c.length_u64-sentence.ensures.is,
      form_ten c.args.entry.segment (omega arith),
      form_ten c.args.entry.sentence (omega arith),
    )

pub overflow_add-result-3 : goal.overflow_add-result-3
overflow_add-result-3 c =
    let h : mag c.args.entry.turn < 2 ^ 63 = omega arith in
    omega (
      arith,
      c.length_u64-segment.ensures.is,
      c.length_u64-sentence.ensures.is,
      rw (word_back _ h) at c.length_i64-turn.ensures.is,
      form_ten c.args.entry.segment (omega arith),
      form_ten c.args.entry.sentence (omega arith),
      signed_ten c.args.entry.turn h,
    )
