-- `entries::put_entry` keeps what it promises inside the crate: part by part, `Laying` holds.
use Rattle.std.proofs.Common.{◌<◌, ◌^◌, arith, refl, [], ◌∷◌}
use Rattle.std.specs.Int.Signed.{mag}
use Rattle.words.proofs.LaysInParts.{nothing_laid, part_laid, all_laid}
use Rattle.groups.proofs.SignedWords.{word_back}
use Rattle.blocks.specs.Block.{unsigned, signed}
use Rattle.entries.specs.Standing.{mark}
use Rattle.entries.specs.Saying.{numbers_of, forms_of}
use Rattle.entries.specs.Promise.{entry_form}
use Rattle.entries.proofs.PutEntry.{number_put}
use Rattle.entries.proofs.writing.put_entry.Goals as goal

pub returns : goal.returns
returns c =
    let x = c.args.entry in
    let h : mag c.args.entry.turn < 2 ^ 63 = omega arith in
    let marked = c.put_mark-first.ensures in
    let none = nothing_laid (entry_form x) c.args.buffer.now c.args.at in
    let first = part_laid none mark (forms_of (numbers_of x)) refl marked.leaves marked.behind in
    let second = number_put (unsigned x.segment) (unsigned x.sentence ∷ signed x.turn ∷ []) first c.put_u64-second.ensures in
    let third = number_put (unsigned x.sentence) (signed x.turn ∷ []) second c.put_u64-third.ensures in
    all_laid (number_put (signed x.turn) [] third (rw (word_back _ h) at c.put.ensures)) refl
