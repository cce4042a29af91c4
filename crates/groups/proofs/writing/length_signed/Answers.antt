-- `groups::length_signed` keeps what it promises inside the crate: the spelling is as long as the unsigned spelling of twice the magnitude.
use Rattle.std.specs.Int.Signed.{mag}
use Rattle.std.proofs.Common.{ℕ, ◌*◌, length, ap, sym, ◌∙◌, false}
use Rattle.groups.specs.Form.{spell}
use Rattle.groups.proofs.SignedWords.{word_back}
use Rattle.groups.proofs.Lookup.{as_twice}
use Rattle.groups.proofs.writing.length_signed.Goals as goal

pub returns : goal.returns
returns c =
    let m = c.magnitude.ensures ∙ ap mag (word_back c.args.v c.ranges.v.sfits) in
    record { is = c.length_unsigned.ensures.is ∙ ap (λ (x : ℕ). length (spell false 128 (x * 2))) m ∙ sym (as_twice _ _) }
