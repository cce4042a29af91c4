-- Document 01, "How a number is spelled": signed numbers, as DWARF 5 has them.
--
--   signed b m   m, or -m-1 if b: the number whose magnitude `mag` is m
--   twos k n     the value of the 7k bits of n in two's complement
--   form v       the shortest form: seven bits a byte of v's two's complement, until the byte's bit of weight 64 tells the sign
--   i64          the width of 64 bits
use Rattle.std.specs.Prelude.{ℕ, ◌*◌, ◌-◌, ◌%◌, ◌^◌, List, Bool, true, false, leb, ltb, eqb, ℤ, pos, negsuc, length}
use Rattle.std.proofs.Math.IntN.{sub_ℕ}
use Rattle.words.specs.Answer.{pick, both, either}
use Rattle.groups.specs.Group.{digits}
use Rattle.groups.specs.Form.{spelling}
use Rattle.groups.specs.declared.Value.TheVariants.{Signed}
use Rattle.groups.specs.Width.{Width}

abbrev pub signed : Bool → ℕ → ℤ
signed false m = pos m
signed true m = negsuc m

unfoldable pub form : ℤ → List ℕ
form v = spelling (Signed v)

unfoldable pub twos : ℕ → ℕ → ℤ
twos k n = pick (ltb n (2 ^ (7 * k - 1))) (pos n) (sub_ℕ n (2 ^ (7 * k)))

-- a last byte 0 after a byte whose bit of weight 64 is clear is one too many, and so is 127 after one where it is set
abbrev pub i64 : Width ℤ
i64 = record {
  most = 10;
  allowed = λ b. either (eqb b 0) (eqb b 127);
  extra = λ before b. either (both (eqb b 0) (ltb (before % 128) 64)) (both (eqb b 127) (leb 64 (before % 128)));
  value = λ g. twos (length g) (digits g);
}
