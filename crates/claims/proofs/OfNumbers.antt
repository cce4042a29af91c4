-- What is claimed of numbers, proved.
--
--   length_is   the count that a length of any kind answers is the length of the number's form
--   numbers     the chapter
use Prim.Native.Nat.{ℕ, ◌-◌, ◌^◌, ◌<◌}
use mathlib.Core.Path.{◌≡◌, refl, ap, sym, ◌∙◌}
use mathlib.Core.List.{List, [], ◌∷◌}
use native.Mathlib.Nat.{lt_trans}
use native.Mathlib.Omega.{arith}
use lib.ListN.{length}
use lib.IntN.{pos}
use Rattle.words.specs.Refusal.{number_of}
use Rattle.words.specs.Lays.{fits}
use Rattle.words.specs.declared.Count.{Count}
use Rattle.words.specs.Answer.{Written}
use Rattle.words.proofs.Lays.{some_lays}
use Rattle.words.proofs.OneMeaning.{same_lays}
use Rattle.bits.specs.Macros.{take_low_7_bits_lem, is_high_8_bit_set_lem, set_high_8_bit_lem}
use Rattle.groups.specs.Form.{spell, spellings, spelling}
use Rattle.groups.specs.Promise.{walked}
use Rattle.groups.specs.Group.{run, digits}
use Rattle.groups.specs.Width.{runs_out, is_too_large, is_too_many, reading, read}
use Rattle.groups.proofs.Rows.{read_cases}
use Rattle.groups.proofs.Spelling.{some_bytes}
use Rattle.uleb128.specs.Unsigned as unsigned
use Rattle.uleb128.proofs.Forms.{form_short, form_some}
use Rattle.sleb128.specs.Signed as signed
use Rattle.sleb128.proofs.Forms.{form_spelled}
use Rattle.claims.specs.Kinds.{Kind, loop64, recursive64, unsigned32, signed64, Value, Reply, number, refuse, ReadsAs, width, form, WritesAs, TakesAs}
use Rattle.claims.specs.Try.{Starred}
use Rattle.claims.specs.OfNumbers.{Most, OfNumbers, zero_of}
use Rattle.claims.proofs.Readers.{number_says, refusal_says, one_reply, accepts, refuses, excludes, exhausts, within_of_mag, mag_of_within}
use Rattle.claims.proofs.Decided.{decides}
use Rattle.claims.proofs.RoundTrips.{writes, write_read, read_write, more_behind, some_byte, lays_form}
use Rattle.claims.proofs.Forms.{twos_complement, signed_form, one_too_many, signed_most, shortest_form}
use Rattle.claims.proofs.Growth.{growth_values}
use Rattle.claims.proofs.Source.{parse_same, serialize_same}

some_written : (k : Kind) (v : Value k) (s : List ℕ) (at : ℕ) → (r : Written) × (out : List ℕ) × WritesAs k v s at r out
some_written loop64 v s at = some_lays (unsigned.form v) s at
some_written recursive64 v s at = some_lays (unsigned.form v) s at
some_written unsigned32 v s at = some_lays (unsigned.form v) s at
some_written signed64 v s at = some_lays (signed.form v) s at

some_length : (k : Kind) (v : Value k) → (n : Count) × TakesAs k v n
some_length loop64 v = (record { 0 = length (unsigned.form v) }, record { is = refl })
some_length recursive64 v = (record { 0 = length (unsigned.form v) }, record { is = refl })
some_length unsigned32 v = (record { 0 = length (unsigned.form v) }, record { is = refl })
some_length signed64 v = (record { 0 = length (signed.form v) }, record { is = refl })

-- what a reader answers
some_reply : (k : Kind) (s : List ℕ) (at : ℕ) → (r : Reply k) × ReadsAs k s at r
some_reply k s at =
    read_cases (width k) s at
    (λ v n e. (number k v (record { 0 = n }), (number_says k s at v (record { 0 = n })).1 e))
    (λ why p e. (refuse k why (record { 0 = p }), (refusal_says k s at why (record { 0 = p })).1 e))

length_is : (k : Kind) (v : Value k) (n : Count) → TakesAs k v n → n.0 ≡ length (form k v)
length_is loop64 v n p = p.is
length_is recursive64 v n p = p.is
length_is unsigned32 v n p = p.is
length_is signed64 v n p = p.is

zero_takes_one : (k : Kind) → form k (zero_of k) ≡ 0 ∷ []
unfolding unsigned.form signed.form spell spellings
zero_takes_one loop64 = refl
zero_takes_one recursive64 = refl
zero_takes_one unsigned32 = refl
zero_takes_one signed64 = refl

most : (k : Kind) → Most k
unfolding unsigned.form signed.form spell spellings
most loop64 = (λ v h. form_short v 9 (lt_trans h (omega arith)), (2 ^ 64 - 1, omega arith, refl))
most recursive64 = (λ v h. form_short v 9 (lt_trans h (omega arith)), (2 ^ 64 - 1, omega arith, refl))
most unsigned32 = (λ v h. form_short v 4 (lt_trans h (omega arith)), (2 ^ 32 - 1, omega arith, refl))
most signed64 = (λ v h. signed_most v (mag_of_within v (2 ^ 63) (omega arith) h.0 h.1), (pos (2 ^ 63 - 1), within_of_mag (pos (2 ^ 63 - 1)) (2 ^ 63) (omega arith), refl))

some_bytes_of : (k : Kind) (v : Value k) → 0 < length (form k v)
some_bytes_of loop64 v = form_some v
some_bytes_of recursive64 v = form_some v
some_bytes_of unsigned32 v = form_some v
some_bytes_of signed64 v = some_bytes (form_spelled v)

starred : Starred
unfolding read reading runs_out is_too_large is_too_many run digits signed.twos
starred =
    ((refl, (refl, (refl, (refl, (refl, (refl, (refl, (refl, tt)))))))), (refl, tt), (refl, (refl, (refl, (refl, tt)))))

pub numbers : OfNumbers
numbers = record {
  accepts = accepts;
  refuses = refuses;
  excludes = excludes;
  exhausts = exhausts;
  decides = decides;
  writes = writes;
  shortest = shortest_form;
  lengths = length_is;
  zero_takes_one = zero_takes_one;
  most = most;
  growth = growth_values;
  twos_complement = twos_complement;
  signed_form = signed_form;
  one_too_many = λ g r. one_too_many r;
  read_alike = λ s at r r' p q. one_reply loop64 s at r r' p q;
  write_alike = λ v s at r r' out out' p q. same_lays p q;
  write_read = write_read;
  read_write = read_write;
  more_behind = more_behind;
  some_byte = λ k. some_byte k (some_bytes_of k);
  source_parse = parse_same;
  source_serialize = serialize_same;
  starred = starred;
  met = record {
    number = λ why. (number_of why, record { is = refl });
    room = λ size at n. (fits size at n, record { is = refl });
    walk = λ s at. (walked s at, record { is = refl });
    low_bits = λ v. (take_low_7_bits_lem v, refl);
    high_bit = λ b. (is_high_8_bit_set_lem b, refl);
    high_set = λ b. (set_high_8_bit_lem b, refl);
    spelled = λ v. (record { 0 = length (spelling v) }, record { is = refl });
    store = λ v s at. some_lays (spelling v) s at;
    reply = some_reply;
    written = some_written;
    length = some_length;
  };
  one = record {
    number = λ why n m p q. p.is ∙ sym q.is;
    room = λ size at n r r' p q. p.is ∙ sym q.is;
    walk = λ s at r r' p q. p.is ∙ sym q.is;
    low_bits = λ v r r' p q. p ∙ sym q;
    high_bit = λ b r r' p q. p ∙ sym q;
    high_set = λ b r r' p q. p ∙ sym q;
    spelled = λ v n m p q. ap (λ (x : ℕ). record { 0 = x }) (p.is ∙ sym q.is);
    store = λ v s at r r' out out' p q. same_lays p q;
    reply = λ k. one_reply k;
    written = λ k v s at r r' out out' p q. same_lays (lays_form k v p) (lays_form k v q);
    length = λ k v r r' p q. ap (λ (n : ℕ). record { 0 = n }) (length_is k v r p ∙ sym (length_is k v r' q));
  };
}
