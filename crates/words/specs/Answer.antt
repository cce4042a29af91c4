-- What is answered, in document 01's own numbers and values.
--
--   pick            one of two things, by a test
--   both            two tests hold
--   either          one of two tests holds
--   Why             what a refusal carries: its number; or its number and the place of the byte that decided it
--   number_in       that number
--   because         what a refusal without a place carries; `because_at`: one with a place; `because_of`: a fault
--   Answer A        what was asked for, or a refusal with what it carries
--   moved n a       the answer a, its place counted from n bytes further in front; `moved_why`: what a refusal carries
--   Written         what a writer returns: the count of the bytes that it laid down, or a refusal; `means_written`: what that says
--   Reading A       what a reader returns: the number with its count of bytes, or a fault; `means_read`: what that says
use Rattle.std.specs.Prelude.{ℕ, ◌+◌, Bool, true, false, Result, Ok, Err}
use Rattle.words.specs.Refusal.{number_of}
use Rattle.words.specs.declared.Count.{Count}
use Rattle.words.specs.declared.Fault.{Fault}
use Rattle.words.specs.declared.Refusal.{Refusal}

abbrev pub pick : {A : Type 0} → Bool → A → A → A
pick true a b = a
pick false a b = b

abbrev pub both : Bool → Bool → Bool
both true b = b
both false b = false

abbrev pub either : Bool → Bool → Bool
either true b = true
either false b = b

pub data Why : Type 0 where
  by : ℕ → Why
  by_at : ℕ → ℕ → Why

abbrev pub number_in : Why → ℕ
number_in (by k) = k
number_in (by_at k p) = k

abbrev pub because : Refusal → Why
because r = by (number_of r)

abbrev pub because_at : Refusal → ℕ → Why
because_at r p = by_at (number_of r) p

abbrev pub because_of : Fault → Why
because_of f = because_at f.0 f.1.0

pub data Answer (A : Type 0) : Type 0 where
  gives : A → Answer A
  refused : Why → Answer A

abbrev pub moved_why : ℕ → Why → Why
moved_why n (by k) = by k
moved_why n (by_at k p) = by_at k (n + p)

abbrev pub moved : {A : Type 0} → ℕ → Answer A → Answer A
moved n (gives a) = gives a
moved n (refused k) = refused (moved_why n k)

abbrev pub Written : Type 0
Written = Result Count Refusal

abbrev pub means_written : Written → Answer ℕ
means_written (Ok n) = gives n.0
means_written (Err r) = refused (because r)

abbrev pub Reading : Type 0 → Type 0
Reading A = Result (A × Count) Fault

abbrev pub means_read : {A : Type 0} → Reading A → Answer (A × ℕ)
means_read (Ok (v, n)) = gives (v, n.0)
means_read (Err f) = refused (because_of f)
