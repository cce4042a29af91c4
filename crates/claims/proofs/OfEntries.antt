-- What is claimed of entries, proved.
--
--   bad_by                      what an answer of 10 rests on
--   one_written, some_written   the writer's promise is met by one answer on every input
--   entries                     the chapter
use Prim.Native.Nat.{ℕ, ◌≤◌}
use mathlib.Core.List.{List}
use mathlib.Core.Path.{◌≡◌, refl, ap, sym, ◌∙◌, subst}
use mathlib.Core.Logic.{⊎_elim}
use native.Mathlib.Omega.{arith}
use lib.ListN.{length}
use Rattle.std.specs.Prelude.{Ok, Err}
use Rattle.words.specs.Answer.{Answer, refused, because_at, Written}
use Rattle.words.specs.declared.Refusal.{Refusal}
use Rattle.words.specs.declared.Refusal.TheVariants as Why
use Rattle.words.proofs.LaysExactly.{lays_exactly}
use Rattle.words.proofs.Lays.{some_lays}
use Rattle.words.proofs.OneMeaning.{apart, decided_same, same_lays}
use Rattle.blocks.specs.Block.{block_limit}
use Rattle.entries.specs.Saying.{good, bad}
use Rattle.entries.specs.Promise.{FirstEntry, Answered, row, found, means_read_entry, entry_form, WritesEntry, absurd_turn, sensible_turn}
use Rattle.entries.specs.declared.Entry.{Entry}
use Rattle.entries.specs.declared.ReadEntry.TheVariants as R
use Rattle.entries.proofs.Standing.{one_entry, some_entry}
use Rattle.entries.proofs.AbsurdTurns.{absurd_or_not}
use Rattle.entries.proofs.NoMarkInside.{mark_unread}
use Rattle.entries.proofs.OneEntry.{same_entry, one_answered, some_answer, first_of, refused_by}
use Rattle.entries.proofs.InOrder.{in_order}
use Rattle.claims.specs.OfEntries.{GoodRead, BadRead, RefusesEntry, WritesEntries, EntryOfMark, OfEntries}
use Rattle.claims.proofs.Begun as begun
use Rattle.claims.proofs.EntryTries.{entry_tries}
use Rattle.claims.proofs.EntryForms.{good_form, one_form, absurd_read, written_back, refused_unread}
use Rattle.claims.proofs.EntryDamage.{entry_front, entry_back, entries_front, entries_back}

entry_good : GoodRead
entry_good s p r w x q = (
  λ e. first_of (good x) w.answer (ap means_read_entry e),
  λ f. same_entry r (Ok (R.Good x q)) (one_answered w.answer (found {v = good x} f.0 f.1)),
)

bad_by : {s : List ℕ} {p : ℕ} {a : Answer (Entry × ℕ)} (why : Refusal) {q : ℕ} → Answered s p a → a ≡ refused (because_at why q)
    → (why ≡ Why.Entry) × (length s ≤ block_limit) × FirstEntry s p bad q
bad_by why {q} (row {why = w} x) e = let z : ◌≡◌ {A = ℕ} 0 1 = cc in absurd (omega arith)
bad_by why (found {v = good x} h f) e = apart e
bad_by {s} {p} why (found {v = bad} h f) e = let i = decided_same Why.Entry why e in (sym i.0, h, subst (FirstEntry s p bad) i.1 f)

entry_bad : BadRead
entry_bad s p r w why q = (
  λ e. bad_by why w.answer (ap means_read_entry e),
  λ f. same_entry r (Ok (R.Bad why q)) (one_answered w.answer (rw f.0 (found {v = bad} f.1 f.2))),
)

entry_refuses : RefusesEntry
entry_refuses s p r w why = (
  λ e. refused_by why w.answer (ap means_read_entry e),
  λ x. same_entry r (Err why) (one_answered w.answer (row x)),
)

entry_of_mark : EntryOfMark
entry_of_mark s m = ((some_entry, λ e. e.1.opens), λ e f k j. one_entry k j)

entry_written : WritesEntries
entry_written x before at r after (absurd_turn h e i) = ((λ k. (e, i), λ k. h), λ k. absurd (k h))
entry_written x before at r after (sensible_turn h w) =
    ((λ k. absurd (h k), λ e. absurd (omega (arith, begun.refused_by w Why.Entry e.0))), λ k. lays_exactly (entry_form x) before at r after w)

one_written : {x : Entry} {s out out' : List ℕ} {at : ℕ} {r r' : Written} → WritesEntry x s at r out → WritesEntry x s at r' out' → (r ≡ r') × (out ≡ out')
one_written (absurd_turn h e i) (absurd_turn k f j) = (e ∙ sym f, i ∙ sym j)
one_written (absurd_turn h e i) (sensible_turn k w) = absurd (k h)
one_written (sensible_turn h v) (absurd_turn k f j) = absurd (h k)
one_written (sensible_turn h v) (sensible_turn k w) = same_lays v w

some_written : (x : Entry) (s : List ℕ) (at : ℕ) → (r : Written) × (out : List ℕ) × WritesEntry x s at r out
some_written x s at =
    ⊎_elim (λ h. (Err Why.Entry, s, absurd_turn h refl refl)) (λ h. let w = some_lays (entry_form x) s at in (w.0, w.1, sensible_turn h w.2)) (absurd_or_not x.turn)

pub entries : OfEntries
entries = record {
  entry_good = entry_good;
  entry_bad = entry_bad;
  entry_refuses = entry_refuses;
  entry_tries = entry_tries;
  good_form = good_form;
  one_form = one_form;
  absurd_read = absurd_read;
  entry_written = entry_written;
  written_back = written_back;
  refused_unread = refused_unread;
  entry_of_mark = entry_of_mark;
  entries_in_order = λ s p l block here. in_order block p l here;
  mark_unread = mark_unread;
  entry_front = entry_front;
  entry_back = entry_back;
  entries_front = entries_front;
  entries_back = entries_back;
  met = record { read = some_answer; write = some_written };
  one = record {
    read = λ s p r r' a b. same_entry r r' (one_answered a.answer b.answer);
    write = λ x s at r r' out out' a b. one_written a b;
  };
}
