-- The bytes that a reader gives in pieces, at the front of a buffer: n of them stand there, a read has filled the part behind them, and w are asked for.
--
--   joined                    the bytes in front of a part and the first of the part are the first of all
--   both_lost                 what a reader has lost in two pieces it has lost in one
--   first_bytes               all that a reader had, or as many as are asked for, are the first of what it had
--   part_length, whole        how long the part is; the same of what the read has added
--   piece_more, piece_ended   what stands there where more is to be read, and where all is there
use Rattle.std.specs.Io.{ReadsAtMost}
use Rattle.std.specs.Io.KnownBytes.{Consumes, IsAtEnd, ReadConsumes}
use Rattle.std.proofs.Common.{◌≡◌, refl, ap, sym, ◌∙◌, ℕ, zero, suc, ◌+◌, ◌-◌, ◌≤◌, ◌<◌, arith, lt-ltb, le-ltb, ◌⊎◌, inl, inr, List, ◌++◌, length, take, drop, append_assoc, append-nil, length-append, length-drop, length-take-le, take_all, Option, Some, None, Result, Ok, Err, IfSome}
use Rattle.std.proofs.lemmas.List.{take-append-le}
use Rattle.std.proofs.Math.Seq.{take-append-add, take-append_seam}
use Rattle.words.proofs.Cases.{by_order}
use Rattle.listing.specs.Program.{bytes, more, ended, input_room, following}
use Rattle.list.specs.Promise.{means_moved}

joined : (n k : ℕ) (s part rest : List ℕ) → n ≤ length s → k ≤ length part → take (n + k) (take n s ++ (part ++ rest)) ≡ take n s ++ take k part
joined n k s part rest h l =
    ap (λ i. take (i + k) (take n s ++ (part ++ rest))) (sym (length-take-le n s h))
    ∙ take-append-add (take n s) (part ++ rest) k
    ∙ ap (λ t. take n s ++ t) (take-append-le k part rest l)

both_lost : (a b b' : Option (List ℕ)) (s t : List ℕ) → Consumes a b s → Consumes b b' t → Consumes a b' (s ++ t)
both_lost None b b' s t p q = tt
both_lost (Some xs) None b' s t p q = absurd p
both_lost (Some xs) (Some ys) None s t p q = absurd q
both_lost (Some xs) (Some ys) (Some zs) s t p q = p ∙ ap (λ v. s ++ v) q ∙ sym (append_assoc s t zs)

first_bytes : (w : ℕ) (a b : Option (List ℕ)) (s : List ℕ) → Consumes a b s → IsAtEnd b ⊎ (length s ≡ w) → length s ≤ w → IfSome a (λ xs. s ≡ take w xs)
first_bytes w None b s p e l = tt
first_bytes w (Some xs) None s p e l = absurd p
first_bytes w (Some xs) (Some ys) s p (inl z) l = let f : xs ≡ s = p ∙ ap (λ v. s ++ v) z ∙ append-nil s in sym (ap (take w) f ∙ take_all w s l)
first_bytes w (Some xs) (Some ys) s p (inr f) l = sym (ap (λ k. take k xs) (sym f) ∙ ap (take (length s)) p ∙ take-append_seam s ys)

module _ (n m : ℕ) (a b b' : Option (List ℕ)) (s part rest : List ℕ) (w : ℕ) (asked : w ≡ input_room) (room : length s ≡ w) (there : n < input_room)
    (lost : Consumes a b (take n s)) where
  pub piece_more : {E : Type 0} (r : Result ℕ E) → ReadsAtMost r part → ReadConsumes b b' r part → more m ≡ following n (means_moved r)
      → (m < input_room) × Consumes a b' (take m (take n s ++ (part ++ rest)))
  piece_more (Ok zero) h q e = let z : ◌≡◌ {A = ℕ} 0 1 = cc in absurd (omega arith)
  piece_more (Ok (suc k)) h q e =
      by_order (n + suc k) input_room
      (λ lt.
      let f : more m ≡ more (n + suc k) = rw (lt-ltb (n + suc k) input_room lt) at e in
      let i : m ≡ n + suc k = cc in
      rw i (lt, rw (joined n (suc k) s part rest (omega (arith, asked, room)) h.0) (both_lost a b b' (take n s) (take (suc k) part) lost q.0)))
      (λ le.
      let f : more m ≡ ended (bytes (n + suc k)) = rw (le-ltb (n + suc k) input_room le) at e in
      let z : ◌≡◌ {A = ℕ} 0 1 = cc in
      absurd (omega arith))
  piece_more (Err x) h q e = let z : ◌≡◌ {A = ℕ} 0 1 = cc in absurd (omega arith)

  whole : (k : ℕ) → k ≤ length part → m ≡ n + k → m ≤ w → Consumes b b' (take k part) → IsAtEnd b' ⊎ (m ≡ w)
      → IfSome a (λ xs. take m (take n s ++ (part ++ rest)) ≡ take w xs)
  whole k h i l q e =
      let within : n ≤ length s = omega (arith, asked, room) in
      let t = take k part in
      let front : take m (take n s ++ (part ++ rest)) ≡ take n s ++ t = rw i (joined n k s part rest within h) in
      let long : length (take n s ++ t) ≡ m = omega (arith, i, length-append (take n s) t, length-take-le n s within, length-take-le k part h) in
      let full : IsAtEnd b' ⊎ (length (take n s ++ t) ≡ w) = elim e [ inl z ↦ inl z | inr f ↦ inr (long ∙ f) ] in
      rw front (first_bytes w a b' (take n s ++ t) (both_lost a b b' (take n s) t lost q) full (omega (arith, long, l)))

  part_length : length (take (length s - n) (drop n s)) ≡ length s - n
  part_length = length-take-le (length s - n) (drop n s) (omega (arith, length-drop n s))

  pub piece_ended : {E : Type 0} (r : Result ℕ E) → length part ≡ length (take (length s - n) (drop n s)) → ReadsAtMost r part
      → ReadConsumes b b' r part → ended (bytes m) ≡ following n (means_moved r) → IfSome a (λ xs. take m (take n s ++ (part ++ rest)) ≡ take w xs)
  piece_ended (Ok zero) long h q e =
      let i : m ≡ n = cc in
      whole 0 h.0 (omega (arith, i)) (omega (arith, i, asked)) q.0 (inl (q.1 refl (omega (arith, long, part_length, asked, room))))
  piece_ended (Ok (suc k)) long h q e =
      by_order (n + suc k) input_room
      (λ lt.
      let f : ended (bytes m) ≡ more (n + suc k) = rw (lt-ltb (n + suc k) input_room lt) at e in
      let z : ◌≡◌ {A = ℕ} 0 1 = cc in
      absurd (omega arith))
      (λ le.
      let f : ended (bytes m) ≡ ended (bytes (n + suc k)) = rw (le-ltb (n + suc k) input_room le) at e in
      let i : m ≡ n + suc k = cc in
      let full : m ≡ w = omega (arith, i, le, long, part_length, asked, room, h.0) in
      whole (suc k) h.0 i (omega (arith, full)) q.0 (inr full))
  piece_ended (Err x) long h q e = let z : ◌≡◌ {A = ℕ} 0 1 = cc in absurd (omega arith)
