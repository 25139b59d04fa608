-- Keywords by their rank in a table, which is the first place where the word stands, and the laws of `rank_if`.
-- Assumes nothing.
use mathlib.Core.Path.{◌≡◌, refl, sym, ap, ◌∙◌, subst}
use mathlib.Core.List.{List, [], ◌∷◌}
use mathlib.Core.Bool.{Bool, true, false, not, ◌&&◌}
use mathlib.Core.Logic.{inl, inr}
use Prim.Native.Nat.{ℕ, suc, ◌+◌, ◌-◌, ◌≤◌, ◌<◌}
use native.Mathlib.Omega.{arith}
use native.Mathlib.Nat.{add-zero}
use lib.Dec.{ltb, leb, eqb, T}
use lib.Pointwise.{pointwise}
use Rattle.std.specs.Prelude.{Option, Some, None, cond, nat_eq, min, max}
use Rattle.std.specs.Option.{unwrap_or}
use Rattle.std.specs.List.{position_or_len}
use Rattle.std.specs.Slice.{IsGetRangeResult}
use Rattle.std.proofs.Common.{Bor}
use Rattle.std.proofs.lemmas.List.Recursion.{is_position_or_len}
use Rattle.std.proofs.lemmas.List.Sums.{prefix_len-le-length}
use Rattle.std.proofs.Math.Nat.{min-eq_left, min-eq_right, le-max_left, le-max_right, max-le, min-le_right}
use lib.ListN.{length, get_or, take, drop, length-drop, drop_of_length-le}
use lib.Seq.{take_all, take-nil}
use borrow.Author.Tests.{lt-ltb, le-ltb, leb-true, leb-false, ltb-true, ltb-false}
use Rattle.program.specs.Class.{class_of, is_word}
use Rattle.program.specs.Prog.{Prog, Res, run, lead_word}
use Rattle.grammar.specs.Lexer.{same_word, rank, rank_if, eat_n}
use Rattle.lexer.specs.Table.{keywords_of, full}
use Rattle.lexer.specs.Step.{passed, rank_p, ranked_p}
use Rattle.lexer.specs.Reads.{Leads, Goal, Inside, Aim, Finds}
use Rattle.lexer.specs.declared.Cursor.{Cursor}
use Rattle.lexer.specs.Parsed.{Parsed, Ok, Refused, Err}
use Rattle.program.specs.Lists.{drop_next}
use Rattle.lexer.proofs.Scan.{wordy, wordless}
use Rattle.lexer.proofs.Laws.{moved, g_moved, run_eat_n, pass_in}

-- ---- the search
-- `==` on byte strings
pub same_bytes : (a b : List ℕ) → pointwise nat_eq a b ≡ same_word a b
unfolding same_word
same_bytes [] [] = refl
same_bytes [] (y ∷ b) = refl
same_bytes (x ∷ a) [] = refl
same_bytes (x ∷ a) (y ∷ b) = ap (λ (z : Bool). eqb x y && z) (same_bytes a b)

pub words_length : (table : List (Bor (List ℕ))) → length (keywords_of table) ≡ length table
words_length [] = refl
words_length (x ∷ table) = ap suc (words_length table)

-- the rank is the first place whose word is w, or the table's length
module _ (w : List ℕ) where
  abbrev is_w : Bor (List ℕ) → Bool
  is_w word = same_word w word.now

  rank_place : (table : List (Bor (List ℕ))) → rank w (keywords_of table) ≡ position_or_len is_w table
  unfolding rank
  rank_place = is_position_or_len (λ table. rank w (keywords_of table)) is_w refl (λ x xs. step (same_word w x.now) (rank w (keywords_of xs)))
    where
      step : (z : Bool) (r : ℕ) → elim z [ true ↦ 0 | false ↦ suc r ] ≡ cond z 0 (1 + r)
      step true r = refl
      step false r = omega arith

  pub rank_found : (table : List (Bor (List ℕ))) (r : Option ℕ) → r ≡ cond (ltb (position_or_len (λ word. same_word w word.now) table) (length table)) (Some (position_or_len (λ word. same_word w word.now) table)) None → unwrap_or r (length table) ≡ rank w (keywords_of table)
  rank_found table r e = rw (e, rank_place table) (within _ _ (prefix_len-le-length (λ word. not (same_word w word.now)) table))
    where
      within : (p n : ℕ) → p ≤ n → unwrap_or (cond (ltb p n) (Some p) None) n ≡ p
      within p n l = go (ltb p n) refl
        where
          go : (z : Bool) → ltb p n ≡ z → unwrap_or (cond z (Some p) None) n ≡ p
          go true t = refl
          go false t = let k : n ≤ p = ltb-false _ _ t in omega arith

-- the bytes from a place to another, as far as the text reaches
module _ (text : List ℕ) (from to end : ℕ) (m : end ≡ min to (length text)) where
  f : to ≤ length text → end ≡ to
  f h = m ∙ min-eq_left h

  g : length text ≤ to → end ≡ length text
  g h = m ∙ min-eq_right h

  pub part_is : from ≤ end → take (end - from) (drop from text) ≡ take (to - from) (drop from text)
  part_is h = go (leb to (length text)) refl
    where
      go : (b : Bool) → leb to (length text) ≡ b → take (end - from) (drop from text) ≡ take (to - from) (drop from text)
      go true e = rw (f (leb-true _ _ e))
      go false e =
          let k : length text < to = leb-false _ _ e in
          let l : length (drop from text) ≡ length text - from = length-drop from text in
          let n : end ≡ length text = g (omega arith) in
          take_all (end - from) (drop from text) (omega arith) ∙ sym (take_all (to - from) (drop from text) (omega arith))

  pub part_none : end < from → take (to - from) (drop from text) ≡ []
  part_none h = go (leb to (length text)) refl
    where
      go : (b : Bool) → leb to (length text) ≡ b → take (to - from) (drop from text) ≡ []
      go true e =
          let k : end ≡ to = f (leb-true _ _ e) in
          let z : to - from ≡ 0 = omega arith in
          rw z
      go false e =
          let k : length text < to = leb-false _ _ e in
          let n : end ≡ length text = g (omega arith) in
          let z : length text ≤ from = omega arith in
          rw (drop_of_length-le text z) (take-nil (to - from))

-- what `get` finds there, or no bytes
pub part_got : (text : List ℕ) (from to end : ℕ) (r : Option (Bor (List ℕ))) (d : Bor (List ℕ)) → d.now ≡ [] → end ≡ min to (length text) → IsGetRangeResult text from end r → (unwrap_or r d).now ≡ take (to - from) (drop from text)
part_got text from to end None d e m (inl h, z) = e ∙ sym (part_none text from to end m h)
part_got text from to end None d e m (inr h, z) = absurd (let k : end ≤ length text = rw m (min-le_right to (length text)) in omega arith)
part_got text from to end (Some x) d e m h = h.0.2 ∙ part_is text from to end m h.0.0

-- ---- the next word
pub lead_le : (s : List ℕ) → length (lead_word s) ≤ length s
unfolding lead_word
lead_le [] = omega arith
lead_le (x ∷ s) = go (is_word x) (lead_le s)
  where
    go : (b : Bool) → length (lead_word s) ≤ length s → length {A = ℕ} (elim b [ true ↦ x ∷ lead_word s | false ↦ [] ]) ≤ suc (length s)
    go true h = omega arith
    go false h = omega arith

pub lead_take : (s : List ℕ) → take (length (lead_word s)) s ≡ lead_word s
unfolding lead_word
lead_take [] = refl
lead_take (x ∷ s) = go (is_word x) (lead_take s)
  where
    go : (b : Bool) → take (length (lead_word s)) s ≡ lead_word s → take (length {A = ℕ} (elim b [ true ↦ x ∷ lead_word s | false ↦ [] ])) (x ∷ s) ≡ elim b [ true ↦ x ∷ lead_word s | false ↦ [] ]
    go true h = ap {B = List ℕ} (λ l. x ∷ l) h
    go false h = refl

module _ (s : List ℕ) (i r : ℕ) (h : i < length s) (e : r ≡ class_of (get_or s i 0)) where
  pub lead_more : r ≤ 16 → i + length (lead_word (drop i s)) ≡ i + 1 + length (lead_word (drop (i + 1) s))
  unfolding lead_word
  lead_more k =
      let z : is_word (get_or s i 0) ≡ true = wordy _ r e k in
      rw (drop_next s i h, lead_word, z) (omega arith)

  pub lead_stop : 16 < r → i + length (lead_word (drop i s)) ≡ i
  unfolding lead_word
  lead_stop k =
      let z : is_word (get_or s i 0) ≡ false = wordless _ r e k in
      rw (drop_next s i h, lead_word, z) (add-zero i)

pub lead_out : (s : List ℕ) (i : ℕ) → length s ≤ i → i + length (lead_word (drop i s)) ≡ i
unfolding lead_word
lead_out s i h = rw (drop_of_length-le s h) (add-zero i)

-- the end of a loop over the places of a word
pub lead_end : (s : List ℕ) {at i m : ℕ} → at ≤ i → length s ≤ i → m ≡ max at (length s) → at + length (lead_word (drop at s)) ≡ i → m ≡ i
lead_end s {at} {i} {m} l h e g =
    let a : at ≤ max at (length s) = le-max_left at (length s) in
    let b : length s ≤ max at (length s) = le-max_right at (length s) in
    let c : max at (length s) ≤ i = max-le l h in
    omega (arith, lead_le (drop at s), length-drop at s)

-- the rank of the next word, which ends at i
module _ (text : List ℕ) (table : List (Bor (List ℕ))) (cur : Cursor) (i r : ℕ) (e : i ≡ cur.at + length (lead_word (drop cur.at text))) (h : r ≡ rank (take (i - cur.at) (drop cur.at text)) (keywords_of table)) where
  ranks : r ≡ rank (lead_word (drop cur.at text)) (keywords_of table)
  ranks =
      let z : i - cur.at ≡ length (lead_word (drop cur.at text)) = omega arith in
      h ∙ rw (z, lead_take (drop cur.at text))

  pub ranks_in : r < length table → (r ≡ rank_p (keywords_of table) text (Ok cur)) × (Ok (record { at = i; w = cur.w }) ≡ ranked_p (keywords_of table) text (Ok cur))
  ranks_in l =
      let k : rank (lead_word (drop cur.at text)) (keywords_of table) < length (keywords_of table) = omega (arith, ranks, words_length table) in
      (ranks, rw (lt-ltb _ _ k, e))

  pub ranks_out : length table ≤ r → (r ≡ rank_p (keywords_of table) text (Ok cur)) × (Ok cur ≡ ranked_p (keywords_of table) text (Ok cur))
  ranks_out l =
      let k : length (keywords_of table) ≤ rank (lead_word (drop cur.at text)) (keywords_of table) = omega (arith, ranks, words_length table) in
      (ranks, rw (le-ltb _ _ k))

-- a word of a table without empty ones is not empty
pub rank_full : (w : List ℕ) (table : List (List ℕ)) → T (full table) → rank w table < length table → 1 ≤ length w
unfolding rank same_word
rank_full (x ∷ w) table f h = omega arith
rank_full [] [] f h = absurd (omega arith)
rank_full [] ([] ∷ ks) f h = absurd f
rank_full [] ((y ∷ k) ∷ ks) f h =
    let e : suc (rank [] ks) < suc (length ks) = h in
    rank_full [] ks f (omega arith)

-- ---- the laws of `rank_if`
rank_run : {A : Type 0} (table : List (List ℕ)) (f : ℕ → Prog A) (g : Prog A) (text : List ℕ) (i : ℕ) (z : Bool) → ltb (rank (lead_word (drop i text)) table) (length table) ≡ z → run (rank_if table f g) i (drop i text) ≡ run (elim z [ true ↦ eat_n (length (lead_word (drop i text))) (f (rank (lead_word (drop i text)) table)) | false ↦ g ]) i (drop i text)
unfolding run rank_if
rank_run table f g text i z e = ap (λ (y : Bool). run (elim y [ true ↦ eat_n (length (lead_word (drop i text))) (f (rank (lead_word (drop i text)) table)) | false ↦ g ]) i (drop i text)) e

module _ {A : Type 0} (text : List ℕ) (p q : Parsed) (r : ℕ) (table : List (List ℕ)) (f : ℕ → Prog A) (g : Prog A) (o : (r ≡ rank_p table text p) × (q ≡ ranked_p table text p)) where
  hit : r < length table → (cur : Cursor) → p ≡ Ok cur → rank (lead_word (drop cur.at text)) table < length table
  hit h cur t = let e : r ≡ rank (lead_word (drop cur.at text)) table = rw t at o.0 in omega arith

  -- behind the word
  behind : (h : r < length table) (cur : Cursor) → p ≡ Ok cur → Inside text cur → q ≡ passed text (length (lead_word (drop cur.at text))) (Ok cur)
  behind h cur t i =
      o.1 ∙ rw (t, lt-ltb _ _ (hit h cur t)) (sym (pass_in text (length (lead_word (drop cur.at text))) cur i.inside (lead_le (drop cur.at text))))

  miss : length table ≤ r → (cur : Cursor) → p ≡ Ok cur → ltb (rank (lead_word (drop cur.at text)) table) (length table) ≡ false
  miss h cur t = let e : r ≡ rank (lead_word (drop cur.at text)) table = rw t at o.0 in let l : length table ≤ rank (lead_word (drop cur.at text)) table = omega arith in le-ltb _ _ l

  still : length table ≤ r → q ≡ p
  still h = go p refl
    where
      go : (y : Parsed) → p ≡ y → q ≡ p
      go (Ok cur) t = o.1 ∙ rw (t, miss h cur t)
      go (Err r) t = o.1 ∙ rw t

  not_here : {B : Type 0} → r < length table → (e x : ℕ) → p ≡ Refused e x → B
  not_here h e x t = absurd (let z : r ≡ length table = rw t at o.0 in omega arith)

  runs_yes : r < length table → (cur : Cursor) → p ≡ Ok cur → run (rank_if table f g) cur.at (drop cur.at text) ≡ run (f r) (cur.at + length (lead_word (drop cur.at text))) (drop (cur.at + length (lead_word (drop cur.at text))) text)
  runs_yes h cur t =
      let e : r ≡ rank (lead_word (drop cur.at text)) table = rw t at o.0 in
      rank_run table f g text cur.at true (lt-ltb _ _ (hit h cur t)) ∙ rw e (run_eat_n (length (lead_word (drop cur.at text))) (f (rank (lead_word (drop cur.at text)) table)) text cur.at (lead_le (drop cur.at text)))

  runs_no : length table ≤ r → (cur : Cursor) → p ≡ Ok cur → run (rank_if table f g) cur.at (drop cur.at text) ≡ run g cur.at (drop cur.at text)
  runs_no h cur t = rank_run table f g text cur.at false (miss h cur t)

module _ {A : Type 0} {text : List ℕ} {p q : Parsed} {r : ℕ} (table : List (List ℕ)) (f : ℕ → Prog A) (g : Prog A) (o : (r ≡ rank_p table text p) × (q ≡ ranked_p table text p)) where
  module _ {mid : List ℕ} {E : Goal A} {p0 p' : Parsed} {w w' : List ℕ} {c : ℕ} where
    pub rank_yes : r < length table → Leads (f r) c mid E text p0 q w p' w' → Leads (rank_if table f g) c mid E text p0 p w p' w'
    rank_yes h s = record {
      runs = λ b low k cur t a.
          subst (λ (v : Res A). E.ends b k low v p' w') (sym (runs_yes text p q r table f g o h cur t)) (moved c (length (lead_word (drop cur.at text))) c cur (behind text p q r table f g o h cur t (record { inside = a.inside; small = a.small })) (lead_le (drop cur.at text)) (omega arith) b low k a s);
      hands = λ e x t. not_here text p q r table f g o h e x t;
    }

    -- and a word of a table without empty ones pays for three words at least
    pub rank_paid : T (full table) → r < length table → Leads (f r) (c + 3) mid E text p0 q w p' w' → Leads (rank_if table f g) c mid E text p0 p w p' w'
    rank_paid u h s = record {
      runs = λ b low k cur t a.
          let l : 1 ≤ length (lead_word (drop cur.at text)) = rank_full (lead_word (drop cur.at text)) table u (hit text p q r table f g o h cur t) in
          subst (λ (v : Res A). E.ends b k low v p' w') (sym (runs_yes text p q r table f g o h cur t)) (moved c (length (lead_word (drop cur.at text))) (c + 3) cur (behind text p q r table f g o h cur t (record { inside = a.inside; small = a.small })) (lead_le (drop cur.at text)) (omega arith) b low k a s);
      hands = λ e x t. not_here text p q r table f g o h e x t;
    }

    pub rank_no : length table ≤ r → Leads g c mid E text p0 q w p' w' → Leads (rank_if table f g) c mid E text p0 p w p' w'
    rank_no h s = record {
      runs = λ b low k cur t a. subst (λ (v : Res A). E.ends b k low v p' w') (sym (runs_no text p q r table f g o h cur t)) (s.runs b low k cur (still text p q r table f g o h ∙ t) a);
      hands = λ e x t. s.hands e x (still text p q r table f g o h ∙ t);
    }

  module _ {E : Aim A} {p' : Parsed} where
    pub g_rank_yes : r < length table → Finds (f r) E text q p' → Finds (rank_if table f g) E text p p'
    g_rank_yes h s = record {
      runs = λ cur t i. subst (λ (v : Res A). E.ends cur.at cur.w v p') (sym (runs_yes text p q r table f g o h cur t)) (g_moved (length (lead_word (drop cur.at text))) cur (behind text p q r table f g o h cur t i) (lead_le (drop cur.at text)) i s);
      hands = λ e x t. not_here text p q r table f g o h e x t;
    }

    pub g_rank_no : length table ≤ r → Finds g E text q p' → Finds (rank_if table f g) E text p p'
    g_rank_no h s = record {
      runs = λ cur t i. subst (λ (v : Res A). E.ends cur.at cur.w v p') (sym (runs_no text p q r table f g o h cur t)) (s.runs cur (still text p q r table f g o h ∙ t) i);
      hands = λ e x t. s.hands e x (still text p q r table f g o h ∙ t);
    }

    -- either way
    pub g_rank_any : (r < length table → Finds (f r) E text q p') → (length table ≤ r → Finds g E text q p') → Finds (rank_if table f g) E text p p'
    g_rank_any h k = go (ltb r (length table)) refl
      where
        go : (b : Bool) → ltb r (length table) ≡ b → Finds (rank_if table f g) E text p p'
        go true e = g_rank_yes (ltb-true _ _ e) (h (ltb-true _ _ e))
        go false e = g_rank_no (ltb-false _ _ e) (k (ltb-false _ _ e))
