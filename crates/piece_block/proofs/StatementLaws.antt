-- The laws of opcodes and of statements: a keyword that a word spells has its rank, and what a statement gives is told by its kind.
-- Assumes nothing.
use mathlib.Core.Path.{◌≡◌, refl, sym, ap, ◌∙◌, subst}
use mathlib.Core.Bool.{Bool, true, false}
use mathlib.Core.List.{List, [], ◌∷◌, ◌++◌}
use Prim.Native.Nat.{ℕ, zero, suc, ◌+◌, ◌-◌, ◌≤◌, ◌<◌}
use native.Mathlib.Omega.{arith}
use lib.ListN.{length, take, drop, length-drop}
use Rattle.program.specs.Prog.{Prog, ret, Res, ok, run, ◌>>=◌}
use Rattle.records.specs.Words.{pack}
use borrow.Author.Tests.{eq-eqb, ne_eqb}
use Rattle.grammar.specs.Counter.{counted, takes_next, named}
use Rattle.grammar.specs.Instructions.{uncounted}
use Rattle.grammar.specs.Lexer.{refuse, place, same_word, rank, byte_if, Word, plain, quoted, size_of, is_empty, is_empty_word, spelled, read_word}
use Rattle.grammar.specs.Body.{Statement, label, instruction, opcode, Where, in_block, entered, labelled, statement_of}
use Rattle.lexer_names.specs.Names.{part, is_quoted, inner, raw_word}
use Rattle.lexer.specs.Reads.{Budget, At, Ends, at, out, Leads, Goal, made, same, Gave, got, not as is-not, Gives}
use Rattle.lexer.specs.declared.Cursor.{Cursor}
use Rattle.lexer.specs.Parsed.{Parsed}
use Rattle.lexer.specs.Step.{refused_at}
use Rattle.lexer.proofs.Laws.{g_done, done, same_word_lem, after, bind_at, true_false, at_less, at_place, at_part, at_whole, spare, g_fail_at}
use Rattle.lexer_names.proofs.Passed.{word_long}
use Rattle.inst_operands.specs.Rich.{richly}
use Rattle.inst_operands.proofs.RichLaws.{enrich, then_rich}
use Rattle.piece_block.specs.Stated.{Which, a_label, an_instruction, StatementEnds, stated_at, no_statement, stated_by}

-- ---- opcodes
pub above : {k r : ℕ} → k ≤ r → (r ≡ k → ⊥) → k + 1 ≤ r
above l n = omega arith

-- a reader behind its opcode, whose bytes pay for three words
module _ {A : Type 0} {f : Prog A} {d : ℕ} {mid : List ℕ} {E : Goal A} {text : List ℕ} {p0 p p' : Parsed} {w w' : List ℕ} where
  pub paid : Leads f d mid E text p0 p w p' w' → d ≤ 3 → Leads f 3 mid (richly text E) text p0 p w p' w'
  paid h l = enrich (spare d l h)

  pub paid_rich : Leads f d mid (richly text E) text p0 p w p' w' → d ≤ 3 → Leads f 3 mid (richly text E) text p0 p w p' w'
  paid_rich h l = spare d l h

-- one that takes no number
pub uncounted_is : {f : Prog (List ℕ)} (c d : ℕ) {text : List ℕ} {p p' : Parsed} {w w' : List ℕ} → Leads f d [] (richly text (made same text p)) text p p w p' w' → Leads (uncounted c f) d [] (richly text (made (counted c) text p)) text p p w p' w'
unfolding uncounted
uncounted_is c d {w = w} h = spare (d + 0) (omega arith) (then_rich d _ {c = 0} h (λ ws. enrich done))

-- the rank of a word is that of the keyword that it spells
pub rank_same : {r : Bool} {k : ℕ} (w kw : List ℕ) (t : List (List ℕ)) → k ≡ rank kw t → r ≡ same_word w kw → r ≡ true → k ≡ rank w t
rank_same w kw t e i y = e ∙ ap (λ (v : List ℕ). rank v t) (sym (same_word_lem w kw (sym i ∙ y)))

-- ---- statements
-- what a statement gives, as the code says it
pub is_stated : (s : Statement) {kind m d c : ℕ} {mid : List ℕ} {text : List ℕ} {p0 p : Parsed} {w : List ℕ} → Which kind m d s mid → Leads (ret s) c mid (stated_by kind m d text p0) text p0 p w p w
unfolding run
is_stated s {kind} {m} {d} {c} {mid} {text} {p0} {p} {w} h = record {
  runs = λ b low k cur e a. subst (λ (z : Parsed). StatementEnds kind m d b text p0 k low (ok s cur.at) z w) (sym e) (stated_at h (at_less k (omega arith) a));
  hands = λ e q t. t;
}

-- an instruction behind its `%`
pub call_instruction : {f : Prog Statement} {c : ℕ} (m d : ℕ) {text : List ℕ} {p0 p p' : Parsed} {w w' : List ℕ} → Leads f c [] (richly text (made (instruction d) text p)) text p p w p' w' → Leads f c [] (richly text (stated_by 1 m d text p0)) text p0 p w p' w'
call_instruction {f} {c} m d {text} {p0} {p} {p'} {w} {w'} r = record {
  runs = λ b low k cur e a x. go b low k a (r.runs b (low ++ []) k cur e (at_part e a) x);
  hands = r.hands;
}
  where
    go : (b : Budget) (low : List ℕ) (k : ℕ) {cur : Cursor} → At b text p0 (c + k) low [] cur w → {y : Parsed} {v : List ℕ} {z : Res Statement} → Ends b text p k (low ++ []) (instruction d) z y v → StatementEnds 1 m d b text p0 k low z y v
    go b low k a (at h) = stated_at (an_instruction refl) (at_whole a h)
    go b low k a out = no_statement

-- a label, whose word is that of its place and its length
take_le : (n : ℕ) (l : List ℕ) → length (take n l) ≤ length l
take_le zero l = omega arith
take_le (suc n) [] = omega arith
take_le (suc n) (x ∷ l) = omega (arith, take_le n l)

raw_size : (raw : List ℕ) → size_of (raw_word raw) ≤ length raw + 2
unfolding raw_word size_of
raw_size raw = go (is_quoted raw)
  where
    go : (b : Bool) → size_of (elim b [ true ↦ quoted (inner raw) | false ↦ plain raw ]) ≤ length raw + 2
    go true = omega (arith, take_le (length raw - 2) (drop 1 raw), length-drop 1 raw)
    go false = omega arith

pub is_label : {c : ℕ} {text : List ℕ} {p0 p : Parsed} {w : List ℕ} (d i n m from to : ℕ) → n ≡ to - from → size_of (raw_word (part text from to)) ≡ to - from → i ≤ 16777216 → (i < 4294967296 → n < 4294967296 → m ≡ pack i n) → Leads (ret (label d (pack i (size_of (raw_word (part text from to)))))) c [] (stated_by 0 m d text p0) text p0 p w p w
is_label {c} {text} {p0} {p} {w} d i n m from to e s l f = record {
  runs = λ b low k cur t a.
      let o : length (part text from to) ≤ length (drop from text) = take_le (to - from) (drop from text) in
      let z : n < 4294967296 = omega (arith, raw_size (part text from to), length-drop from text, a.small) in
      let y : m ≡ pack i (size_of (raw_word (part text from to))) = f (omega arith) z ∙ ap (pack i) (e ∙ sym s) in
      (is_stated (label d (pack i (size_of (raw_word (part text from to))))) (subst (λ (v : ℕ). Which 0 m d (label d v) []) y (a_label refl))).runs b low k cur t a;
  hands = λ e q t. t;
}

-- a word with bytes in it, which pay for three words
filled_size : (w : Word) → is_empty_word w ≡ false → 1 ≤ size_of w
unfolding is_empty_word is_empty size_of
filled_size (plain []) h = true_false (sym h)
filled_size (plain (x ∷ w)) h = omega arith
filled_size (quoted []) h = true_false (sym h)
filled_size (quoted (x ∷ w)) h = omega arith

pub word_then : {B : Type 0} (h : Word → Prog B) {v : Word} {c : ℕ} {mid : List ℕ} {E : Goal B} {text : List ℕ} {p0 p p1 p' : Parsed} {w w' : List ℕ} → Gives read_word v text p p1 → is_empty_word v ≡ false → Leads (h v) (c + 3) mid E text p0 p1 w p' w' → Leads (read_word >>= h) c mid E text p0 p w p' w'
unfolding after
word_then {B} h {v} {c} {mid} {E} {text} {p0} {p} {p1} {p'} {w} {w'} r n s = record {
  runs = λ b low k cur e i. subst (λ (z : Res B). E.ends b k low z p' w') (sym (bind_at read_word h text cur.at)) (go b low k cur i (λ j x. word_long cur.at j (drop cur.at text) v x) s (r.runs cur e (record { inside = i.inside; small = i.small })));
  hands = λ e q i. s.hands e q (r.hands e q i);
}
  where
    go : (b : Budget) (low : List ℕ) (k : ℕ) (cur : Cursor) → At b text p0 (c + k) low mid cur w → {z : Res Word} → ((j : ℕ) → z ≡ ok v j → cur.at + size_of v ≤ j) → {y : Parsed} → Leads (h v) (c + 3) mid E text p0 y w p' w' → Gave text v cur.at cur.w z y → E.ends b k low (after h text z) p' w'
    go b low k cur i o t (got {cur = cur2} l x y) = t.runs b low k cur2 refl (subst (λ (u : ℕ). At b text p0 (c + 3 + k) low mid (record { at = cur2.at; w = u }) w) (sym y) (at_place cur2.at (c + 3 + k) l x (omega (arith, o cur2.at refl, filled_size v n)) i))
    go b low k cur i o t (is-not {e = e} {q = q}) = rw (t.hands e q refl) (E.outs b k low e q w')

module _ {c : ℕ} {mid : List ℕ} {E : Goal Statement} {text : List ℕ} {p0 p p' : Parsed} {w w' : List ℕ} (i : ℕ) (b : Where) where
  pub statement_none : (v : Word) → is_empty_word v ≡ true → Leads (refuse 8) c mid E text p0 p w p' w' → Leads (statement_of i b v) c mid E text p0 p w p' w'
  unfolding statement_of
  statement_none v h f = rw (statement_of, h) f

  pub statement_some : (v : Word) → is_empty_word v ≡ false → Leads (place >>= λ j. byte_if 58 (labelled j b v >>= λ d. ret (label d (pack i (size_of v)))) (entered i b >>= λ d. opcode d (spelled v))) c mid E text p0 p w p' w' → Leads (statement_of i b v) c mid E text p0 p w p' w'
  unfolding statement_of
  statement_some v h f = rw (statement_of, h) f

-- ---- the counter of a block
pub entered_not : {text : List ℕ} {p : Parsed} (i c l n : ℕ) → (l ≡ 0 → ⊥) → Gives (entered i (in_block c l n)) c text p p
unfolding entered
entered_not i c l n h = rw (entered, ne_eqb _ _ h) g_done

pub entered_later : {text : List ℕ} {p : Parsed} (i c l n : ℕ) → l ≡ 0 → (n ≡ 0 → ⊥) → Gives (entered i (in_block c l n)) c text p p
unfolding entered
entered_later i c l n e h = rw (entered, eq-eqb _ _ e, ne_eqb _ _ h) g_done

pub entered_first : {text : List ℕ} {p p' : Parsed} {a : ℕ} (i c l n : ℕ) → l ≡ 0 → n ≡ 0 → Gives (takes_next i c) a text p p' → Gives (entered i (in_block c l n)) a text p p'
unfolding entered
entered_first i c l n e h g = rw (entered, eq-eqb _ _ e, eq-eqb _ _ h) g

pub labelled_first : {text : List ℕ} {p p' : Parsed} {a : ℕ} (i c l n : ℕ) (v : Word) → n ≡ 0 → Gives (named i c v) a text p p' → Gives (labelled i (in_block c l n) v) a text p p'
unfolding labelled
labelled_first i c l n v h g = rw (labelled, eq-eqb _ _ h) g

pub labelled_late : {text : List ℕ} {p p' : Parsed} {a : ℕ} (i c l n : ℕ) (v : Word) → (n ≡ 0 → ⊥) → p' ≡ refused_at 26 i p → Gives (labelled i (in_block c l n) v) a text p p'
unfolding labelled
labelled_late i c l n v h e = rw (labelled, ne_eqb _ _ h) (g_fail_at 26 i e)
