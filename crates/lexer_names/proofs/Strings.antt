-- Names and byte strings: what their programs do at a place. Each is one scan, and place and state where it stops decide the answer.
-- Assumes nothing.
use mathlib.Core.Path.{◌≡◌, refl, sym, ap, ◌∙◌, subst}
use mathlib.Core.List.{List, [], ◌∷◌}
use mathlib.Core.Bool.{Bool, true, false}
use mathlib.Core.Option.{Option, none, some}
use Prim.Native.Nat.{ℕ, zero, suc, ◌+◌, ◌-◌, ◌≤◌, ◌<◌}
use native.Mathlib.Nat.{add-zero}
use native.Mathlib.Omega.{arith}
use lib.ListN.{length, get_or, take, drop, length-drop, drop_of_length-le}
use lib.Seq.{length-take-le, take-take, drop-drop, get_or-drop}
use lib.Dec.{eqb, ltb}
use Rattle.std.proofs.Math.Option.{some-injective, some-ne-none, none-ne-some}
use Rattle.program.specs.Class.{is_hex}
use borrow.Author.Tests.{eq-eqb, ne_eqb, eqb-true, ltb-true, ltb-false}
use Rattle.program.specs.Choice.{pick}
use Rattle.program.specs.Prog.{ret, fail, here, scan, ok, no_at, run, byte_at, scan_len}
use Rattle.program.specs.Local.{scan_len_le}
use Rattle.records.specs.Words.{pack}
use Rattle.grammar.specs.Lexer.{refuse, is_byte, byte_if, state_of, name_step, quote_step, Word, plain, quoted, size_of, is_empty, is_empty_word, quote_end, read_word, name_of, balance_step, cstring_step, cstring_end, cstring_at}
use Rattle.lexer.specs.Step.{bumped, taken, StopAt}
use Rattle.lexer.specs.Reads.{Aim, Finds, Gives, Inside}
use Rattle.lexer_names.specs.Names.{part, is_quoted, inner, raw_word, WordIs, no_word, plain_step, step_at}
use Rattle.lexer.specs.declared.Cursor.{Cursor}
use Rattle.lexer.specs.Parsed.{Parsed, Ok, Refused}
use Rattle.lexer.specs.declared.Stop.{Stop}
use Rattle.program.specs.Lists.{drop_next}
use Rattle.lexer.proofs.Scan.{Going, going_more, going_stop, going_out, scan_some, scan_stop, byte_inside, byte_in}
use Rattle.lexer.proofs.Laws.{bump_in, byte_run, run_eat, scan_run, some_byte, given, gone, kept, g_done}

-- ---- up to the byte that closes
module _ (l r : ℕ) (s : List ℕ) (i q : ℕ) (h : i < length s) where
  pub balance_left : get_or s i 0 ≡ l → i + scan_len (balance_step l r) q (drop i s) ≡ i + 1 + scan_len (balance_step l r) (q + 1) (drop (i + 1) s)
  unfolding balance_step
  balance_left e = scan_some (balance_step l r) s i q (q + 1) h (rw (eq-eqb _ _ e))

  module _ (n : get_or s i 0 ≡ l → ⊥) where
    pub balance_other : (get_or s i 0 ≡ r → ⊥) → i + scan_len (balance_step l r) q (drop i s) ≡ i + 1 + scan_len (balance_step l r) q (drop (i + 1) s)
    unfolding balance_step
    balance_other m = scan_some (balance_step l r) s i q q h (rw (ne_eqb _ _ n, ne_eqb _ _ m))

    pub balance_right : get_or s i 0 ≡ r → (q ≡ 0 → ⊥) → i + scan_len (balance_step l r) q (drop i s) ≡ i + 1 + scan_len (balance_step l r) (q - 1) (drop (i + 1) s)
    unfolding balance_step
    balance_right e m = scan_some (balance_step l r) s i q (q - 1) h (rw (ne_eqb _ _ n, eq-eqb _ _ e, ne_eqb _ _ m))

    pub balance_stop : get_or s i 0 ≡ r → q ≡ 0 → i + scan_len (balance_step l r) q (drop i s) ≡ i
    unfolding balance_step
    balance_stop e m = scan_stop (balance_step l r) s i q h (rw (ne_eqb _ _ n, eq-eqb _ _ e, eq-eqb _ _ m))

take_le : (n : ℕ) (s : List ℕ) → length (take n s) ≤ length s
take_le zero s = omega arith
take_le (suc n) [] = omega arith
take_le (suc n) (x ∷ s) = omega (arith, take_le n s)

-- ---- words as they stand
quoted_no : (s : List ℕ) (n : ℕ) → is_byte 34 (byte_at s) ≡ false → is_quoted (take n s) ≡ false
unfolding is_byte byte_at is_quoted
quoted_no s zero h = refl
quoted_no [] (suc n) h = refl
quoted_no (x ∷ s) (suc n) h = h

raw_plain : (s : List ℕ) (n : ℕ) → is_byte 34 (byte_at s) ≡ false → raw_word (take n s) ≡ plain (take n s)
unfolding raw_word
raw_plain s n h = ap {B = Word} (λ (z : Bool). elim z [ true ↦ quoted (inner (take n s)) | false ↦ plain (take n s) ]) (quoted_no s n h)

raw_of : (x : ℕ) (r : List ℕ) (n : ℕ) → eqb x 34 ≡ true → suc n ≤ length r → raw_word (x ∷ take (suc n) r) ≡ quoted (take n r)
unfolding raw_word is_quoted
raw_of x r n h l =
    let k : length (take (suc n) r) ≡ suc n = length-take-le (suc n) r l in
    let m : suc (length (take (suc n) r)) - 2 ≡ n = omega arith in
    ap {B = Word} (λ (z : Bool). elim z [ true ↦ quoted (inner (x ∷ take (suc n) r)) | false ↦ plain (x ∷ take (suc n) r) ]) h
    ∙ ap quoted (ap (λ (i : ℕ). take i (take (suc n) r)) m ∙ take-take n (suc n) r (omega arith))

empty_is : (w : List ℕ) (i : ℕ) → eqb (i + length w) i ≡ is_empty w
unfolding is_empty
empty_is [] i = eq-eqb _ _ (add-zero i)
empty_is (x ∷ w) i =
    let n : (i + suc (length w) ≡ i → ⊥) = λ e. omega arith in
    ne_eqb _ _ n

-- a name without quotes, which ends at i
pub word_plain : (text : List ℕ) (cur : Cursor) (i : ℕ) → is_byte 34 (byte_at (drop cur.at text)) ≡ false → i ≡ cur.at + scan_len name_step 0 (drop cur.at text) → WordIs text (Ok cur) (record { p = Ok (record { at = i; w = cur.w }); start = cur.at; end = i; empty = eqb i cur.at })
unfolding read_word run size_of is_empty_word
word_plain text cur i b e =
    let n : ℕ = scan_len name_step 0 (drop cur.at text) in
    let z : i - cur.at ≡ n = omega arith in
    let l : length (take n (drop cur.at text)) ≡ n = length-take-le n (drop cur.at text) (scan_len_le name_step 0 (drop cur.at text)) in
    let y : raw_word (part text cur.at i) ≡ plain (take n (drop cur.at text)) = rw z (raw_plain (drop cur.at text) n b) in
    let r : run read_word cur.at (drop cur.at text) ≡ ok (plain (take n (drop cur.at text))) i =
    byte_run 34 (scan quote_step 0 quote_end) (scan name_step 0 (λ w. ret (plain w))) text cur.at false b ∙ ap (ok (plain (take n (drop cur.at text)))) (sym e) in
    record {
      gives = given cur i (λ h. r ∙ ap (λ (w : Word). ok w i) (sym y));
      size = ap size_of y ∙ l ∙ sym z;
      none = subst (λ (w : Word). eqb i cur.at ≡ is_empty_word w) (sym y) (subst (λ (k : ℕ). eqb k cur.at ≡ is_empty_word (plain (take n (drop cur.at text)))) (ap (λ (k : ℕ). cur.at + k) l ∙ sym e) (empty_is (take n (drop cur.at text)) cur.at));
    }

-- a refusal, and one that is handed on
pub word_none : (text : List ℕ) (cur : Cursor) (e i : ℕ) → run read_word cur.at (drop cur.at text) ≡ no_at e i → WordIs text (Ok cur) (no_word e i)
unfolding raw_word is_quoted size_of is_empty_word is_empty
word_none text cur e i h = record { gives = gone cur e i (λ x. h); size = refl; none = refl }

pub word_kept : (text : List ℕ) (e i : ℕ) → WordIs text (Refused e i) (no_word e i)
unfolding raw_word is_quoted size_of is_empty_word is_empty
word_kept text e i = record { gives = kept e i; size = refl; none = refl }

-- between quotes
end_run : (w : List ℕ) (i : ℕ) (s : List ℕ) (z : Bool) → eqb (state_of quote_step 0 w) 0 ≡ z → run (quote_end w) i s ≡ run (elim z [ true ↦ byte_if 34 (ret (quoted w)) (refuse 13) | false ↦ refuse 14 ]) i s
unfolding quote_end
end_run w i s z e = ap (λ (y : Bool). run (elim y [ true ↦ byte_if 34 (ret (quoted w)) (refuse 13) | false ↦ refuse 14 ]) i s) e

module _ (text : List ℕ) (cur : Cursor) (b : is_byte 34 (byte_at (drop cur.at text)) ≡ true) (x : Stop) (st : StopAt quote_step text (cur.at + 1) x) where
  w : List ℕ
  w = taken quote_step 0 (drop (cur.at + 1) text)

  behind : run read_word cur.at (drop cur.at text) ≡ run (quote_end w) x.at (drop x.at text)
  unfolding read_word w
  behind =
      byte_run 34 (scan quote_step 0 quote_end) (scan name_step 0 (λ v. ret (plain v))) text cur.at true b
      ∙ run_eat (scan quote_step 0 quote_end) text cur.at (some_byte 34 (drop cur.at text) b)
      ∙ scan_run quote_step 0 quote_end text (cur.at + 1)
      ∙ ap (λ (j : ℕ). run (quote_end (taken quote_step 0 (drop (cur.at + 1) text))) j (drop j text)) (sym st.place)

  pub quote_bad : (x.q ≡ 0 → ⊥) → run read_word cur.at (drop cur.at text) ≡ no_at 14 x.at
  unfolding refuse run w
  quote_bad n = behind ∙ end_run w x.at (drop x.at text) false (ne_eqb _ _ (λ e. n (st.state ∙ e)))

  module _ (o : x.q ≡ 0) where
    at_end : run read_word cur.at (drop cur.at text) ≡ run (byte_if 34 (ret (quoted w)) (refuse 13)) x.at (drop x.at text)
    unfolding w
    at_end = behind ∙ end_run w x.at (drop x.at text) true (eq-eqb _ _ (sym st.state ∙ o))

    pub quote_open : is_byte 34 (byte_at (drop x.at text)) ≡ false → run read_word cur.at (drop cur.at text) ≡ no_at 13 x.at
    unfolding refuse run
    quote_open h = at_end ∙ byte_run 34 (ret (quoted w)) (refuse 13) text x.at false h

    pub word_quoted : is_byte 34 (byte_at (drop x.at text)) ≡ true → WordIs text (Ok cur) (record { p = Ok (record { at = x.at + 1; w = cur.w }); start = cur.at; end = x.at + 1; empty = eqb x.at (cur.at + 1) })
    unfolding run w size_of is_empty_word
    word_quoted h =
        let n : ℕ = scan_len quote_step 0 (drop (cur.at + 1) text) in
        let i : cur.at < length text = byte_inside text cur.at 34 b in
        let j : x.at < length text = byte_inside text x.at 34 h in
        let d : length (drop (cur.at + 1) text) ≡ length text - (cur.at + 1) = length-drop (cur.at + 1) text in
        let k : suc n ≤ length (drop (cur.at + 1) text) = omega (arith, st.place) in
        let z : x.at + 1 - cur.at ≡ suc (suc n) = omega (arith, st.place) in
        let f : eqb (get_or text cur.at 0) 34 ≡ true = sym (byte_in text cur.at 34 (omega arith) i) ∙ b in
        let y : raw_word (part text cur.at (x.at + 1)) ≡ quoted w = rw (z, drop_next text cur.at i) (raw_of (get_or text cur.at 0) (drop (cur.at + 1) text) n f k) in
        let l : length w ≡ n = length-take-le n (drop (cur.at + 1) text) (scan_len_le quote_step 0 (drop (cur.at + 1) text)) in
        let r : run read_word cur.at (drop cur.at text) ≡ ok (quoted w) (x.at + 1) =
        at_end ∙ byte_run 34 (ret (quoted w)) (refuse 13) text x.at true h ∙ run_eat (ret (quoted w)) text x.at (some_byte 34 (drop x.at text) h) in
        record {
          gives = given cur (x.at + 1) (λ u. r ∙ ap (λ (v : Word). ok v (x.at + 1)) (sym y));
          size = ap size_of y ∙ omega (arith, st.place);
          none = subst (λ (v : Word). eqb x.at (cur.at + 1) ≡ is_empty_word v) (sym y) (subst (λ (m : ℕ). eqb m (cur.at + 1) ≡ is_empty_word (quoted w)) (ap (λ (m : ℕ). cur.at + 1 + m) l ∙ sym st.place) (empty_is w (cur.at + 1)));
        }

-- ---- a name's word
pub name_none : {E : Aim ℕ} {text : List ℕ} {p p' : Parsed} (i : ℕ) (w : Word) → is_empty_word w ≡ true → Finds (refuse 3) E text p p' → Finds (name_of i w) E text p p'
unfolding name_of
name_none i w h f = rw (name_of, h) f

named : {text : List ℕ} {p : Parsed} (i : ℕ) (w : Word) → is_empty_word w ≡ false → Gives (name_of i w) (pack i (size_of w)) text p p
unfolding name_of
named i w h = rw (name_of, h) g_done

raw_size : (raw : List ℕ) → size_of (raw_word raw) ≤ length raw + 2
unfolding raw_word size_of
raw_size raw = go (is_quoted raw)
  where
    go : (b : Bool) → size_of (elim b [ true ↦ quoted (inner raw) | false ↦ plain raw ]) ≤ length raw + 2
    go true = omega (arith, take_le (length raw - 2) (drop 1 raw), length-drop 1 raw)
    go false = omega arith

-- v is the word of i and n, where both fit
pub name_some : {text : List ℕ} {p : Parsed} (i n v from to : ℕ) → n ≡ to - from → size_of (raw_word (part text from to)) ≡ to - from → is_empty_word (raw_word (part text from to)) ≡ false → i ≤ 16777216 → (i < 4294967296 → n < 4294967296 → v ≡ pack i n) → Gives (name_of i (raw_word (part text from to))) v text p p
name_some {text} {p} i n v from to e s h l f = record {
  runs = λ cur t x.
      let a : length (part text from to) ≤ length (drop from text) = take_le (to - from) (drop from text) in
      let k : n < 4294967296 = omega (arith, raw_size (part text from to), length-drop from text, x.small) in
      let y : v ≡ pack i (size_of (raw_word (part text from to))) = f (omega arith) k ∙ ap (pack i) (e ∙ sym s) in
      rw y ((named i (raw_word (part text from to)) h).runs cur t x);
  hands = λ m q t. t;
}

-- ---- byte strings
-- bytes that stand for themselves leave the automaton in state 0
module _ (x : ℕ) (s : List ℕ) where
  plain_ends : plain_step 0 x ≡ none → scan_len plain_step 0 (x ∷ s) ≡ 0
  unfolding scan_len
  plain_ends e = rw (scan_len, e) refl

  module _ (e : plain_step 0 x ≡ some 0) (f : cstring_step 0 x ≡ some 0) where
    plain_more : scan_len plain_step 0 (x ∷ s) ≡ suc (scan_len plain_step 0 s)
    unfolding scan_len
    plain_more = rw (scan_len, e) refl

    plain_passed : scan_len cstring_step 0 (x ∷ s) ≡ suc (scan_len cstring_step 0 s)
    unfolding scan_len
    plain_passed = rw (scan_len, f) refl

    plain_kept : state_of cstring_step 0 (taken cstring_step 0 (x ∷ s)) ≡ state_of cstring_step 0 (taken cstring_step 0 s)
    unfolding state_of
    plain_kept = rw (plain_passed, state_of, f) refl

-- the first n bytes stand for themselves, and no more
record PlainTo (s : List ℕ) (n : ℕ) : Type 0 where
  place : scan_len cstring_step 0 s ≡ n + scan_len cstring_step 0 (drop n s)
  state : state_of cstring_step 0 (taken cstring_step 0 s) ≡ state_of cstring_step 0 (taken cstring_step 0 (drop n s))
  stop : n < length s → plain_step 0 (get_or s n 0) ≡ none

plain_to : (s : List ℕ) → PlainTo s (scan_len plain_step 0 s)
unfolding scan_len plain_step cstring_step
plain_to [] = record { place = refl; state = refl; stop = λ h. absurd (omega arith) }
plain_to (x ∷ s) = go (eqb x 34) (eqb x 92) refl refl (plain_to s)
  where
    none_at : plain_step 0 x ≡ none → PlainTo (x ∷ s) (scan_len plain_step 0 (x ∷ s))
    none_at e = rw (plain_ends x s e) (record { place = omega arith; state = refl; stop = λ h. e })

    go : (a b : Bool) → eqb x 34 ≡ a → eqb x 92 ≡ b → PlainTo s (scan_len plain_step 0 s) → PlainTo (x ∷ s) (scan_len plain_step 0 (x ∷ s))
    go true b e f t = none_at (rw e refl)
    go false true e f t = none_at (rw (e, f) refl)
    go false false e f t =
        let p : plain_step 0 x ≡ some 0 = rw (e, f) refl in
        let c : cstring_step 0 x ≡ some 0 = rw (e, f) refl in
        rw (plain_more x s p c) (record {
          place = plain_passed x s p c ∙ omega (arith, t.place);
          state = plain_kept x s p c ∙ t.state;
          stop = λ h. t.stop (omega arith);
        })

-- the automaton is in state 0 at i, where a byte that does not stand for itself is, or the end
abbrev pub Between : (text : List ℕ) (at i : ℕ) → Type 0
Between text at i = Going cstring_step text at i 0 × (i < length text → plain_step 0 (get_or text i 0) ≡ none)

module _ (text : List ℕ) (at i : ℕ) where
  pub between : (j : ℕ) → Going cstring_step text at i 0 → j ≡ i + scan_len plain_step 0 (drop i text) → Between text at j
  between j g e =
      let n : ℕ = scan_len plain_step 0 (drop i text) in
      let d : drop n (drop i text) ≡ drop j text = drop-drop n i text ∙ ap (λ (k : ℕ). drop k text) (sym e) in
      let t : PlainTo (drop i text) n = plain_to (drop i text) in
      let l : scan_len cstring_step 0 (drop i text) ≡ n + scan_len cstring_step 0 (drop j text) = t.place ∙ ap (λ (s : List ℕ). n + scan_len cstring_step 0 s) d in (
        record {
          place = g.place ∙ omega (arith, l, e);
          state = g.state ∙ (t.state ∙ ap (λ (s : List ℕ). state_of cstring_step 0 (taken cstring_step 0 s)) d);
        },
        λ h. rw (e, ← get_or-drop i text n 0) (t.stop (omega (arith, length-drop i text))),
      )

  pub between_stops : is_byte 92 (byte_at (drop i text)) ≡ false → Between text at i → StopAt cstring_step text at (record { at = i; q = 0 })
  unfolding cstring_step plain_step
  between_stops e g = go (ltb i (length text)) refl
    where
      quote : (x : ℕ) → eqb x 92 ≡ false → plain_step 0 x ≡ none → cstring_step 0 x ≡ none
      quote x f p = two (eqb x 34) refl
        where
          two : (a : Bool) → eqb x 34 ≡ a → cstring_step 0 x ≡ none
          two true u = rw u refl
          two false u = absurd (some-ne-none 0 (rw (u, f) at p))

      go : (z : Bool) → ltb i (length text) ≡ z → StopAt cstring_step text at (record { at = i; q = 0 })
      go true t =
          let h : i < length text = ltb-true _ _ t in
          let f : eqb (get_or text i 0) 92 ≡ false = sym (byte_in text i 92 (omega arith) h) ∙ e in
          going_stop cstring_step text at i 0 h (quote (get_or text i 0) f (g.1 h)) g.0
      go false t = going_out cstring_step text at i 0 (ltb-false _ _ t) g.0

-- a step of the automaton at a place, and none
module _ (f : ℕ → ℕ → Option ℕ) (text : List ℕ) (at i q : ℕ) (g : Going f text at i q) where
  step_more : (j r : ℕ) → j ≡ i + 1 → step_at f q (drop i text) ≡ some r → (i < length text) × Going f text at j r
  unfolding step_at
  step_more j r d e = go (ltb i (length text)) refl
    where
      go : (z : Bool) → ltb i (length text) ≡ z → (i < length text) × Going f text at j r
      go true t =
          let h : i < length text = ltb-true _ _ t in
          (h, rw d (going_more f text at i q r h (rw (drop_next text i h) at e) g))
      go false t = absurd (none-ne-some r (rw (drop_of_length-le text (ltb-false _ _ t)) at e))

  pub step_none : step_at f q (drop i text) ≡ none → StopAt f text at (record { at = i; q = q })
  unfolding step_at
  step_none e = go (ltb i (length text)) refl
    where
      go : (z : Bool) → ltb i (length text) ≡ z → StopAt f text at (record { at = i; q = q })
      go true t =
          let h : i < length text = ltb-true _ _ t in
          going_stop f text at i q h (rw (drop_next text i h) at e) g
      go false t = going_out f text at i q (ltb-false _ _ t) g

-- behind `\` and a digit the automaton is in state 2, and behind two digits in state 0 again
one_digit : (s : List ℕ) (r : ℕ) → step_at cstring_step 1 s ≡ some r → (r ≡ 0 → ⊥) → r ≡ 2
unfolding step_at cstring_step
one_digit [] r e n = absurd (none-ne-some r e)
one_digit (x ∷ s) r e n = go (is_hex x) e
  where
    go : (b : Bool) → pick b (some 2) (some 0) ≡ some r → r ≡ 2
    go true u = sym (some-injective _ _ u)
    go false u = absurd (n (sym (some-injective _ _ u)))

two_digits : (s : List ℕ) (r : ℕ) → step_at cstring_step 2 s ≡ some r → r ≡ 0
unfolding step_at cstring_step
two_digits [] r e = absurd (none-ne-some r e)
two_digits (x ∷ s) r e = go (is_hex x) e
  where
    go : (b : Bool) → pick b (some 0) none ≡ some r → r ≡ 0
    go true u = sym (some-injective _ _ u)
    go false u = absurd (none-ne-some r u)

-- an escape, whose `\` is at i: behind the `\`, behind one byte, and behind two
module _ (text : List ℕ) (at i : ℕ) (e : is_byte 92 (byte_at (drop i text)) ≡ true) (g : Between text at i) where
  pub escape_0 : (i < length text) × Going cstring_step text at (i + 1) 1
  unfolding cstring_step
  escape_0 =
      let h : i < length text = byte_inside text i 92 e in
      let b : get_or text i 0 ≡ 92 = eqb-true _ _ (sym (byte_in text i 92 (omega arith) h) ∙ e) in
      (h, going_more cstring_step text at i 0 1 h (rw b refl) g.0)

  module _ (r : ℕ) (o : step_at cstring_step 1 (drop (i + 1) text) ≡ some r) where
    pub escape_1 : (i + 1 < length text) × Going cstring_step text at (i + 2) r
    escape_1 = step_more cstring_step text at (i + 1) 1 escape_0.1 (i + 2) r (omega arith) o

    module _ (n : r ≡ 0 → ⊥) where
      digit : Going cstring_step text at (i + 2) 2
      digit = let z : r ≡ 2 = one_digit (drop (i + 1) text) r o n in rw z at escape_1.1

      pub digit_none : step_at cstring_step 2 (drop (i + 2) text) ≡ none → StopAt cstring_step text at (record { at = i + 2; q = 2 })
      digit_none = step_none cstring_step text at (i + 2) 2 digit

      pub escape_2 : (t : ℕ) → step_at cstring_step 2 (drop (i + 2) text) ≡ some t → (i + 2 < length text) × Going cstring_step text at (i + 3) 0
      escape_2 t u =
          let m : _ = step_more cstring_step text at (i + 2) 2 digit (i + 3) t (omega arith) u in
          let z : t ≡ 0 = two_digits (drop (i + 2) text) t u in
          (m.0, rw z at m.1)

cend_run : (i : ℕ) (w : List ℕ) (j : ℕ) (s : List ℕ) (z : Bool) → eqb (state_of cstring_step 0 w) 0 ≡ z → run (cstring_end i w) j s ≡ run (elim z [ true ↦ byte_if 34 (ret (pack i (length w + 2))) (refuse 13) | false ↦ here (λ k. fail (pick (eqb (state_of cstring_step 0 w) 1) 13 14) (k + 1)) ]) j s
unfolding cstring_end
cend_run i w j s z e = ap (λ (y : Bool). run (elim y [ true ↦ byte_if 34 (ret (pack i (length w + 2))) (refuse 13) | false ↦ here (λ k. fail (pick (eqb (state_of cstring_step 0 w) 1) 13 14) (k + 1)) ]) j s) e

-- at x the string that began at the cursor stops; its quote is at i
module _ (text : List ℕ) (i : ℕ) (cur : Cursor) (x : Stop) (st : StopAt cstring_step text cur.at x) where
  string : List ℕ
  string = taken cstring_step 0 (drop cur.at text)

  c_behind : run (cstring_at i) cur.at (drop cur.at text) ≡ run (cstring_end i string) x.at (drop x.at text)
  unfolding cstring_at string
  c_behind = scan_run cstring_step 0 (cstring_end i) text cur.at ∙ ap (λ (j : ℕ). run (cstring_end i (taken cstring_step 0 (drop cur.at text))) j (drop j text)) (sym st.place)

  c_small : Inside text cur → x.at ≤ 16777216
  c_small h = omega (arith, st.place, scan_len_le cstring_step 0 (drop cur.at text), length-drop cur.at text, h.inside, h.small)

  module _ (n : x.q ≡ 0 → ⊥) (j : ℕ) (e : j ≡ bumped x.at) {v : ℕ} where
    c_cut : (m : ℕ) → pick (eqb (state_of cstring_step 0 string) 1) 13 14 ≡ m → Gives (cstring_at i) v text (Ok cur) (Refused m j)
    unfolding run string
    c_cut m y = gone cur m j (λ h.
        let k : bumped x.at ≡ x.at + 1 = bump_in x.at (omega (arith, c_small h)) in
        c_behind ∙ cend_run i string x.at (drop x.at text) false (ne_eqb _ _ (λ z. n (st.state ∙ z))) ∙ ap (λ (a : ℕ). no_at a (x.at + 1)) y ∙ ap (no_at m) (sym (e ∙ k)))

    pub cstring_cut : x.q ≡ 1 → Gives (cstring_at i) v text (Ok cur) (Refused 13 j)
    unfolding string
    cstring_cut o = c_cut 13 (rw (eq-eqb _ _ (sym st.state ∙ o)))

    pub cstring_bad : (x.q ≡ 1 → ⊥) → Gives (cstring_at i) v text (Ok cur) (Refused 14 j)
    unfolding string
    cstring_bad o =
        let z : (state_of cstring_step 0 (taken cstring_step 0 (drop cur.at text)) ≡ 1 → ⊥) = λ a. o (st.state ∙ a) in
        c_cut 14 (rw (ne_eqb _ _ z))

  module _ (o : x.q ≡ 0) where
    c_end : run (cstring_at i) cur.at (drop cur.at text) ≡ run (byte_if 34 (ret (pack i (length string + 2))) (refuse 13)) x.at (drop x.at text)
    unfolding string
    c_end = c_behind ∙ cend_run i string x.at (drop x.at text) true (eq-eqb _ _ (sym st.state ∙ o))

    pub cstring_open : {v : ℕ} → is_byte 34 (byte_at (drop x.at text)) ≡ false → Gives (cstring_at i) v text (Ok cur) (Refused 13 x.at)
    unfolding refuse run
    cstring_open h = gone cur 13 x.at (λ y. c_end ∙ byte_run 34 (ret (pack i (length string + 2))) (refuse 13) text x.at false h)

    pub cstring_shut : (n v : ℕ) → is_byte 34 (byte_at (drop x.at text)) ≡ true → i ≤ 16777216 → n ≡ x.at - cur.at → (i < 4294967296 → n + 2 < 4294967296 → v ≡ pack i (n + 2)) → Gives (cstring_at i) v text (Ok cur) (Ok (record { at = x.at + 1; w = cur.w }))
    unfolding run string
    cstring_shut n v h l e f = given cur (x.at + 1) (λ y.
        let a : length string ≡ scan_len cstring_step 0 (drop cur.at text) = length-take-le (scan_len cstring_step 0 (drop cur.at text)) (drop cur.at text) (scan_len_le cstring_step 0 (drop cur.at text)) in
        let b : n ≡ length string = omega (arith, st.place) in
        let g : v ≡ pack i (n + 2) = f (omega arith) (omega (arith, c_small y)) in
        c_end ∙ byte_run 34 (ret (pack i (length string + 2))) (refuse 13) text x.at true h ∙ run_eat (ret (pack i (length string + 2))) text x.at (some_byte 34 (drop x.at text) h) ∙ ap (λ (m : ℕ). ok m (x.at + 1)) (sym (g ∙ ap (λ (m : ℕ). pack i (m + 2)) b)))
