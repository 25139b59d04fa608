-- M-103: "a numeral cut anywhere, the rest folded from the first part's state, ends in the whole's state and answer."
-- A fold goes byte by byte, so behind the first part it is where the fold of the whole is there. That its state suffices is `answer`: what the
-- grammar reads, from any text, is what the state says in the end.
-- Assumes nothing.
use mathlib.Core.Path.{◌≡◌, refl, sym, ap, ap₂, ◌∙◌, subst}
use mathlib.Core.Bool.{Bool, true, false}
use mathlib.Core.List.{List, [], ◌∷◌, ◌++◌}
use mathlib.Core.Option.{Option, none, some}
use Prim.Native.Nat.{ℕ, suc, ◌+◌, ◌-◌, ◌≤◌, zero-le}
use native.Mathlib.Nat.{zero-add, not-suc-le-zero, le_of_suc-le-suc}
use native.Mathlib.Omega.{arith}
use lib.Dec.{eqb}
use lib.ListN.{length, drop, length-drop}
use lib.Seq.{drop-append-le}
use borrow.Author.Tests.{eqb-true}
use Rattle.program.specs.Bytes.{byte}
use Rattle.program.specs.Class.{class_of, is_digit}
use Rattle.program.specs.Local.{next, run_bind}
use Rattle.program.specs.Prog.{Prog, run}
use Rattle.grammar.specs.Numbers.{read_numeric, literal_of, parse_numeral, Literal as Written}
use Rattle.lexer.specs.Step.{place_p}
use Rattle.lexer.specs.declared.Cursor.{Cursor}
use Rattle.lexer.specs.Parsed.{Ok}
use Rattle.lexer.proofs.Laws.{true_false}
use Rattle.number_integers.specs.Literals.{given}
use Rattle.number_numerals.specs.Numerals.{started, sign_passed, whole_pushed, whole_next, is_sign, first_next, next_phase, pushed_in, taken_in, step, onward, reach, literal_in}
use Rattle.number_numerals.specs.Reads.{FoldedAt}
use Rattle.number_numerals.specs.declared.folds.Fold.{Fold}
use Rattle.number_numerals.proofs.NumeralFolds.{numeral_literal}
use Rattle.number_numerals.proofs.Onward.{unscored}
use Rattle.number_numerals.proofs.NumeralRuns.{NumeralOf, numeral_of}

-- The bytes xs ++ ys, folded from the state s, are cut behind xs: state, length and answer of the whole are those of the rest from the state of the
-- first part.
pub record Cut (s : Fold) (xs ys : List ℕ) : Type 0 where
  pub state : onward s (xs ++ ys) ≡ onward (onward s xs) ys
  pub place : reach s (xs ++ ys) ≡ length xs + reach (onward s xs) ys
  pub answer : literal_in (onward s (xs ++ ys)) ≡ literal_in (onward (onward s xs) ys)

cut_state : (s : Fold) (xs ys : List ℕ) → length xs ≤ reach s (xs ++ ys) → (onward s (xs ++ ys) ≡ onward (onward s xs) ys) × (reach s (xs ++ ys) ≡ length xs + reach (onward s xs) ys)
unfolding onward reach
cut_state s [] ys h = (refl, sym (zero-add (reach s ys)))
cut_state s (x ∷ xs) ys h = go (step s x) refl (λ t. cut_state t xs ys)
  where
    go : (o : Option Fold) → step s x ≡ o →
        ((t : Fold) → length xs ≤ reach t (xs ++ ys) → (onward t (xs ++ ys) ≡ onward (onward t xs) ys) × (reach t (xs ++ ys) ≡ length xs + reach (onward t xs) ys)) →
        (onward s (x ∷ (xs ++ ys)) ≡ onward (onward s (x ∷ xs)) ys) × (reach s (x ∷ (xs ++ ys)) ≡ suc (length xs) + reach (onward s (x ∷ xs)) ys)
    go none e ih = absurd (not-suc-le-zero (subst (λ (n : ℕ). suc (length xs) ≤ n) (stopped e) h))
      where
        stopped : step s x ≡ none → reach s (x ∷ (xs ++ ys)) ≡ 0
        stopped e = rw (reach, e)
    go (some t) e ih =
        let n : reach s (x ∷ (xs ++ ys)) ≡ suc (reach t (xs ++ ys)) = rw (reach, e) in
        let a = ih t (le_of_suc-le-suc (subst (λ (n : ℕ). suc (length xs) ≤ n) n h)) in
        let o : onward s (x ∷ xs) ≡ onward t xs = rw (onward, e) in
        let p : onward s (x ∷ (xs ++ ys)) ≡ onward t (xs ++ ys) = rw (onward, e) in
        (p ∙ a.0 ∙ ap (λ (u : Fold). onward u ys) (sym o), omega (arith, n, a.1, ap (λ (u : Fold). reach u ys) o))

-- The theorem: for every state and every cut among the bytes that the numeral has. A cut behind a sign, the point, the letter, an underscore counts
-- as any other.
pub cut : (s : Fold) (xs ys : List ℕ) → length xs ≤ reach s (xs ++ ys) → Cut s xs ys
cut s xs ys h = let a = cut_state s xs ys h in record { state = a.0; place = a.1; answer = ap literal_in a.0 }

-- more bytes behind take nothing from the numeral
reach_more : (s : Fold) (xs ys : List ℕ) → reach s xs ≤ reach s (xs ++ ys)
unfolding reach
reach_more s [] ys = zero-le
reach_more s (x ∷ xs) ys = go (step s x) refl (λ t. reach_more t xs ys)
  where
    go : (o : Option Fold) → step s x ≡ o → ((t : Fold) → reach t xs ≤ reach t (xs ++ ys)) → reach s (x ∷ xs) ≤ reach s (x ∷ (xs ++ ys))
    go none e ih = rw (reach, e) zero-le
    go (some t) e ih = rw (reach, e) (omega (arith, ih t))

-- The same of the calls: `fold_on` that comes to the end of a first text, and then of a second from the state there, gives what it gives on both as
-- one. `literal_of` asks the state alone.
pub cut_calls : {s0 s1 s2 : Fold} (xs ys : List ℕ) (c c1 c2 c3 : Cursor) → c.at ≤ length xs → c1.at ≡ length xs → c2.at ≡ 0 →
    FoldedAt s0 xs (Ok c) (Ok c1) s1 → FoldedAt s1 ys (Ok c2) (Ok c3) s2 →
    FoldedAt s0 (xs ++ ys) (Ok c) (Ok (record { at = length xs + c3.at; w = c.w })) s2
cut_calls {s0} {s1} {s2} xs ys c c1 c2 c3 h e z a b =
    let l = drop c.at xs in
    let m : drop c.at (xs ++ ys) ≡ l ++ ys = drop-append-le c.at xs ys h in
    let all : reach s0 l ≡ length l = omega (arith, ap place_p a.place, length-drop c.at xs) in
    let t = cut s0 l ys (subst (λ (n : ℕ). n ≤ reach s0 (l ++ ys)) all (reach_more s0 l ys)) in
    let y : drop c2.at ys ≡ ys = rw z in
    let n : length xs + c3.at ≡ c.at + reach s0 (drop c.at (xs ++ ys)) =
    omega (arith, ap (reach s0) m, t.place, ap (λ (u : Fold). reach u ys) a.state, ap (reach s1) y, ap place_p b.place, length-drop c.at xs) in
    record {
      place = ap (λ (k : ℕ). Ok (record { at = k; w = c.w })) n;
      state = b.state ∙ ap₂ onward a.state y ∙ sym (ap (onward s0) m ∙ t.state);
    }

-- ---- the reader's answer
-- what the grammar reads behind the sign, from any text of at most 2^24 bytes, is what the state says, behind the bytes that the fold takes
pub answer : (neg : Bool) (i : ℕ) (r : List ℕ) → length r ≤ 16777216 →
    run (parse_numeral neg) i r ≡ run (given (literal_in (onward (sign_passed started neg) r))) (i + reach (sign_passed started neg) r) (drop (reach (sign_passed started neg) r) r)
unfolding parse_numeral next
answer neg i r h =
    let n : NumeralOf neg i r = numeral_of neg i r in
    let k = reach (sign_passed started neg) r in
    let d : i + k - i ≡ k = omega arith in
    let l : literal_of neg n.numeral ≡ given (literal_in (onward (sign_passed started neg) r)) =
    sym (ap (λ (u : Fold). given (literal_in u)) n.state ∙ numeral_literal neg n.sign n.numeral (n.proper h)) in
    run_bind read_numeric (literal_of neg) i r ∙ ap (next (literal_of neg) i r) n.runs ∙ ap₂ (λ (f : Prog Written) (j : ℕ). run f (i + k) (drop j r)) l d

-- so it is that of the rest, folded from the state of the first part
pub cut_answer : (neg : Bool) (i : ℕ) (xs ys : List ℕ) → length (xs ++ ys) ≤ 16777216 → length xs ≤ reach (sign_passed started neg) (xs ++ ys) →
    run (parse_numeral neg) i (xs ++ ys) ≡
    run (given (literal_in (onward (onward (sign_passed started neg) xs) ys))) (i + (length xs + reach (onward (sign_passed started neg) xs) ys)) (drop (length xs + reach (onward (sign_passed started neg) xs) ys) (xs ++ ys))
cut_answer neg i xs ys h k =
    let t : Cut (sign_passed started neg) xs ys = cut (sign_passed started neg) xs ys k in
    answer neg i (xs ++ ys) h ∙ ap₂ (λ (u : Fold) (n : ℕ). run (given (literal_in u)) (i + n) (drop n (xs ++ ys))) t.state t.place

-- a sign in front, or none: the whole numeral from `started`
unfoldable pub sign_byte : Bool → ℕ
sign_byte true = byte "-"
sign_byte false = byte "+"

no_plus : is_digit (byte "+") ≡ false
unfolding is_digit class_of
no_plus = refl

no_minus : is_digit (byte "-") ≡ false
unfolding is_digit class_of
no_minus = refl

sign_first : (neg : Bool) → step started (sign_byte neg) ≡ some (sign_passed started neg)
unfolding started next_phase first_next is_sign taken_in pushed_in sign_byte
sign_first true = refl
sign_first false = refl

digit_behind : (x : ℕ) → is_digit x ≡ true → step (sign_passed started false) x ≡ some (whole_pushed started (class_of x))
unfolding started sign_passed next_phase whole_next taken_in pushed_in whole_pushed
digit_behind x d = simp (d, unscored x d)

digit_first : (x : ℕ) → is_digit x ≡ true → step started x ≡ some (whole_pushed started (class_of x))
unfolding started next_phase first_next is_sign taken_in pushed_in
digit_first x d = go (eqb x (byte "+")) refl (eqb x (byte "-")) refl
  where
    no_sign : (b : ℕ) → is_digit b ≡ false → eqb x b ≡ true → ⊥
    no_sign b n e = true_false (sym n ∙ (rw (eqb-true x b e) at d))

    go : (a : Bool) → eqb x (byte "+") ≡ a → (b : Bool) → eqb x (byte "-") ≡ b → step started x ≡ some (whole_pushed started (class_of x))
    go true e b f = absurd (no_sign (byte "+") no_plus e)
    go false e true f = absurd (no_sign (byte "-") no_minus f)
    go false e false f = simp (e, f, d, unscored x d)

-- behind a sign, and at a digit
pub signed_answer : (neg : Bool) (i : ℕ) (r : List ℕ) → length r ≤ 16777216 →
    run (parse_numeral neg) (suc i) r ≡ run (given (literal_in (onward started (sign_byte neg ∷ r)))) (i + reach started (sign_byte neg ∷ r)) (drop (reach started (sign_byte neg ∷ r)) (sign_byte neg ∷ r))
unfolding onward reach
signed_answer neg i r h =
    let n : suc i + reach (sign_passed started neg) r ≡ i + suc (reach (sign_passed started neg) r) = omega arith in
    rw (onward, reach, sign_first neg) (answer neg (suc i) r h ∙ ap (λ (j : ℕ). run (given (literal_in (onward (sign_passed started neg) r))) j (drop (reach (sign_passed started neg) r) r)) n)

pub unsigned_answer : (x : ℕ) (i : ℕ) (r : List ℕ) → is_digit x ≡ true → length (x ∷ r) ≤ 16777216 →
    run (parse_numeral false) i (x ∷ r) ≡ run (given (literal_in (onward started (x ∷ r)))) (i + reach started (x ∷ r)) (drop (reach started (x ∷ r)) (x ∷ r))
unfolding onward reach
unsigned_answer x i r d h =
    let s = sign_passed started false in
    let o : onward started (x ∷ r) ≡ onward s (x ∷ r) = rw (onward, digit_first x d, digit_behind x d) in
    let n : reach started (x ∷ r) ≡ reach s (x ∷ r) = rw (reach, digit_first x d, digit_behind x d) in
    answer false i (x ∷ r) h ∙ ap₂ (λ (u : Fold) (k : ℕ). run (given (literal_in u)) (i + k) (drop k (x ∷ r))) (sym o) (sym n)
