-- The laws of a word that stays where it is: the code's test of it is the program's.
-- Assumes nothing.
use mathlib.Core.Path.{◌≡◌, sym, ap, ◌∙◌, subst}
use mathlib.Core.List.{List, ◌∷◌}
use mathlib.Core.Bool.{Bool, true, false}
use Prim.Native.Nat.{ℕ, ◌+◌, ◌≤◌}
use native.Mathlib.Omega.{arith}
use lib.ListN.{length, drop}
use Rattle.program.specs.Prog.{Prog, eat, Res, run, lead_word}
use Rattle.grammar.specs.Lexer.{same_word, word_at_if}
use Rattle.lexer.specs.Step.{word_p, passed}
use Rattle.lexer.specs.Reads.{Leads, Goal}
use Rattle.lexer.specs.declared.Cursor.{Cursor}
use Rattle.lexer.specs.Parsed.{Parsed, Ok}
use Rattle.lexer.proofs.Laws.{true_false, some_word, run_eat, moved}
use Rattle.std.specs.Prelude.{Some}
use Rattle.value_leaves.specs.Leaf.{Tried}

read_word_lem : (text : List ℕ) (p : Parsed) (kw : List ℕ) {r z : Bool} {cur : Cursor} → r ≡ word_p text p kw → r ≡ z → p ≡ Ok cur → same_word (lead_word (drop cur.at text)) kw ≡ z
read_word_lem text p kw l y e = ap (λ (q : Parsed). word_p text q kw) (sym e) ∙ sym l ∙ y

at_run : {A : Type 0} (kw : List ℕ) (f g : Prog A) (i : ℕ) (s : List ℕ) (z : Bool) → same_word (lead_word s) kw ≡ z → run (word_at_if kw f g) i s ≡ run (elim z [ true ↦ f | false ↦ g ]) i s
unfolding run word_at_if
at_run kw f g i s z e = ap (λ (y : Bool). run (elim y [ true ↦ f | false ↦ g ]) i s) e

module _ {A : Type 0} {mid : List ℕ} {E : Goal A} {text : List ℕ} {p0 p p' : Parsed} {w w' : List ℕ} {c : ℕ} where
  pub word_at_yes : {f : Prog A} (kw : List ℕ) (g : Prog A) {r : Bool} → r ≡ word_p text p kw → r ≡ true → Leads f c mid E text p0 p w p' w' → Leads (word_at_if kw f g) c mid E text p0 p w p' w'
  word_at_yes {f} kw g l y s = record {
    runs = λ d low k cur e a. subst (λ (z : Res A). E.ends d k low z p' w') (sym (at_run kw f g cur.at (drop cur.at text) true (read_word_lem text p kw l y e))) (s.runs d low k cur e a);
    hands = s.hands;
  }

  pub word_at_no : {g : Prog A} (kw : List ℕ) (f : Prog A) {r : Bool} → r ≡ word_p text p kw → r ≡ false → Leads g c mid E text p0 p w p' w' → Leads (word_at_if kw f g) c mid E text p0 p w p' w'
  word_at_no {g} kw f l y s = record {
    runs = λ d low k cur e a. subst (λ (z : Res A). E.ends d k low z p' w') (sym (at_run kw f g cur.at (drop cur.at text) false (read_word_lem text p kw l y e))) (s.runs d low k cur e a);
    hands = s.hands;
  }

  pub eat_then : {f : Prog A} (x : ℕ) (xs : List ℕ) {r : Bool} {q : Parsed} → r ≡ word_p text p (x ∷ xs) → r ≡ true → q ≡ passed text 1 p → Leads f (c + 3) mid E text p0 q w p' w' → Leads (eat f) c mid E text p0 p w p' w'
  eat_then {f} x xs {r} {q} l y h s = record {
    runs = λ d low k cur e a.
        let o : 1 ≤ length (drop cur.at text) = omega (arith, some_word (x ∷ xs) (drop cur.at text) (read_word_lem text p (x ∷ xs) l y e)) in
        subst (λ (z : Res A). E.ends d k low z p' w') (sym (run_eat f text cur.at o)) (moved c 1 (c + 3) cur (h ∙ ap (passed text 1) e) o (omega arith) d low k a s);
    hands = λ e j t. true_false (ap (λ (z : Parsed). word_p text z (x ∷ xs)) (sym t) ∙ sym l ∙ y);
  }

-- the same answer, made anew
pub tried_anew : {F : Prog (List ℕ) → Prog (List ℕ)} {text : List ℕ} {p q r : Parsed} {words words' : List ℕ} → r ≡ q → Tried F text p words (Some q) words' → Tried F text p words (Some r) words'
tried_anew {F} {text} {p} {q} {r} {words} {words'} e t = subst (λ (z : Parsed). Tried F text p words (Some z) words') (sym e) t
