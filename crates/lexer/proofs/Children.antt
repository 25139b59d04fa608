-- The laws of question 19 and of what stands behind an element of a list.
-- Assumes nothing.
use mathlib.Core.Path.{◌≡◌, refl, sym, ap, ◌∙◌, subst}
use mathlib.Core.List.{List, [], ◌∷◌}
use mathlib.Core.Bool.{Bool, true, false, ◌&&◌, not}
use Prim.Native.Nat.{ℕ, suc, ◌+◌, ◌<◌}
use native.Mathlib.Omega.{arith}
use lib.Dec.{ltb, eqb}
use lib.ListN.{take, drop}
use borrow.Author.Tests.{ltb-true}
use Rattle.program.specs.Choice.{pick}
use Rattle.program.specs.Class.{is_word}
use Rattle.program.specs.Prog.{Prog, ret, fail, look, eat, here, lead, scan, last, Res, closed, run, ◌>>=◌, byte_at, lead_word, scan_len}
use Rattle.grammar.specs.Lexer.{refuse}
use Rattle.grammar.specs.Types.{Listed, room, child, comma_or}
use Rattle.lexer.specs.Step.{counted_p, refused}
use Rattle.lexer.specs.Reads.{Leads, Goal, made, Gives, Comes, Counts}
use Rattle.lexer.specs.declared.Cursor.{Cursor}
use Rattle.lexer.specs.Parsed.{Parsed, Ok, Err, Refused}
use Rattle.lexer.proofs.Laws.{no_ok, done, then, val_on, fail_is, g_done, g_fail, g_then}

-- ---- a program in two parts, then the rest
pub assoc : {A B C : Type 0} (f : Prog A) (g : A → Prog B) (h : B → Prog C) (i : ℕ) (s : List ℕ) → run ((f >>= g) >>= h) i s ≡ run (f >>= λ a. g a >>= h) i s
unfolding run ◌>>=◌
assoc (ret a) g h i s = refl
assoc (fail q p) g h i s = refl
assoc (look k) g h i s = assoc (k (byte_at s)) g h i s
assoc (eat p) g h i [] = refl
assoc (eat p) g h i (x ∷ s) = assoc p g h (suc i) s
assoc (here k) g h i s = assoc (k i) g h i s
assoc (lead k) g h i s = assoc (k (lead_word s)) g h i s
assoc (scan f q k) g h i s = assoc (k (take (scan_len f q s) s)) g h (i + scan_len f q s) (drop (scan_len f q s) s)
assoc (last b ws p) g h i [] = assoc p g h i []
assoc {C = C} (last b ws p) g h i (x ∷ s) = ap (λ (r : Res C). elim (eqb x b && not (is_word x)) [ true ↦ closed ws (suc i) | false ↦ r ]) (assoc p g h i (x ∷ s))

pub nest : {A B C : Type 0} (f : Prog A) (g : A → Prog B) (h : B → Prog C) {c : ℕ} {mid : List ℕ} {E : Goal C} {text : List ℕ} {p0 p p' : Parsed} {w w' : List ℕ} → Leads (f >>= λ a. g a >>= h) c mid E text p0 p w p' w' → Leads ((f >>= g) >>= h) c mid E text p0 p w p' w'
nest {C = C} f g h {E = E} {text = text} {p' = p'} {w' = w'} r = record {
  runs = λ b low k cur e a. subst (λ (z : Res C). E.ends b k low z p' w') (sym (assoc f g h cur.at (drop cur.at text))) (r.runs b low k cur e a);
  hands = r.hands;
}

-- ---- question 19
module _ {A : Type 0} (n : ℕ) {text : List ℕ} {p q : Parsed} (x : q ≡ counted_p n p) where
  pub g_room : {a : A} → Gives (room n a) a text p q
  unfolding room
  g_room {a} = go (ltb n 65535) x
    where
      go : (b : Bool) → q ≡ pick b p (refused 19 p) → Gives {A = A} (elim b [ true ↦ ret a | false ↦ refuse 19 ]) a text p q
      go true e = subst (λ (z : Parsed). Gives (ret a) a text p z) (sym e) g_done
      go false e = g_fail 19 e

  pub g_child : {f : Prog A} {a : A} {p1 : Parsed} → Gives f a text p1 p → Gives (child n f) a text p1 q
  unfolding child
  g_child r = g_then _ r g_room

  pub room_is : {mk : List ℕ → A} {c : ℕ} {mid : List ℕ} {p0 : Parsed} {w : List ℕ} → Leads (room n (mk mid)) c mid (made mk text p0) text p0 p w q w
  unfolding room
  room_is {mk} {c} {mid} {p0} {w} = go (ltb n 65535) x
    where
      go : (b : Bool) → q ≡ pick b p (refused 19 p) → Leads {A = A} (elim b [ true ↦ ret (mk mid) | false ↦ refuse 19 ]) c mid (made mk text p0) text p0 p w q w
      go true e = subst (λ (z : Parsed). Leads (ret (mk mid)) c mid (made mk text p0) text p0 p w z w) (sym e) done
      go false e = fail_is 19 e

  pub child_is : {f : Prog A} {mk : List ℕ → A} {p1 : Parsed} {w w1 : List ℕ} → Leads f 0 [] (made mk text p1) text p1 p1 w p w1 → Leads (child n f) 0 [] (made mk text p1) text p1 p1 w q w1
  unfolding child
  child_is r = then _ r (λ ws. room_is)

pub counted_ok : (n : ℕ) (p : Parsed) {q : Parsed} (cur : Cursor) → q ≡ counted_p n p → q ≡ Ok cur → n < 65535
counted_ok n p cur x o = go (ltb n 65535) refl p (sym x ∙ o)
  where
    go : (b : Bool) → ltb n 65535 ≡ b → (p : Parsed) → pick b p (refused 19 p) ≡ Ok cur → n < 65535
    go true t p e = ltb-true _ _ t
    go false t (Ok c) e = absurd (let z : ◌≡◌ {A = ℕ} 0 1 = cc in omega arith)
    go false t (Err r) e = absurd (let z : ◌≡◌ {A = ℕ} 0 1 = cc in omega arith)

pub counted_hands : (n : ℕ) (p : Parsed) {q : Parsed} {e i : ℕ} → q ≡ counted_p n p → p ≡ Refused e i → q ≡ Refused e i
counted_hands n p {q} {e} {i} x h = go (ltb n 65535) x
  where
    go : (b : Bool) → q ≡ pick b p (refused 19 p) → q ≡ Refused e i
    go true t = t ∙ h
    go false t = t ∙ ap (refused 19) h

-- what need be shown only where the reader has come to
pub if_there : {A : Type 0} {f : Prog A} {c : ℕ} {mid : List ℕ} {E : Goal A} {text : List ℕ} {p0 p p' : Parsed} {w w' : List ℕ} → ((e i : ℕ) → p ≡ Refused e i → p' ≡ Refused e i) → ((cur : Cursor) → p ≡ Ok cur → Leads f c mid E text p0 p w p' w') → Leads f c mid E text p0 p w p' w'
if_there h k = record { runs = λ b low m cur e a. (k cur e).runs b low m cur e a; hands = h }

-- behind a child, what is to be shown may take it that there was room for it
pub in_room : {A : Type 0} {f : Prog A} (n : ℕ) {c : ℕ} {mid : List ℕ} {E : Goal A} {text : List ℕ} {p0 : Parsed} (p : Parsed) {q p' : Parsed} {w w' : List ℕ} → q ≡ counted_p n p → ((e i : ℕ) → q ≡ Refused e i → p' ≡ Refused e i) → (n < 65535 → Leads f c mid E text p0 q w p' w') → Leads f c mid E text p0 q w p' w'
in_room n p x h r = if_there h (λ cur o. r (counted_ok n p cur x o))

-- behind two children with something between them
pub two_counted : (n k m : ℕ) (p q p1 : Parsed) {q1 : Parsed} → q ≡ counted_p n p → (n < 65535 → k ≡ n + 1) → ((e i : ℕ) → q ≡ Refused e i → p1 ≡ Refused e i) → q1 ≡ counted_p k p1 → (k < 65535 → m ≡ k + 1) → Counts q1 m (n + 2)
two_counted n k m p q p1 {q1} x e hd x1 e1 cur o = go q refl
  where
    go : (z : Parsed) → q ≡ z → m ≡ n + 2
    go (Ok c) t = omega (arith, e (counted_ok n p c x t), e1 (counted_ok k p1 cur x1 o))
    go (Err r) t = no_ok cur r.question r.place (sym o ∙ counted_hands k p1 x1 (hd r.question r.place t))

-- ---- behind an element
module _ (end : ℕ) {text : List ℕ} {q q3 : Parsed} {b : Bool} (cm : (x y : Prog Listed) → Comes (comma_or end x y) (pick b x y) text q q3) {c : ℕ} {mid : List ℕ} {E : Goal Listed} {p0 p' : Parsed} {w w' : List ℕ} where
  pub comma_yes : (f g : Prog Listed) → b ≡ true → Leads f c mid E text p0 q3 w p' w' → Leads (comma_or end f g) c mid E text p0 q w p' w'
  comma_yes f g e r = val_on (cm f g) (rw e r)

  pub comma_no : (f g : Prog Listed) → b ≡ false → Leads g c mid E text p0 q3 w p' w' → Leads (comma_or end f g) c mid E text p0 q w p' w'
  comma_no f g e r = val_on (cm f g) (rw e r)
