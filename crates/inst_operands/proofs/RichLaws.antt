-- The laws of goals that are reached with a budget that bears what is read twice (specs/Rich.antt).
-- Assumes nothing.
use mathlib.Core.Path.{refl, sym, subst}
use mathlib.Core.List.{List, [], ◌++◌}
use Prim.Native.Nat.{ℕ, ◌+◌, ◌≤◌}
use native.Mathlib.Omega.{arith}
use Rattle.program.specs.Prog.{Prog, Res, ◌>>=◌}
use Rattle.lexer.specs.Reads.{Budget, At, Ends, at, out, Leads, Goal, made}
use Rattle.lexer.specs.declared.Cursor.{Cursor}
use Rattle.lexer.specs.Parsed.{Parsed}
use Rattle.lexer.proofs.Laws.{after, bind_at, at_less, at_part, at_whole}
use Rattle.inst_operands.specs.Rich.{Rich, richly}

-- what any budget bears, this one does
pub enrich : {A : Type 0} {f : Prog A} {c : ℕ} {mid : List ℕ} {E : Goal A} {text : List ℕ} {p0 p p' : Parsed} {w w' : List ℕ} → Leads f c mid E text p0 p w p' w' → Leads f c mid (richly text E) text p0 p w p' w'
enrich r = record { runs = λ b low k cur e a x. r.runs b low k cur e a; hands = r.hands }

-- a reader called where nothing has been written yet
pub call_rich : {A : Type 0} {f : Prog A} {c : ℕ} (d : ℕ) {mk : List ℕ → A} {text : List ℕ} {p0 p p' : Parsed} {w w' : List ℕ} → d ≤ c → Leads f d [] (richly text (made mk text p)) text p p w p' w' → Leads f c [] (richly text (made mk text p0)) text p0 p w p' w'
call_rich {A} {f} {c} d {mk} {text} {p0} {p} {p'} {w} {w'} l r = record {
  runs = λ b low k cur e a x. go b low k a (r.runs b (low ++ []) k cur e (at_less (d + k) (omega arith) (at_part e a)) x);
  hands = r.hands;
}
  where
    go : (b : Budget) (low : List ℕ) (k : ℕ) {cur : Cursor} → At b text p0 (c + k) low [] cur w → {y : Parsed} {v : List ℕ} {z : Res A} → Ends b text p k (low ++ []) mk z y v → Ends b text p0 k low mk z y v
    go b low k a (at {ws = ws} {cur = cur} h) = at (at_whole a h)
    go b low k a out = out

-- a part that writes, d words paid for, then the rest
pub then_rich : {A B : Type 0} {f : Prog A} (d : ℕ) (h : A → Prog B) {c : ℕ} {mid : List ℕ} {E : Goal B} {text : List ℕ} {p0 p p1 p' : Parsed} {w w1 w' : List ℕ} {mk : List ℕ → A}
    → Leads f d [] (richly text (made mk text p)) text p p w p1 w1 → ((ws : List ℕ) → Leads (h (mk ws)) c (mid ++ ws) (richly text E) text p0 p1 w1 p' w') → Leads (f >>= h) (d + c) mid (richly text E) text p0 p w p' w'
unfolding after
then_rich {A} {B} {f} d h {c} {mid} {E} {text} {p0} {p} {p1} {p'} {w} {w1} {w'} {mk} r s = record {
  runs = λ b low k cur e a x. subst (λ (z : Res B). E.ends b k low z p' w') (sym (bind_at f h text cur.at)) (go b low k a x s (r.runs b (low ++ mid) (c + k) cur e (at_less (d + (c + k)) (omega arith) (at_part e a)) x));
  hands = λ e q i. (s []).hands e q (r.hands e q i);
}
  where
    go : (b : Budget) (low : List ℕ) (k : ℕ) {cur : Cursor} → At b text p0 (d + c + k) low mid cur w → Rich b text → {y : Parsed} {v : List ℕ} → ((ws : List ℕ) → Leads (h (mk ws)) c (mid ++ ws) (richly text E) text p0 y v p' w') → {z : Res A} → Ends b text p (c + k) (low ++ mid) mk z y v → E.ends b k low (after h text z) p' w'
    go b low k a x t (at {ws = ws} {cur = cur} i) = (t ws).runs b low k cur refl (at_whole a i) x
    go b low k a x t (out {e = e} {q = q}) = rw ((t []).hands e q refl) (E.outs b k low e q w')
