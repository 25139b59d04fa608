-- The laws of a phi's pairs: they begin with `[`, so at a parenthesis they refuse, and each of them counts two children.
-- Assumes nothing.
use mathlib.Core.Path.{◌≡◌, ap, ◌∙◌, subst}
use mathlib.Core.Bool.{Bool, true, false}
use mathlib.Core.List.{List, [], ◌++◌}
use Prim.Native.Nat.{ℕ, suc, ◌+◌, ◌-◌, ◌≤◌, ◌<◌}
use native.Mathlib.Omega.{arith}
use Rattle.program.specs.Prog.{Prog, ret, ◌>>=◌}
use Rattle.program.specs.Local.{next, run_bind}
use Rattle.records.specs.Limits.{depth_limit}
use Rattle.grammar.specs.Lexer.{eat_ws, token_if, expect_token, parse_local_name}
use Rattle.grammar.specs.Types.{Listed, listed, child}
use Rattle.grammar.specs.Values.{parse_value}
use Rattle.grammar.specs.Instructions.{label_node, phi_items}
use Rattle.lexer.specs.Step.{looks_p, passed, refused, counted_p}
use Rattle.lexer.specs.Reads.{Leads, Goal, made, same, reach, Gives}
use Rattle.lexer.specs.Parsed.{Parsed, Refused}
use Rattle.lexer.proofs.Laws.{done, stay, then, val, val_paid, token_yes, token_no, fail_is, more, no_more, wrote}
use Rattle.lexer.proofs.Children.{child_is, g_child, counted_hands, in_room}
use Rattle.lexer_names.proofs.Passed.{passes_token}
use Rattle.types.proofs.TypeLaws.{Stuck, stuck_token}

-- ---- the pairs of a phi
-- at a parenthesis they refuse, and so does what comes after them
items_stuck : (k n : ℕ) → Stuck 3 (λ t. phi_items (suc k) n [])
unfolding phi_items
items_stuck k n = stuck_token 91 _ (λ z. omega arith)

pub stuck_items : {B : Type 0} (k n : ℕ) (h : List ℕ → Listed → Prog B) → Stuck 3 (λ t. phi_items (suc k) n [] >>= h t)
unfolding next
stuck_items k n h t i s e = run_bind (phi_items (suc k) n []) (h t) i s ∙ ap (next (h t) i s) (items_stuck k n t i s e)

pub items_out : {text : List ℕ} {p0 q q1 : Parsed} {v : List ℕ} (u n : ℕ) (ws : List ℕ) {E : Goal Listed} → u ≤ 0 → q1 ≡ refused 19 q → Leads (phi_items u n ws) 0 ws E text p0 q v q1 v
unfolding phi_items
items_out u n ws l x = no_more (λ z. phi_items z n ws) u l (fail_is _ x)

-- the children are counted: n before the value, k before the label, m behind it
module _ {text : List ℕ} {p0 q q1 q2 q3 q4 q5 q6 q7 q8 q9 : Parsed} {v v1 v8 : List ℕ} (u n k m name : ℕ) (pos : 0 < u) (g1 : Gives (expect_token 91) tt text q q1) (r : Leads (parse_value depth_limit) 0 [] (made same text q1) text q1 q1 v q2 v1) (x : q3 ≡ counted_p n q2) (e : n < 65535 → k ≡ n + 1) (g2 : Gives (expect_token 44) tt text q3 q4) (g3 : Gives parse_local_name name text q4 q5) (x2 : q6 ≡ counted_p k q5) (e2 : k < 65535 → m ≡ k + 1) (g4 : Gives (expect_token 93) tt text q6 q7) (r2 : Leads (ret (label_node name)) 2 [] (made same text q7) text q7 q7 v1 q8 v8) (gw : Gives eat_ws tt text q8 q9) (ws : List ℕ) where
  turn : {E : Goal Listed} {q10 : Parsed} → ((i j : ℕ) → q9 ≡ Refused i j → q10 ≡ Refused i j) → ((t : List ℕ) → m ≡ n + 2 → Leads (token_if 44 (phi_items (u - 1) (n + 2) ((ws ++ t) ++ label_node name)) (ret (listed (n + 2) 0 ((ws ++ t) ++ label_node name)))) 0 ((ws ++ t) ++ label_node name) E text p0 q8 v8 q10 v8) → Leads (phi_items u n ws) 0 ws E text p0 q v q10 v8
  unfolding phi_items
  turn {E} {q10} hd c = more (λ z. phi_items z n ws) u pos (val _ g1 (then _ (child_is n x r) (λ t. in_room n q2 x (λ i j z. hd i j (gw.hands i j (r2.hands i j (g4.hands i j (counted_hands k q5 x2 (g3.hands i j (g2.hands i j z))))))) (λ lt.
      val _ g2 (val _ (subst (λ (j : ℕ). Gives (child j parse_local_name) name text q4 q6) (e lt) (g_child k x2 g3)) (in_room k q5 x2 (λ i j z. hd i j (gw.hands i j (r2.hands i j (g4.hands i j z)))) (λ lk.
      val_paid _ 1 (passes_token 93) g4 (wrote 2 (omega arith) r2 (c t (omega (arith, e lt, e2 lk)))))))))))

  module _ {z : Bool} (l : z ≡ looks_p text q9 44) where
    pub items_more : {q10 : Parsed} → z ≡ true → q10 ≡ passed text 1 q9 → Leads (phi_items u n ws) 0 ws (reach (phi_items (u - 1) m) text p0) text p0 q v q10 v8
    items_more {q10} y o = turn (λ i j z. o ∙ ap (passed text 1) z) (λ t c. token_yes _ _ gw l y o (subst (λ (j : ℕ). Leads (phi_items (u - 1) j ((ws ++ t) ++ label_node name)) 3 ((ws ++ t) ++ label_node name) (reach (phi_items (u - 1) m) text p0) text p0 q10 v8 q10 v8) c (stay (phi_items (u - 1) m))))

    pub items_end : z ≡ false → Leads (phi_items u n ws) 0 ws (made (listed m 0) text p0) text p0 q v q9 v8
    items_end y = turn (λ i j z. z) (λ t c. token_no _ _ gw l y (subst (λ (j : ℕ). Leads (ret (listed j 0 ((ws ++ t) ++ label_node name))) 0 ((ws ++ t) ++ label_node name) (made (listed m 0) text p0) text p0 q9 v8 q9 v8) c done))
