-- The laws of a switch's cases: an integer is known by its first three words, and a turn of the loop is one step of `switch_cases`,
-- whichever of the two it writes.
-- Assumes nothing.
use mathlib.Core.Path.{◌≡◌, refl, sym, ap, ◌∙◌, subst}
use mathlib.Core.Bool.{Bool, true, false}
use mathlib.Core.List.{List, [], ◌∷◌, ◌++◌, append_assoc}
use Prim.Native.Nat.{ℕ, zero, suc, ◌+◌, ◌-◌, ◌*◌, ◌≤◌, ◌<◌}
use native.Mathlib.Omega.{arith}
use lib.Dec.{ltb, eqb}
use lib.ListN.{length, get_or, drop, length-append}
use borrow.Author.Tests.{ltb-true, ltb-false, eq-eqb, ne_eqb}
use Rattle.std.specs.Result.{is_err}
use Rattle.program.specs.Choice.{pick}
use Rattle.program.specs.Prog.{Prog, ret, Res, ok, no_at, run}
use Rattle.records.specs.Words.{node, header}
use Rattle.grammar.specs.Lexer.{eat_ws, refuse, expect_token, expect_keyword}
use Rattle.records.specs.Kinds.{kind, IntConst}
use Rattle.grammar.specs.Types.{room, child}
use Rattle.grammar.specs.Instructions.{label_node, parse_operand, target, case_int, Cases, cases, switch_cases, switch_front, switch_node}
use Rattle.node_words.specs.Writes.{joined, pushed, closes, patches, restarted}
use Rattle.lexer.specs.Step.{looks_p, passed, refused, counted_p}
use Rattle.lexer.specs.Reads.{Budget, At, Ends, at, out, Leads, Goal, made, same, Inside, Gave, got, not, Gives}
use Rattle.lexer.specs.declared.Cursor.{Cursor}
use Rattle.lexer.specs.Parsed.{Parsed, Ok, Refused, Err}
use Rattle.lexer.proofs.Laws.{no_ok, true_false, after, bind_at, at_less, more, no_more, Passes, val, val_paid, token_yes, token_no, spare, fail_is, write_then}
use Rattle.node_words.proofs.Laws.{push_then, patch_then, close_is}
use Rattle.lexer.proofs.Children.{g_child, in_room}
use Rattle.lexer_names.proofs.Passed.{passes_any, passes_then, passes_token, passes_keyword, passes_local}
use Rattle.inst_operands.specs.Kept.{keeps, keeps_not, kept, nothing}
use Rattle.inst_terminators.specs.Switch.{taken_p, cases_of, turns_of, weight_of, CaseWrites}
use Rattle.inst_operands.proofs.Twice.{Shows, kept_here}
use Rattle.inst_operands.proofs.OperandLaws.{ok_not}

-- ---- a case's integer
-- what is made of the value
unfoldable case_words : List ℕ → Prog (List ℕ)
case_words v = elim (eqb (get_or v 0 0) (header (kind IntConst) 0 0 3)) [ true ↦ ret (get_or v 1 0 ∷ get_or v 2 0 ∷ []) | false ↦ refuse 12 ]

-- what the value is, as its first words stand in the array, or that it is refused
pub data Valued (text : List ℕ) (q : Parsed) (v : List ℕ) (cur : Cursor) : Res (List ℕ) → Type 0 where
  value_is : (ws : List ℕ) (ct : Cursor) → q ≡ Ok ct → cur.at ≤ ct.at → ct.at ≤ length text → ((i : ℕ) → i < 3 → taken_p i q v ≡ get_or ws i 0) → Valued text q v cur (ok ws ct.at)
  value_not : (e x : ℕ) → q ≡ Refused e x → Valued text q v cur (no_at e x)

beyond : (ws : List ℕ) (i : ℕ) → length ws ≤ i → get_or ws i 0 ≡ 0
beyond [] i h = refl
beyond (x ∷ ws) zero h = absurd (omega arith)
beyond (x ∷ ws) (suc i) h = beyond ws i (omega arith)

abbrev poor : Budget
poor = record { base = 0; rate = 3; enough = omega arith }

valued : (text : List ℕ) (p z q : Parsed) (v : List ℕ) → z ≡ restarted p → Leads parse_operand 0 [] (made same text z) text z z (0 ∷ 0 ∷ 0 ∷ []) q v → length v ≡ 3 → (cur : Cursor) → p ≡ Ok cur → Inside text cur → Valued text q v cur (run parse_operand cur.at (drop cur.at text))
valued text p z q v Z R long cur e i = go refl (R.runs poor [] (3 * cur.at) (record { at = cur.at; w = 0 }) (Z ∙ ap restarted e) start)
  where
    start : At poor text z (0 + 3 * cur.at) [] [] (record { at = cur.at; w = 0 }) (0 ∷ 0 ∷ 0 ∷ [])
    start = record {
      from = record { at = cur.at; w = 0 };
      was = Z ∙ ap restarted e;
      base = refl;
      small = i.small;
      lid = omega (arith, i.small);
      inside = i.inside;
      count = refl;
      paid = omega arith;
      stands = record { same = λ j h l. absurd (omega arith) };
    }

    go : {y : Parsed} {r : Res (List ℕ)} → q ≡ y → Ends poor text z (3 * cur.at) [] same r y v → Valued text q v cur r
    go s (at {ws = ws} {cur = ct} x) = value_is ws ct s (omega (arith, x.paid)) x.inside word
      where
        word : (j : ℕ) → j < 3 → taken_p j q v ≡ get_or ws j 0
        word j h = ap (λ (y : Parsed). taken_p j y v) s ∙ pick_word (ltb j ct.w) refl
          where
            pick_word : (t : Bool) → ltb j ct.w ≡ t → pick t (get_or v j 0) 0 ≡ get_or ws j 0
            pick_word true t = x.stands.same j (omega (arith, x.count, ltb-true j ct.w t)) (omega arith)
            pick_word false t = sym (beyond ws j (omega (arith, x.count, ltb-false j ct.w t)))
    go s (out {e = en} {q = xn}) = value_not en xn s

module _ (text : List ℕ) (p z q q1 : Parsed) (v : List ℕ) (Z : z ≡ restarted p) (R : Leads parse_operand 0 [] (made same text z) text z z (0 ∷ 0 ∷ 0 ∷ []) q v) (long : length v ≡ 3) (J : q1 ≡ joined p q) (h hi lo : ℕ) (H : h ≡ taken_p 0 q v) (HI : hi ≡ taken_p 1 q v) (LO : lo ≡ taken_p 2 q v) where
  pub case_yes : h ≡ header (kind IntConst) 0 0 3 → Gives case_int (hi ∷ lo ∷ []) text p q1
  unfolding after case_int case_words run
  case_yes y = record {
    runs = λ cur e i. subst (λ (r : Res (List ℕ)). Gave text (hi ∷ lo ∷ []) cur.at cur.w r q1) (sym (bind_at parse_operand case_words text cur.at)) (go cur (J ∙ ap (λ (y : Parsed). joined y q) e) (valued text p z q v Z R long cur e i));
    hands = λ e x i. J ∙ ap (λ (y : Parsed). joined y q) i;
  }
    where
      go : (cur : Cursor) → q1 ≡ joined (Ok cur) q → {r : Res (List ℕ)} → Valued text q v cur r → Gave text (hi ∷ lo ∷ []) cur.at cur.w (after case_words text r) q1
      go cur j (value_is ws ct s l m t) =
          let k : eqb (get_or ws 0 0) (header (kind IntConst) 0 0 3) ≡ true = eq-eqb _ _ (sym (t 0 (omega arith)) ∙ sym H ∙ y) in
          let a : get_or ws 1 0 ≡ hi = sym (t 1 (omega arith)) ∙ sym HI in
          let b : get_or ws 2 0 ≡ lo = sym (t 2 (omega arith)) ∙ sym LO in
          let o : q1 ≡ Ok (record { at = ct.at; w = cur.w }) = j ∙ ap (joined (Ok cur)) s in
          rw (o, case_words, k, a, b) (got {cur = record { at = ct.at; w = cur.w }} l m refl)
      go cur j (value_not e x s) = let o : q1 ≡ Refused e x = j ∙ ap (joined (Ok cur)) s in rw o not

  pub case_no : {q2 : Parsed} → (h ≡ header (kind IntConst) 0 0 3 → ⊥) → q2 ≡ refused 12 q1 → Gives case_int (hi ∷ lo ∷ []) text p q2
  unfolding after case_int case_words run refuse
  case_no {q2} y f = record {
    runs = λ cur e i. subst (λ (r : Res (List ℕ)). Gave text (hi ∷ lo ∷ []) cur.at cur.w r q2) (sym (bind_at parse_operand case_words text cur.at)) (go cur (J ∙ ap (λ (y : Parsed). joined y q) e) (valued text p z q v Z R long cur e i));
    hands = λ e x i. f ∙ ap (refused 12) (J ∙ ap (λ (y : Parsed). joined y q) i);
  }
    where
      go : (cur : Cursor) → q1 ≡ joined (Ok cur) q → {r : Res (List ℕ)} → Valued text q v cur r → Gave text (hi ∷ lo ∷ []) cur.at cur.w (after case_words text r) q2
      go cur j (value_is ws ct s l m t) =
          let k : eqb (get_or ws 0 0) (header (kind IntConst) 0 0 3) ≡ false = ne_eqb _ _ (λ z. y (H ∙ t 0 (omega arith) ∙ z)) in
          let o : q2 ≡ Refused 12 ct.at = f ∙ ap (refused 12) (j ∙ ap (joined (Ok cur)) s) in
          rw (o, case_words, k) not
      go cur j (value_not e x s) = let o : q2 ≡ Refused e x = f ∙ ap (refused 12) (j ∙ ap (joined (Ok cur)) s) in rw o not

-- ---- the cases
passes_target : Passes 8 target
unfolding target
passes_target = passes_then (expect_token 44) _ 1 7 (passes_token 44) (λ _. passes_then (expect_keyword (108 ∷ 97 ∷ 98 ∷ 101 ∷ 108 ∷ [])) _ 5 2 (passes_keyword (108 ∷ 97 ∷ 98 ∷ 101 ∷ 108 ∷ [])) (λ _. passes_local))

label_long : (labels : List ℕ) (l : ℕ) → length (labels ++ label_node l) ≡ length labels + 2
unfolding label_node node
label_long labels l = length-append labels (label_node l)

-- where the reader is refused, any program is
stops_at : {A : Type 0} {f : Prog A} {E : Goal A} {c : ℕ} {mid text : List ℕ} {p0 : Parsed} {w : List ℕ} (p : Parsed) → is_err p ≡ true → Leads f c mid E text p0 p w p w
stops_at (Ok x) e = true_false e
stops_at (Err r) e = record { runs = λ o low k cur t a. no_ok cur r.question r.place (sym t); hands = λ m y t. t }

passes_case : (n : ℕ) → Passes 8 (child n target)
unfolding child
passes_case n = passes_then target (room n) 8 0 passes_target (λ a. passes_any _)

pub cases_out : (u n : ℕ) (is : Bool) (left written : List ℕ) {text : List ℕ} {p0 q q1 : Parsed} {w : List ℕ} {E : Goal Cases} {c : ℕ} {mid : List ℕ} → u ≤ 0 → q1 ≡ refused 19 q → Leads (turns_of is u n left written) c mid E text p0 q w q1 w
unfolding switch_cases
cases_out u n false labels ints h x = no_more (λ t. switch_cases t n ints labels) u h (fail_is _ x)
cases_out u n true ints labels h x = no_more (λ t. switch_cases t n ints labels) u h (fail_is _ x)

pub cases_start : (is : Bool) {text : List ℕ} {p : Parsed} {w : List ℕ} → Leads (switch_cases 65536 3 [] []) 0 [] (kept (turns_of is 65536 3) (weight_of is) text p) text p p w p w
cases_start false = kept_here (λ labels ints. switch_cases 65536 3 ints labels) length [] (omega arith)
cases_start true = kept_here (λ ints labels. switch_cases 65536 3 ints labels) nothing [] (omega arith)

module _ (u n : ℕ) {text : List ℕ} {p0 q q1 : Parsed} {w : List ℕ} (pos : 0 < u) (gw : Gives eat_ws tt text q q1) where
  pub cases_end : (is : Bool) (left written : List ℕ) {z : Bool} {q2 : Parsed} → z ≡ looks_p text q1 93 → z ≡ true → q2 ≡ passed text 1 q1
      → Leads (turns_of is u n left written) (weight_of is left) written (kept (λ left written. ret (cases_of is n left written)) (weight_of is) text p0) text p0 q w q2 w
  unfolding switch_cases
  cases_end false labels ints l y x = more (λ t. switch_cases t n ints labels) u pos (token_yes _ _ gw l y x (kept_here (λ labels ints. ret (cases n ints labels)) length labels (omega arith)))
  cases_end true ints labels l y x = more (λ t. switch_cases t n ints labels) u pos (token_yes _ _ gw l y x (kept_here (λ ints labels. ret (cases n ints labels)) nothing ints (omega arith)))

  module _ {z : Bool} {q2 q3 q4 : Parsed} {hi lo name : ℕ} (l : z ≡ looks_p text q1 93) (y : z ≡ false) (gc : Gives case_int (hi ∷ lo ∷ []) text q1 q2) (gt : Gives target name text q2 q3) (x : q4 ≡ counted_p n q3) where
    pub cases_stop : (is : Bool) (left written : List ℕ) {E : Goal Cases} {c : ℕ} {mid : List ℕ} → is_err q4 ≡ true → Leads (turns_of is u n left written) c mid E text p0 q w q4 w
    unfolding switch_cases
    cases_stop false labels ints t = more (λ t. switch_cases t n ints labels) u pos (token_no _ _ gw l y (val _ gc (val _ (g_child n x gt) (stops_at q4 t))))
    cases_stop true ints labels t = more (λ t. switch_cases t n ints labels) u pos (token_no _ _ gw l y (val _ gc (val _ (g_child n x gt) (stops_at q4 t))))

    pub cases_more : (is : Bool) (left written : List ℕ) (m : ℕ) {q5 : Parsed} {w1 : List ℕ} → (n < 65535 → m ≡ n + 1) → CaseWrites is hi lo name q4 w q5 w1
        → Leads (turns_of is u n left written) (weight_of is left) written (kept (turns_of is (u - 1) m) (weight_of is) text p0) text p0 q w q5 w1
    unfolding switch_cases
    cases_more false labels ints m {q5} {w1} e o =
        more (λ t. switch_cases t n ints labels) u pos
        (token_no _ _ gw l y (val _ gc (val_paid _ 8 (passes_case n) (g_child n x gt) (in_room n q3 x (λ i j z. o.0 ∙ ap pushed (ap pushed z)) (λ lt. spare (suc (suc (length labels + 2))) (omega arith) (push_then hi (refl, refl) (push_then lo o
        (subst (λ (t : List ℕ). Leads (switch_cases (u - 1) (n + 1) t (labels ++ label_node name)) (length labels + 2) ((ints ++ (hi ∷ [])) ++ (lo ∷ [])) (kept (λ labels ints. switch_cases (u - 1) m ints labels) length text p0) text p0 q5 w1 q5 w1) (append_assoc ints (hi ∷ []) (lo ∷ []))
        (subst (λ (t : ℕ). Leads (switch_cases (u - 1) t ((ints ++ (hi ∷ [])) ++ (lo ∷ [])) (labels ++ label_node name)) (length labels + 2) ((ints ++ (hi ∷ [])) ++ (lo ∷ [])) (kept (λ labels ints. switch_cases (u - 1) m ints labels) length text p0) text p0 q5 w1 q5 w1) (e lt)
        (kept_here (λ labels ints. switch_cases (u - 1) m ints labels) length (labels ++ label_node name) (omega (arith, label_long labels name))))))))))))
    cases_more true ints labels m {q5} {w1} e a =
        more (λ t. switch_cases t n ints labels) u pos
        (token_no _ _ gw l y (val _ gc (val_paid _ 8 (passes_case n) (g_child n x gt) (in_room n q3 x (a text).hands (λ lt. spare (2 + 0) (omega arith) (write_then (label_node name) 2 (a text)
        (subst (λ (t : ℕ). Leads (switch_cases (u - 1) t (ints ++ (hi ∷ lo ∷ [])) (labels ++ label_node name)) 0 (labels ++ label_node name) (kept (λ ints labels. switch_cases (u - 1) m ints labels) nothing text p0) text p0 q5 w1 q5 w1) (e lt)
        (kept_here (λ ints labels. switch_cases (u - 1) m ints labels) nothing (ints ++ (hi ∷ lo ∷ [])) (omega arith)))))))))

-- the labels are read again
cases_same : (n m : ℕ) (x y a b : List ℕ) (i j : ℕ) → ok (cases n x a) i ≡ ok (cases m y b) j → a ≡ b
cases_same n m x y a b i j e = cc

pub shows_labels : (n m : ℕ) (ints labels : List ℕ) {text : List ℕ} {z : Parsed} → Shows (kept (λ ints labels. ret (cases m ints labels)) nothing text z) (cases n ints labels) labels text z
unfolding run
shows_labels n m ints labels {text} {z} b k low _ _ _ j e (keeps x {mid = us} {cur = cur} {words = words} a) =
    record { cur = cur; is = refl; at = subst (λ (l : List ℕ). At b text z k low l cur words) (cases_same m n x ints us labels cur.at j e) (at_less k (omega arith) a) }
shows_labels n m ints labels b k low _ _ _ j e (keeps_not {e = en} {q = x}) = ok_not (cases n ints labels) j en x (sym e)

-- the count goes to the word that was left open for it, and the node ends
pub switch_close : (x ints labels : List ℕ) (def n m : ℕ) {c : ℕ} {text : List ℕ} {p0 p q r : Parsed} {w v w' : List ℕ} → m ≡ n - switch_front → (q ≡ p) × (v ≡ patches 1 m p0 p w) → (r ≡ q) × (w' ≡ closes 54 0 n p0 q v) → Leads (ret (switch_node x def (cases n ints labels))) c (0 ∷ 0 ∷ (((ints ++ x) ++ label_node def) ++ labels)) (made same text p0) text p0 p w r w'
unfolding switch_node
switch_close x ints labels def n m e o h = patch_then 1 m (0 ∷ []) 0 _ refl o (rw (← e) (close_is 54 0 n _ h))
