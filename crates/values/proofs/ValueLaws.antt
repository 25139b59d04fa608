-- The laws of the values' programs: at a parenthesis no value begins, and each list is its first element and then the list with a turn less.
-- Assumes nothing.
use mathlib.Core.Path.{◌≡◌, refl, sym, ap, ◌∙◌, subst}
use mathlib.Core.List.{List, [], ◌∷◌, ◌++◌}
use mathlib.Core.Bool.{Bool, true, false}
use Prim.Native.Nat.{ℕ, zero, suc, ◌+◌, ◌-◌, ◌≤◌, ◌<◌}
use native.Mathlib.Omega.{arith}
use lib.ListN.{length}
use Rattle.program.specs.Bytes.{bytes}
use Rattle.program.specs.Choice.{pick}
use Rattle.program.specs.Class.{class_of, is_word, is_digit}
use Rattle.program.specs.Prog.{Prog, ret, no_at, run, ◌>>=◌, byte_at, lead_word}
use Rattle.program.specs.Local.{next, run_bind}
use Rattle.grammar.specs.Lexer.{eat_ws, refuse, place, byte_if, same_word, starts_with, eat_n, word_at_if, rank, skip_keyword}
use Rattle.grammar.specs.Types.{Listed, listed, TypeOut, room, child, whole, type_child, comma_or, comma_list, parse_type}
use Rattle.grammar.specs.Values.{conv_ops, bin_ops, prefix_if, digit_if, numeric_or, leaf_values, pair_with, pair_child, aggregate, packed_const, gep_indices, const_exprs, value_with, parse_value, parse_typed_val}
use Rattle.lexer.specs.Step.{place_p, refused, counted_p}
use Rattle.lexer.specs.Reads.{Leads, Goal, made, reach, same, Gives, Comes, Counts}
use Rattle.lexer.specs.Parsed.{Parsed, Ok, Err}
use Rattle.lexer.proofs.Laws.{more, no_more, no_ok, done, stay, then, val, fail_is, call, place_at}
use Rattle.lexer.proofs.Children.{assoc, child_is, counted_hands, if_there, comma_yes, comma_no}
use Rattle.types.specs.Reading.{Types}
use Rattle.types.proofs.TypeLaws.{Stuck, type_then, space_run, byte_run_no, word_run_no, rank_run_no, fail_run, type_child_lem, comma_again, comma_stop, comma_turn}
use Rattle.value_leaves.specs.Leaf.{key_values, word_values}

-- ---- at a parenthesis no value begins
no_lead : (s : List ℕ) → byte_at s ≡ 40 → lead_word s ≡ []
unfolding lead_word byte_at is_word class_of
no_lead [] e = refl
no_lead (x ∷ s) e = rw (lead_word, e)

prefix_run_no : {A : Type 0} (k : ℕ) (ks : List ℕ) (f g : Prog A) (i : ℕ) (s : List ℕ) → byte_at s ≡ 40 → run (prefix_if (k ∷ ks) f g) i s ≡ run g i s
unfolding run prefix_if starts_with
prefix_run_no k ks f g i s e = ap (λ (w : List ℕ). run (elim (starts_with (k ∷ ks) w) [ true ↦ eat_n (length (k ∷ ks)) f | false ↦ g ]) i s) (no_lead s e)

at_run_no : {A : Type 0} (k : ℕ) (ks : List ℕ) (f g : Prog A) (i : ℕ) (s : List ℕ) → byte_at s ≡ 40 → run (word_at_if (k ∷ ks) f g) i s ≡ run g i s
unfolding run word_at_if same_word
at_run_no k ks f g i s e = ap (λ (w : List ℕ). run (elim (same_word w (k ∷ ks)) [ true ↦ f | false ↦ g ]) i s) (no_lead s e)

digit_run_no : {A : Type 0} (f g : Prog A) (i : ℕ) (s : List ℕ) → byte_at s ≡ 40 → run (digit_if f g) i s ≡ run g i s
unfolding run digit_if is_digit class_of
digit_run_no f g i s e = ap (λ (b : ℕ). run (elim (is_digit b) [ true ↦ f | false ↦ g ]) i s) e

numeric_run_no : (g : Prog (List ℕ)) (i : ℕ) (s : List ℕ) → byte_at s ≡ 40 → run (numeric_or g) i s ≡ run g i s
unfolding numeric_or
numeric_run_no g i s e = byte_run_no 43 _ _ i s (λ z. omega arith) e ∙ byte_run_no 45 _ _ i s (λ z. omega arith) e ∙ digit_run_no _ _ i s e

words_run_no : (g : Prog (List ℕ)) (i : ℕ) (s : List ℕ) → byte_at s ≡ 40 → run (word_values g) i s ≡ run g i s
unfolding word_values key_values same_word
words_run_no g i s e =
    word_run_no _ _ _ i s refl e ∙ word_run_no _ _ _ i s refl e ∙ word_run_no _ _ _ i s refl e ∙ word_run_no _ _ _ i s refl e ∙ word_run_no _ _ _ i s refl e ∙ word_run_no _ _ _ i s refl e ∙
    at_run_no _ _ _ _ i s e ∙ prefix_run_no _ _ _ _ i s e

leaf_run_no : (g : Prog (List ℕ)) (i : ℕ) (s : List ℕ) → byte_at s ≡ 40 → run (leaf_values g) i s ≡ run g i s
unfolding leaf_values word_values key_values
leaf_run_no g i s e = byte_run_no 37 _ _ i s (λ z. omega arith) e ∙ byte_run_no 64 _ _ i s (λ z. omega arith) e ∙ numeric_run_no _ i s e ∙ words_run_no g i s e

exprs_run_no : (t : Prog TypeOut) (v : Prog (List ℕ)) (i : ℕ) (s : List ℕ) → byte_at s ≡ 40 → run (const_exprs t v) i s ≡ no_at 6 i
unfolding const_exprs same_word rank conv_ops bin_ops
exprs_run_no t v i s e = word_run_no _ _ _ i s refl e ∙ rank_run_no conv_ops _ _ i s refl e ∙ rank_run_no bin_ops _ _ i s refl e ∙ fail_run 6 i s

value_run_no : (d i : ℕ) (s : List ℕ) → byte_at s ≡ 40 → run (parse_value (suc d)) i s ≡ no_at 6 i
unfolding parse_value value_with place run ◌>>=◌
value_run_no d i s e =
    space_run _ i s e ∙ leaf_run_no _ i s e ∙ byte_run_no 91 _ _ i s (λ z. omega arith) e ∙ byte_run_no 123 _ _ i s (λ z. omega arith) e ∙ byte_run_no 60 _ _ i s (λ z. omega arith) e ∙
    exprs_run_no (parse_type d) (parse_value d) i s e

pub stuck_value : {B : Type 0} (d : ℕ) (h : List ℕ → List ℕ → Prog B) → Stuck 6 (λ t. parse_value (suc d) >>= h t)
unfolding next
stuck_value d h t i s e = run_bind (parse_value (suc d)) (h t) i s ∙ ap (next (h t) i s) (value_run_no d i s e)

-- ---- a typed value
pub pair_none : {d : ℕ} {text : List ℕ} {p q r : Parsed} {w : List ℕ} → d ≡ 0 → Gives eat_ws tt text p q → r ≡ refused 16 q → Leads (parse_typed_val d) 0 [] (made same text p) text p p w r w
unfolding parse_typed_val pair_with parse_type whole eat_ws refuse ◌>>=◌
pair_none {d} {text} {p} {q} {r} {w} e g h = rw e (val {f = eat_ws} (λ _. refuse 16) g (fail_is _ h))

pair_at : {text : List ℕ} {p q r : Parsed} {w w1 w2 : List ℕ} (d : ℕ) → Types (suc d) text p w q w1 → Leads (parse_value (suc d)) 0 [] (made same text q) text q q w1 r w2 → Leads (parse_typed_val (suc d)) 0 [] (made same text p) text p p w r w2
unfolding parse_typed_val pair_with
pair_at d t v = type_then 6 _ t (stuck_value d (λ t v. ret (t ++ v))) (λ t. then _ v (λ v. done))

pub pair_some : {text : List ℕ} {p q r : Parsed} {w w1 w2 : List ℕ} (d : ℕ) → (d ≡ 0 → ⊥) → Types d text p w q w1 → Leads (parse_value d) 0 [] (made same text q) text q q w1 r w2 → Leads (parse_typed_val d) 0 [] (made same text p) text p p w r w2
pair_some zero n t v = absurd (n refl)
pair_some (suc d) n t v = pair_at d t v

-- ---- a typed value as the next children of a list
stuck_child : {B : Type 0} (d n : ℕ) (h : List ℕ → List ℕ → Prog B) → Stuck 6 (λ t. child n (parse_value (suc d)) >>= h t)
unfolding child
stuck_child d n h t i s e = assoc (parse_value (suc d)) (room n) (h t) i s ∙ stuck_value d (λ t v. room n v >>= h t) t i s e

pub child_none : {d : ℕ} (n : ℕ) {text : List ℕ} {p q r : Parsed} {w : List ℕ} → d ≡ 0 → Gives eat_ws tt text p q → r ≡ refused 16 q → Leads (pair_child (parse_type d) (parse_value d) n) 0 [] (made same text p) text p p w r w
unfolding pair_child type_child child parse_type whole eat_ws refuse ◌>>=◌
child_none n e g h = rw e (val {f = eat_ws} (λ _. refuse 16) g (fail_is _ h))

pub none_counted : (e : ℕ) (q : Parsed) {r : Parsed} {m k : ℕ} → r ≡ refused e q → Counts r m k
none_counted e (Ok c) h cur o = no_ok cur e c.at (sym o ∙ h)
none_counted e (Err r) h cur o = no_ok cur r.question r.place (sym o ∙ h)

module _ (n k : ℕ) {text : List ℕ} {p q1 q2 q3 q4 : Parsed} {w w1 w2 : List ℕ} (x : q2 ≡ counted_p n q1) (e : n < 65535 → k ≡ n + 1) (x2 : q4 ≡ counted_p k q3) where
  child_at_lem : (d : ℕ) → Types (suc d) text p w q1 w1 → Leads (parse_value (suc d)) 0 [] (made same text q2) text q2 q2 w1 q3 w2 → Leads (pair_child (parse_type (suc d)) (parse_value (suc d)) n) 0 [] (made same text p) text p p w q4 w2
  unfolding pair_child
  child_at_lem d t v = type_child_lem n 6 _ t x (stuck_child d (n + 1) (λ t v. ret (t ++ v))) (λ i j z. counted_hands k q3 x2 (v.hands i j z))
      (λ t lt. then _ (subst (λ (j : ℕ). Leads (child j (parse_value (suc d))) 0 [] (made same text q2) text q2 q2 w1 q4 w2) (e lt) (child_is k x2 v)) (λ v. done))

  pub child_some : (d : ℕ) → (d ≡ 0 → ⊥) → Types d text p w q1 w1 → Leads (parse_value d) 0 [] (made same text q2) text q2 q2 w1 q3 w2 → Leads (pair_child (parse_type d) (parse_value d) n) 0 [] (made same text p) text p p w q4 w2
  child_some zero z t v = absurd (z refl)
  child_some (suc d) z t v = child_at_lem d t v

-- ---- typed values behind commas
abbrev pub pairs_of : ℕ → ℕ → ℕ → ℕ → List ℕ → Prog Listed
pairs_of d u end n ws = comma_list u 2 end (pair_child (parse_type d) (parse_value d)) n ws

module _ (d : ℕ) {text : List ℕ} {p0 q q1 q2 : Parsed} {v v1 : List ℕ} (u end n m : ℕ) (pos : 0 < u) (r : Leads (pair_child (parse_type d) (parse_value d) n) 0 [] (made same text q) text q q v q1 v1 × Counts q1 m (n + 2)) (ws : List ℕ) {b : Bool} (cm : (x y : Prog Listed) → Comes (comma_or end x y) (pick b x y) text q1 q2) where
  pub pairs_more : b ≡ true → Leads (pairs_of d u end n ws) 0 ws (reach (pairs_of d (u - 1) end m) text p0) text p0 q v q2 v1
  pairs_more y = comma_turn u 2 end n (pair_child (parse_type d) (parse_value d)) ws pos (then _ r.0 (λ t. if_there (cm (refuse 3) (refuse 3)).hands (λ cur o. comma_again end cm _ m (r.1 cur o) (ws ++ t) (pairs_of d (u - 1) end) _ y)))

  pub pairs_end : b ≡ false → Leads (pairs_of d u end n ws) 0 ws (made (listed m 0) text p0) text p0 q v q2 v1
  pairs_end y = comma_turn u 2 end n (pair_child (parse_type d) (parse_value d)) ws pos (then _ r.0 (λ t. if_there (cm (refuse 3) (refuse 3)).hands (λ cur o. comma_stop end cm _ m (r.1 cur o) (ws ++ t) _ y)))

-- ---- the indices of a constant getelementptr
abbrev pub indices_of : ℕ → ℕ → ℕ → List ℕ → Prog Listed
indices_of d u n ws = gep_indices u (parse_type d) (parse_value d) n ws

module _ (d : ℕ) {text : List ℕ} {p0 q q1 : Parsed} {v : List ℕ} (u n : ℕ) (ws : List ℕ) where
  pub indices_out : {E : Goal Listed} → u ≤ 0 → q1 ≡ refused 19 q → Leads (indices_of d u n ws) 0 ws E text p0 q v q1 v
  unfolding gep_indices
  indices_out h x = no_more (λ z. indices_of d z n ws) u h (fail_is _ x)

  module _ (pos : 0 < u) {b : Bool} (cm : (x y : Prog Listed) → Comes (comma_or 41 x y) (pick b x y) text q q1) where
    pub indices_end : b ≡ false → Leads (indices_of d u n ws) 0 ws (made (listed n 0) text p0) text p0 q v q1 v
    unfolding gep_indices
    indices_end y = more (λ z. indices_of d z n ws) u pos (comma_no 41 cm _ _ y done)

    pub indices_more : (m : ℕ) {q2 q3 : Parsed} {v3 : List ℕ} → b ≡ true → Gives (skip_keyword (bytes "inrange")) tt text q1 q2 → Leads (pair_child (parse_type d) (parse_value d) n) 0 [] (made same text q2) text q2 q2 v q3 v3 × Counts q3 m (n + 2) → Leads (indices_of d u n ws) 0 ws (reach (indices_of d (u - 1) m) text p0) text p0 q v q3 v3
    unfolding gep_indices
    indices_more m {q2} {q3} {v3} y g r = more (λ z. indices_of d z n ws) u pos (comma_yes 41 cm _ _ y (val _ g (then _ r.0 (λ t. if_there (λ i j z. z) (λ cur o.
        subst (λ (j : ℕ). Leads (indices_of d (u - 1) j (ws ++ t)) 0 (ws ++ t) (reach (indices_of d (u - 1) m) text p0) text p0 q3 v3 q3 v3) (r.1 cur o) (stay (indices_of d (u - 1) m)))))))

-- ---- the depth
-- behind the forms that hold no other
unfoldable pub holding : ℕ → Prog TypeOut → Prog (List ℕ) → Prog (List ℕ)
holding i type value =
    byte_if 91 (aggregate 25 93 type value) (byte_if 123 (aggregate 26 125 type value) (byte_if 60 (packed_const i type value) (const_exprs type value)))

pub value_none : {d : ℕ} {text : List ℕ} {p q r : Parsed} {w : List ℕ} → d ≡ 0 → Gives eat_ws tt text p q → r ≡ refused 16 q → Leads (parse_value d) 0 [] (made same text p) text p p w r w
unfolding parse_value
value_none {d} e g h = rw e (val _ g (fail_is _ h))

value_at_lem : {text : List ℕ} {p q r : Parsed} {w w1 : List ℕ} (d : ℕ) → Gives eat_ws tt text p q → Leads (leaf_values (holding (place_p q) (parse_type d) (parse_value d))) 0 [] (made same text q) text q q w r w1 → Leads (parse_value (suc d)) 0 [] (made same text p) text p p w r w1
unfolding parse_value value_with holding
value_at_lem d g k = val _ g (place_at _ _ refl (λ _. call 0 (omega arith) k))

pub value_some : {text : List ℕ} {p q r : Parsed} {w w1 : List ℕ} (d : ℕ) → (d ≡ 0 → ⊥) → Gives eat_ws tt text p q → Leads (leaf_values (holding (place_p q) (parse_type (d - 1)) (parse_value (d - 1)))) 0 [] (made same text q) text q q w r w1 → Leads (parse_value d) 0 [] (made same text p) text p p w r w1
value_some {text} {p} {q} {r} {w} {w1} d n g k = let e : suc (d - 1) ≡ d = omega arith in subst (λ (z : ℕ). Leads (parse_value z) 0 [] (made same text p) text p p w r w1) e (value_at_lem (d - 1) g k)

-- the place of the `<`, in the code
pub packed_as : {i j : ℕ} (t : Prog TypeOut) (x : Prog (List ℕ)) {text : List ℕ} {p q : Parsed} {w w1 : List ℕ} → i ≡ j → Leads (packed_const i t x) 1 [] (made same text p) text p p w q w1 → Leads (packed_const j t x) 1 [] (made same text p) text p p w q w1
packed_as t x {text} {p} {q} {w} {w1} e h = subst (λ (z : ℕ). Leads (packed_const z t x) 1 [] (made same text p) text p p w q w1) e h
