-- A list's turns never run out: each turn has a child at least, and question 19 refuses the child behind the last that a node may have.
-- By induction on the turns: where as many children stand as a node may have, the element ends with no value, and what would stand behind it is never reached.
-- Assumes nothing.
use Rattle.std.specs.Prelude.{◌≡◌, refl, Bool, true, false, List, ◌++◌, ℕ, zero, suc, ◌+◌, ◌-◌, ◌≤◌, ◌<◌, ltb, leb, drop}
use Rattle.std.proofs.Common.{sym, ◌∙◌, arith, leb-true, leb-false, le-ltb}
use Rattle.program.specs.Prog.{Prog, Res, ok, closed, no_at, run, ◌>>=◌}
use Rattle.program.specs.Local.{next, run_bind}
use Rattle.records.specs.Limits.{child_limit, list_turns, depth_limit}
use Rattle.records.specs.Questions.{q_token}
use Rattle.grammar.specs.Lexer.{eat_ws, refuse, token_if, expect_token, skip_keyword, dots_if, parse_local_name}
use Rattle.grammar.specs.Types.{TypeOut, room, child, whole, behind, type_child, comma_or, comma_list, dots_list, type_item, parse_type}
use Rattle.grammar.specs.Values.{pair_child, gep_indices}
use Rattle.grammar.specs.Instructions.{value, label_node, arg_item, phi_items, case_int, target, switch_cases}
use Rattle.grammar.specs.Counter.{counter_of, item_of}
use Rattle.grammar.specs.Body.{parse_param, parse_params}
use Rattle.theorem_turns.specs.Same.{Same, same, alike, then, by_byte, by_byte_at}

-- It ends with no value.
abbrev pub Silent : {A : Type 0} → Prog A → Type 0
Silent {A} f = (i j : ℕ) (s : List ℕ) (a : A) → run f i s ≡ ok a j → ⊥

-- Whatever stands behind is not reached.
pub never : {A B : Type 0} {n : ℕ} (f : Prog A) (h k : A → Prog B) → Silent f → Same n (f >>= h) (f >>= k)
unfolding next
never {A} {B} {n} f h k d = same λ i s l. go i s
  where
    at : (i : ℕ) (s : List ℕ) (r : Res A) → run f i s ≡ r → next h i s r ≡ next k i s r
    at i s (ok a j) t = absurd (d i j s a t)
    at i s (closed ws j) t = refl
    at i s (no_at q p) t = refl

    go : (i : ℕ) (s : List ℕ) → run (f >>= h) i s ≡ run (f >>= k) i s
    go i s = run_bind f h i s ∙ (at i s (run f i s) refl ∙ sym (run_bind f k i s))

-- A part that ends with no value makes the whole so.
silent_first : {A B : Type 0} (f : Prog A) (h : A → Prog B) → Silent f → Silent (f >>= h)
unfolding next
silent_first {A} {B} f h d i j s b e = at (run f i s) refl (sym (run_bind f h i s) ∙ e)
  where
    at : (r : Res A) → run f i s ≡ r → next h i s r ≡ ok b j → ⊥
    at (ok a k) t u = d i k s a t
    at (closed ws k) t u = let z : ◌≡◌ {A = ℕ} 0 1 = cc in omega arith
    at (no_at q p) t u = let z : ◌≡◌ {A = ℕ} 0 1 = cc in omega arith

silent_then : {A B : Type 0} (f : Prog A) (h : A → Prog B) → ((a : A) → Silent (h a)) → Silent (f >>= h)
unfolding next
silent_then {A} {B} f h d i j s b e = at (run f i s) (sym (run_bind f h i s) ∙ e)
  where
    at : (r : Res A) → next h i s r ≡ ok b j → ⊥
    at (ok a k) u = d a k j (drop (k - i) s) b u
    at (closed ws k) u = let z : ◌≡◌ {A = ℕ} 0 1 = cc in omega arith
    at (no_at q p) u = let z : ◌≡◌ {A = ℕ} 0 1 = cc in omega arith

-- Question 19, where as many children stand before as a node may have.
silent_room : {A : Type 0} (n : ℕ) (a : A) → child_limit ≤ n → Silent (room n a)
unfolding room run refuse
silent_room n a h i j s b e = let t : ltb n child_limit ≡ false = le-ltb n child_limit h in let z : ◌≡◌ {A = ℕ} 0 1 = (let u = rw (t, run, refuse) at e in cc) in omega arith

pub silent_child : {A : Type 0} (n : ℕ) (p : Prog A) → child_limit ≤ n → Silent (child n p)
unfolding child
silent_child n p h = silent_then p (room n) λ a. silent_room n a h

pub silent_type_child : (n q : ℕ) (f : Prog TypeOut) → child_limit ≤ n → Silent (type_child n q f)
unfolding type_child
silent_type_child n q f h = silent_child n (whole (behind n q) f) h

pub silent_pair_child : (type : Prog TypeOut) (value : Prog (List ℕ)) (n : ℕ) → child_limit ≤ n → Silent (pair_child type value n)
unfolding pair_child
silent_pair_child type value n h = silent_first _ _ (silent_type_child n 6 type h)

-- Elements that are asked so.
abbrev pub Asks : (ℕ → Prog (List ℕ)) → Type 0
Asks elem = (n : ℕ) → child_limit ≤ n → Silent (elem n)

-- enough turns, where n children stand before
abbrev pub Enough : (n u : ℕ) → Type 0
Enough n u = child_limit < n + u × (1 ≤ u)

-- The definitions' lists have so many, and their elements are asked so.
pub enough_list : (n more : ℕ) → Enough n (list_turns + more)
enough_list n more = (omega arith, omega arith)

pub asks_type_child : (q : ℕ) (f : Prog TypeOut) → Asks (λ n. type_child n q f)
asks_type_child q f n h = silent_type_child n q f h

pub asks_type_item : (f : Prog TypeOut) → Asks (type_item f)
unfolding type_item
asks_type_item f n h = silent_first _ _ (silent_type_child n 3 f h)

pub asks_pair_child : (type : Prog TypeOut) (value : Prog (List ℕ)) → Asks (pair_child type value)
asks_pair_child = silent_pair_child

pub asks_arg_item : Asks arg_item
unfolding arg_item
asks_arg_item n h = silent_first _ _ (silent_type_child n 6 (parse_type depth_limit) h)

pub same_comma_list : {m : ℕ} (u v k end n : ℕ) (elem : ℕ → Prog (List ℕ)) (acc : List ℕ) → Asks elem → 1 ≤ k → Enough n u → Enough n v → Same m (comma_list u k end elem n acc) (comma_list v k end elem n acc)
unfolding comma_list comma_or token_if
same_comma_list zero v k end n elem acc asks one a b = absurd (omega (arith, a.1))
same_comma_list (suc u) zero k end n elem acc asks one a b = absurd (omega (arith, b.1))
same_comma_list {m} (suc u) (suc v) k end n elem acc asks one a b = go (leb child_limit n) refl λ x c d. same_comma_list u v k end (n + k) elem (acc ++ x) asks one c d
  where
    go : (t : Bool) → leb child_limit n ≡ t → ((x : List ℕ) → Enough (n + k) u → Enough (n + k) v → Same m (comma_list u k end elem (n + k) (acc ++ x)) (comma_list v k end elem (n + k) (acc ++ x)))
        → Same m (comma_list (suc u) k end elem n acc) (comma_list (suc v) k end elem n acc)
    go true t again = never (elem n) _ _ (asks n (leb-true child_limit n t))
    go false t again =
        let l : n < child_limit = leb-false child_limit n t in
        then (elem n) λ x. then eat_ws λ _. by_byte _ (again x (omega (arith, a.0, one), omega (arith, a.0, l)) (omega (arith, b.0, one), omega (arith, b.0, l))) alike

pub same_dots_list : {m : ℕ} (u v k dots bad n : ℕ) (elem : ℕ → Prog (List ℕ)) (acc : List ℕ) → Asks elem → 1 ≤ k → Enough n u → Enough n v → Same m (dots_list u k dots bad elem n acc) (dots_list v k dots bad elem n acc)
unfolding dots_list dots_if comma_or token_if
same_dots_list zero v k dots bad n elem acc asks one a b = absurd (omega (arith, a.1))
same_dots_list (suc u) zero k dots bad n elem acc asks one a b = absurd (omega (arith, b.1))
same_dots_list {m} (suc u) (suc v) k dots bad n elem acc asks one a b = go (leb child_limit n) refl λ x c d. same_dots_list u v k dots bad (n + k) elem (acc ++ x) asks one c d
  where
    go : (t : Bool) → leb child_limit n ≡ t → ((x : List ℕ) → Enough (n + k) u → Enough (n + k) v → Same m (dots_list u k dots bad elem (n + k) (acc ++ x)) (dots_list v k dots bad elem (n + k) (acc ++ x)))
        → Same m (dots_list (suc u) k dots bad elem n acc) (dots_list (suc v) k dots bad elem n acc)
    go true t again = then eat_ws λ _. by_byte_at _ alike (never (elem n) _ _ (asks n (leb-true child_limit n t)))
    go false t again =
        let l : n < child_limit = leb-false child_limit n t in
        then eat_ws λ _. by_byte_at _ alike
        (then (elem n) λ x. then eat_ws λ _. by_byte _ (again x (omega (arith, a.0, one), omega (arith, a.0, l)) (omega (arith, b.0, one), omega (arith, b.0, l))) alike)

-- parameters, each with the counter behind those before it
pub same_parse_params : {m : ℕ} (u v c n : ℕ) (acc : List ℕ) → Enough n u → Enough n v → Same m (parse_params u c n acc) (parse_params v c n acc)
unfolding parse_params dots_if comma_or token_if
same_parse_params zero v c n acc a b = absurd (omega (arith, a.1))
same_parse_params (suc u) zero c n acc a b = absurd (omega (arith, b.1))
same_parse_params {m} (suc u) (suc v) c n acc a b = go (leb child_limit n) refl λ d x e f. same_parse_params u v d (n + 1) (acc ++ x) e f
  where
    go : (t : Bool) → leb child_limit n ≡ t → ((d : ℕ) (x : List ℕ) → Enough (n + 1) u → Enough (n + 1) v → Same m (parse_params u d (n + 1) (acc ++ x)) (parse_params v d (n + 1) (acc ++ x)))
        → Same m (parse_params (suc u) c n acc) (parse_params (suc v) c n acc)
    go true t again = then eat_ws λ _. by_byte_at _ alike (never (child n (parse_param (behind n q_token) c)) _ _ (silent_child n (parse_param (behind n q_token) c) (leb-true child_limit n t)))
    go false t again =
        let l : n < child_limit = leb-false child_limit n t in
        then eat_ws λ _. by_byte_at _ alike
        (then (child n (parse_param (behind n q_token) c)) λ x. then eat_ws λ _.
        by_byte _ (again (counter_of x) (item_of x) (omega (arith, a.0), omega (arith, a.0, l)) (omega (arith, b.0), omega (arith, b.0, l))) alike)

pub same_gep_indices : {m : ℕ} (u v : ℕ) (type : Prog TypeOut) (value : Prog (List ℕ)) (n : ℕ) (acc : List ℕ) → Enough n u → Enough n v → Same m (gep_indices u type value n acc) (gep_indices v type value n acc)
unfolding gep_indices comma_or token_if
same_gep_indices zero v type value n acc a b = absurd (omega (arith, a.1))
same_gep_indices (suc u) zero type value n acc a b = absurd (omega (arith, b.1))
same_gep_indices {m} (suc u) (suc v) type value n acc a b = go (leb child_limit n) refl λ x c d. same_gep_indices u v type value (n + 2) (acc ++ x) c d
  where
    go : (t : Bool) → leb child_limit n ≡ t → ((x : List ℕ) → Enough (n + 2) u → Enough (n + 2) v → Same m (gep_indices u type value (n + 2) (acc ++ x)) (gep_indices v type value (n + 2) (acc ++ x)))
        → Same m (gep_indices (suc u) type value n acc) (gep_indices (suc v) type value n acc)
    go true t again = then eat_ws λ _. by_byte _ (then (skip_keyword _) λ _. never (pair_child type value n) _ _ (silent_pair_child type value n (leb-true child_limit n t))) alike
    go false t again =
        let l : n < child_limit = leb-false child_limit n t in
        then eat_ws λ _. by_byte _ (then (skip_keyword _) λ _. then (pair_child type value n) λ x. again x (omega (arith, a.0), omega (arith, a.0, l)) (omega (arith, b.0), omega (arith, b.0, l))) alike

pub same_phi_items : {m : ℕ} (u v n : ℕ) (acc : List ℕ) → Enough n u → Enough n v → Same m (phi_items u n acc) (phi_items v n acc)
unfolding phi_items token_if
same_phi_items zero v n acc a b = absurd (omega (arith, a.1))
same_phi_items (suc u) zero n acc a b = absurd (omega (arith, b.1))
same_phi_items {m} (suc u) (suc v) n acc a b = go (leb child_limit n) refl λ x c d. same_phi_items u v (n + 2) x c d
  where
    go : (t : Bool) → leb child_limit n ≡ t → ((x : List ℕ) → Enough (n + 2) u → Enough (n + 2) v → Same m (phi_items u (n + 2) x) (phi_items v (n + 2) x)) → Same m (phi_items (suc u) n acc) (phi_items (suc v) n acc)
    go true t again = then (expect_token _) λ _. never (child n value) _ _ (silent_child n value (leb-true child_limit n t))
    go false t again =
        let l : n < child_limit = leb-false child_limit n t in
        then (expect_token _) λ _. then (child n value) λ x. then (expect_token _) λ _. then (child (n + 1) parse_local_name) λ y. then (expect_token _) λ _. then eat_ws λ _.
        by_byte _ (again ((acc ++ x) ++ label_node y) (omega (arith, a.0), omega (arith, a.0, l)) (omega (arith, b.0), omega (arith, b.0, l))) alike

pub same_switch_cases : {m : ℕ} (u v n : ℕ) (ints labels : List ℕ) → Enough n u → Enough n v → Same m (switch_cases u n ints labels) (switch_cases v n ints labels)
unfolding switch_cases token_if
same_switch_cases zero v n ints labels a b = absurd (omega (arith, a.1))
same_switch_cases (suc u) zero n ints labels a b = absurd (omega (arith, b.1))
same_switch_cases {m} (suc u) (suc v) n ints labels a b = go (leb child_limit n) refl λ x y c d. same_switch_cases u v (n + 1) x y c d
  where
    go : (t : Bool) → leb child_limit n ≡ t → ((x y : List ℕ) → Enough (n + 1) u → Enough (n + 1) v → Same m (switch_cases u (n + 1) x y) (switch_cases v (n + 1) x y)) → Same m (switch_cases (suc u) n ints labels) (switch_cases (suc v) n ints labels)
    go true t again = then eat_ws λ _. by_byte _ alike (then case_int λ c. never (child n target) _ _ (silent_child n target (leb-true child_limit n t)))
    go false t again =
        let l : n < child_limit = leb-false child_limit n t in
        then eat_ws λ _. by_byte _ alike
        (then case_int λ c. then (child n target) λ x. again (ints ++ c) (labels ++ label_node x) (omega (arith, a.0), omega (arith, a.0, l)) (omega (arith, b.0), omega (arith, b.0, l)))
