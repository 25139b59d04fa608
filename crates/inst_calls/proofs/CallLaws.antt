-- The laws of a call: its arguments, its function type, the list that the return type may have read.
-- Assumes nothing.
use mathlib.Core.Path.{◌≡◌, refl, sym, ap, ◌∙◌, subst}
use mathlib.Core.Bool.{Bool, true, false}
use mathlib.Core.List.{List, [], ◌∷◌, ◌++◌}
use mathlib.Core.Option.{Option, none as nothing, some}
use Prim.Native.Nat.{ℕ, ◌+◌, ◌-◌, ◌<◌}
use native.Mathlib.Omega.{arith}
use lib.Dec.{eqb}
use lib.ListN.{drop}
use lib.Seq.{drop-drop}
use Rattle.program.specs.Choice.{pick}
use Rattle.program.specs.Class.{is_space}
use Rattle.program.specs.Prog.{Prog, ret, scan, Res, ok, closed, no_at, run, byte_at, scan_len, ◌>>=◌}
use Rattle.records.specs.Limits.{depth_limit, list_depth}
use Rattle.grammar.specs.Lexer.{space_step, eat_ws, refuse, is_byte, token_if}
use Rattle.grammar.specs.Attributes.{skip_attrs}
use Rattle.grammar.specs.Types.{Listed, listed, plain, opened, room, child, comma_or, dots_list, no_type, parse_type_list, parse_type}
use Rattle.grammar.specs.Values.{value_with, parse_value}
use Rattle.grammar.specs.Instructions.{arg_item, func_node, call_rest, call_of}
use Rattle.lexer.specs.Step.{looks_p, counted_p}
use Rattle.node_words.specs.Writes.{closes}
use Rattle.lexer.specs.Reads.{Leads, Goal, made, reach, same, Gives, Comes, Counts}
use Rattle.lexer.specs.Parsed.{Parsed}
use Rattle.lexer.proofs.Laws.{after, bind_at, scan_run, run_eat, byte_run, some_byte, done, then, val}
use Rattle.node_words.proofs.Laws.{close_is}
use Rattle.lexer.proofs.Children.{assoc, child_is, counted_hands, if_there}
use Rattle.types.specs.Reading.{spaced, Listing, list_of, Types}
use Rattle.types.proofs.TypeLaws.{Stuck, space_run, attrs_run, type_child_lem, comma_again, comma_stop, dots_turn}
use Rattle.values.proofs.ValueLaws.{stuck_value}

-- ---- arguments
-- behind a type: attributes, a value
stuck_arg : {B : Type 0} (n : ℕ) (h : List ℕ → List ℕ → Prog B) → Stuck 6 (λ t. skip_attrs >>= λ _. child n (parse_value depth_limit) >>= h t)
unfolding child
stuck_arg n h t i s e = attrs_run (λ _. child n (parse_value depth_limit) >>= h t) i s e ∙ assoc (parse_value depth_limit) (room n) (h t) i s ∙ stuck_value list_depth (λ t v. room n v >>= h t) t i s e

pub arg_is : (n k : ℕ) {text : List ℕ} {p q1 q2 q3 q4 q5 : Parsed} {w w1 w2 : List ℕ} → Types depth_limit text p w q1 w1 → q2 ≡ counted_p n q1 → (n < 65535 → k ≡ n + 1) → Gives skip_attrs tt text q2 q3 → Leads (parse_value depth_limit) 0 [] (made same text q3) text q3 q3 w1 q4 w2 → q5 ≡ counted_p k q4 → Leads (arg_item n) 0 [] (made same text p) text p p w q5 w2
unfolding arg_item
arg_is n k {text} {p} {q1} {q2} {q3} {q4} {q5} {w} {w1} {w2} t x e ga v x2 = type_child_lem n 6 _ t x (stuck_arg (n + 1) (λ t v. ret (t ++ v))) (λ i j z. counted_hands k q4 x2 (v.hands i j (ga.hands i j z)))
    (λ t lt. val _ ga (then _ (subst (λ (j : ℕ). Leads (child j (parse_value depth_limit)) 0 [] (made same text q3) text q3 q3 w1 q5 w2) (e lt) (child_is k x2 v)) (λ v. done)))

abbrev pub args_of : ℕ → ℕ → List ℕ → Prog Listed
args_of u n ws = dots_list u 2 0 5 arg_item n ws

module _ {text : List ℕ} {p0 q q1 q2 q3 : Parsed} {v v1 : List ℕ} (u n m : ℕ) (pos : 0 < u) (gw : Gives eat_ws tt text q q1) {z : Bool} (l : z ≡ looks_p text q1 46) (y : z ≡ false) (r : Leads (arg_item n) 0 [] (made same text q1) text q1 q1 v q2 v1 × Counts q2 m (n + 2)) (ws : List ℕ) {b : Bool} (cm : (x y : Prog Listed) → Comes (comma_or 41 x y) (pick b x y) text q2 q3) where
  pub args_more : b ≡ true → Leads (args_of u n ws) 0 ws (reach (args_of (u - 1) m) text p0) text p0 q v q3 v1
  args_more o = dots_turn u 2 0 5 n arg_item ws pos gw l y (then _ r.0 (λ t. if_there (cm (refuse 3) (refuse 3)).hands (λ cur i. comma_again 41 cm _ m (r.1 cur i) (ws ++ t) (args_of (u - 1)) _ o)))

  pub args_end : b ≡ false → Leads (args_of u n ws) 0 ws (made (listed m 0) text p0) text p0 q v q3 v1
  args_end o = dots_turn u 2 0 5 n arg_item ws pos gw l y (then _ r.0 (λ t. if_there (cm (refuse 3) (refuse 3)).hands (λ cur i. comma_stop 41 cm _ m (r.1 cur i) (ws ++ t) _ o)))

-- a result is one thing
no_ok_at : {A B : Type 0} (a : A) (j q p : ℕ) → no_at q p ≡ ok a j → B
no_ok_at a j q p e = absurd (let z : ◌≡◌ {A = ℕ} 0 1 = cc in omega arith)

no_closed : {A B : Type 0} (a : A) (j : ℕ) (ws : List ℕ) (p : ℕ) → closed ws p ≡ ok a j → B
no_closed a j ws p e = absurd (let z : ◌≡◌ {A = ℕ} 0 1 = cc in omega arith)

-- ---- a function type
-- a function type's node
pub func_close : (t ws : List ℕ) (n dots : ℕ) {c : ℕ} {text : List ℕ} {p0 p q : Parsed} {w w' : List ℕ} → (q ≡ p) × (w' ≡ closes 11 dots n p0 p w) → Leads (ret (func_node t (listed n dots ws))) c (0 ∷ (t ++ ws)) (made same text p0) text p0 p w q w'
unfolding func_node
func_close t ws n dots h = close_is 11 dots n (t ++ ws) h

-- a result that is made further, then the rest
pub made_then : {A B C : Type 0} (f : Prog A) (g : A → B) (h : B → Prog C) {c : ℕ} {mid : List ℕ} {E : Goal C} {text : List ℕ} {p0 p p' : Parsed} {w w' : List ℕ} → Leads ((f >>= λ a. ret (g a)) >>= h) c mid E text p0 p w p' w' → Leads (f >>= λ a. h (g a)) c mid E text p0 p w p' w'
unfolding after run
made_then {A} {B} {C} f g h {c} {mid} {E} {text} {p0} {p} {p'} {w} {w'} r = record {
  runs = λ b low k cur e a. subst (λ (z : Res C). E.ends b k low z p' w') (both cur.at) (r.runs b low k cur e a);
  hands = r.hands;
}
  where
    last : (z : Res A) → after h text (after (λ a. ret (g a)) text z) ≡ after (λ a. h (g a)) text z
    last (ok a j) = refl
    last (closed ws j) = refl
    last (no_at q x) = refl

    both : (i : ℕ) → run ((f >>= λ a. ret (g a)) >>= h) i (drop i text) ≡ run (f >>= λ a. h (g a)) i (drop i text)
    both i = bind_at (f >>= λ a. ret (g a)) h text i ∙ ap (after h text) (bind_at f (λ a. ret (g a)) text i) ∙ last (run f i (drop i text)) ∙ sym (bind_at f (λ a. h (g a)) text i)

-- ---- a list that the return type has read
-- where white space ends in any state, none begins
space_first : (q x : ℕ) → space_step q x ≡ nothing → space_step 0 x ≡ nothing
unfolding space_step
space_first q x e = go (eqb q 0) e
  where
    last : (y : Bool) → pick {A = Option ℕ} y (some 0) (some 1) ≡ nothing → pick {A = Option ℕ} (eqb x 59) (some 1) (pick {A = Option ℕ} (is_space x) (some 0) nothing) ≡ nothing
    last true i = absurd (let z : ◌≡◌ {A = ℕ} 0 1 = cc in omega arith)
    last false i = absurd (let z : ◌≡◌ {A = ℕ} 0 1 = cc in omega arith)

    go : (z : Bool) → pick {A = Option ℕ} z (pick {A = Option ℕ} (eqb x 59) (some 1) (pick {A = Option ℕ} (is_space x) (some 0) nothing)) (pick {A = Option ℕ} (eqb x 10) (some 0) (some 1)) ≡ nothing → pick {A = Option ℕ} (eqb x 59) (some 1) (pick {A = Option ℕ} (is_space x) (some 0) nothing) ≡ nothing
    go true i = i
    go false i = last (eqb x 10) i

-- white space is passed once
space_again : (q : ℕ) (s : List ℕ) → scan_len space_step 0 (drop (scan_len space_step q s) s) ≡ 0
unfolding scan_len
space_again q [] = refl
space_again q (x ∷ s) = go (space_step q x) refl (λ r. space_again r s)
  where
    go : (o : Option ℕ) → space_step q x ≡ o → ((r : ℕ) → scan_len space_step 0 (drop (scan_len space_step r s) s) ≡ 0) → scan_len space_step 0 (drop (scan_len space_step q (x ∷ s)) (x ∷ s)) ≡ 0
    go nothing e ih = rw (scan_len, e) (rw (scan_len, space_first q x e))
    go (some r) e ih = rw (scan_len, e) (ih r)

-- what begins with white space does not see it
space_twice : {A : Type 0} (k : Prog A) (text : List ℕ) (i : ℕ) → run (scan space_step 0 (λ w. k)) (i + scan_len space_step 0 (drop i text)) (drop (i + scan_len space_step 0 (drop i text)) text) ≡ run (scan space_step 0 (λ w. k)) i (drop i text)
space_twice k text i =
    let n : ℕ = scan_len space_step 0 (drop i text) in
    let d : drop n (drop i text) ≡ drop (i + n) text = drop-drop n i text in
    let z : scan_len space_step 0 (drop (i + n) text) ≡ 0 = ap (scan_len space_step 0) (sym d) ∙ space_again 0 (drop i text) in
    let e : i + n + scan_len space_step 0 (drop (i + n) text) ≡ i + n = omega arith in
    scan_run space_step 0 (λ w. k) text (i + n) ∙ ap (λ (m : ℕ). run k m (drop m text)) e ∙ sym (scan_run space_step 0 (λ w. k) text i)

value_space : {A : Type 0} (h : List ℕ → Prog A) (text : List ℕ) (i : ℕ) → run (parse_value depth_limit >>= h) (i + scan_len space_step 0 (drop i text)) (drop (i + scan_len space_step 0 (drop i text)) text) ≡ run (parse_value depth_limit >>= h) i (drop i text)
unfolding parse_value value_with eat_ws ◌>>=◌
value_space h text i = space_twice _ text i

rest_space : (dest : ℕ) (types text : List ℕ) (i : ℕ) → run (call_rest dest 1 3 types) (i + scan_len space_step 0 (drop i text)) (drop (i + scan_len space_step 0 (drop i text)) text) ≡ run (call_rest dest 1 3 types) i (drop i text)
unfolding call_rest
rest_space dest types text i = value_space _ text i

-- behind a list and the white space after it, a call goes on as from the list's parenthesis
list_space : (text : List ℕ) (m : Listed) (i : ℕ) → run (eat_ws >>= λ _. ret m) i (drop i text) ≡ ok m (i + scan_len space_step 0 (drop i text))
unfolding eat_ws run ◌>>=◌
list_space text m i = refl

opened_list : (text : List ℕ) (j : ℕ) (l : Listed) (e : ℕ) → Listing (list_of depth_limit) text j l e → run (parse_type_list 5 (parse_type list_depth) >>= λ l. eat_ws >>= λ _. ret l) (j + 1) (drop (j + 1) text) ≡ ok l e
unfolding list_of no_type spaced
opened_list text j l e L = L.runs

opened_byte : (text : List ℕ) (j : ℕ) → byte_at (drop j text) ≡ 40 → is_byte 40 (byte_at (drop j text)) ≡ true
unfolding is_byte
opened_byte text j b = rw b

opened_here : (dest : ℕ) (text t : List ℕ) (j : ℕ) → byte_at (drop j text) ≡ 40 → run (call_of dest (plain t)) j (drop j text) ≡ run (parse_type_list 5 (parse_type list_depth) >>= λ l. call_rest dest 1 3 (t ++ func_node t l)) (j + 1) (drop (j + 1) text)
unfolding call_of token_if
opened_here dest text t j b = space_run _ j (drop j text) b ∙ byte_run 40 _ _ text j true (opened_byte text j b) ∙ run_eat _ text j (some_byte 40 (drop j text) (opened_byte text j b))

pub call_opened : (dest : ℕ) (text : List ℕ) (t : List ℕ) (l : Listed) (j e : ℕ) → byte_at (drop j text) ≡ 40 → Listing (list_of depth_limit) text j l e → run (call_of dest (opened t l j)) e (drop e text) ≡ run (call_of dest (plain t)) j (drop j text)
unfolding after call_of
call_opened dest text t l j e b L = sym (opened_here dest text t j b ∙ bind_at (parse_type_list 5 (parse_type list_depth)) rest text (j + 1) ∙ go (run (parse_type_list 5 (parse_type list_depth)) (j + 1) (drop (j + 1) text)) (sym (bind_at (parse_type_list 5 (parse_type list_depth)) (λ l. eat_ws >>= λ _. ret l) text (j + 1)) ∙ opened_list text j l e L))
  where
    rest : Listed → Prog (List ℕ)
    rest l = call_rest dest 1 3 (t ++ func_node t l)

    value_same : (m : Listed) (k : ℕ) → ok m k ≡ ok l e → (m ≡ l) × (k ≡ e)
    value_same m k i = (cc, cc)

    go : (r : Res Listed) → after (λ l. eat_ws >>= λ _. ret l) text r ≡ ok l e → after rest text r ≡ run (rest l) e (drop e text)
    go (ok m i) o =
        let v : (m ≡ l) × (i + scan_len space_step 0 (drop i text) ≡ e) = value_same m (i + scan_len space_step 0 (drop i text)) (sym (list_space text m i) ∙ o) in
        ap (λ (k : Listed). run (rest k) i (drop i text)) v.0 ∙ sym (rest_space dest (t ++ func_node t l) text i) ∙ ap (λ (k : ℕ). run (rest l) k (drop k text)) v.1
    go (closed ws i) o = no_closed l e ws i o
    go (no_at q p) o = no_ok_at l e q p o
