-- The laws of the head's programs: what is read pays for the words that are written, and those that it does not pay for are paid beforehand.
-- Assumes nothing.
use mathlib.Core.Path.{◌≡◌, refl, sym, ap, ◌∙◌, subst}
use mathlib.Core.List.{List, [], ◌∷◌, ◌++◌}
use mathlib.Core.Bool.{Bool, true, false}
use Prim.Native.Nat.{ℕ, zero, suc, ◌+◌, ◌-◌, ◌≤◌, ◌<◌}
use native.Mathlib.Omega.{arith}
use native.Mathlib.Numerals.{add-one}
use lib.ListN.{length, drop, set, length-drop}
use lib.Dec.{ltb, eqb}
use borrow.Author.Tests.{eqb-true, ltb-true, ltb-false, lt-ltb, le-ltb, le-leb}
use Rattle.program.specs.Choice.{pick}
use Rattle.program.specs.Class.{class_of, is_word}
use Rattle.program.specs.Prog.{Prog, ret, last, Res, ok, closed, no_at, run, ◌>>=◌, byte_at, lead_word, scan_len}
use Rattle.program.specs.Local.{next, run_bind}
use Rattle.records.specs.Words.{node}
use Rattle.records.specs.Piece.{head_of, head_read}
use Rattle.grammar.specs.Lexer.{refuse, place, eat_ws, space_step, is_byte, byte_if, eat_n, rank, rank_if, token_if, expect_token, three_dots, name_word, parse_global_name}
use Rattle.grammar.specs.Counter.{Counted, counted, counter_of, item_of, takes, takes_next}
use Rattle.grammar.specs.Attributes.{linkages, parse_linkage, skip_attrs}
use Rattle.grammar.specs.Types.{Listed, listed, TypeOut, room, child, whole, whole_of, behind, comma_or}
use Rattle.grammar.specs.Body.{param_of, unnumbered, parse_param, parse_params, parse_head}
use Rattle.grammar.specs.Function.{head_at}
use Rattle.lexer.specs.Step.{looks_p, passed, refused, counted_p}
use Rattle.node_words.specs.Writes.{header_of, closes}
use Rattle.lexer.specs.Reads.{Budget, At, Ends, at, out, Leads, Goal, made, Reached, there, gone, reach, Gave, got, not as refuses, Gives, Came, on, off, Comes, Inside}
use Rattle.lexer.specs.declared.Cursor.{Cursor}
use Rattle.lexer.specs.Parsed.{Parsed, Ok, Refused}
use Rattle.lexer.proofs.Laws.{Passes, true_false, after, bind_at, at_less, at_place, at_part, at_whole, some_byte, run_eat, byte_run, scan_run, pass_in, val, val_on, more, no_more, dots_yes, dots_no, fail_is, done}
use Rattle.node_words.proofs.Laws.{at_close}
use Rattle.lexer_names.proofs.Passed.{passes_any, passes_refuse, passes_byte, passes_then}
use Rattle.lexer.proofs.Children.{nest, g_room, in_room}
use Rattle.types.specs.Reading.{TypeEnds, read, back, none, typed}
use Rattle.types.proofs.TypeLaws.{Stuck, space_run, byte_run_no, fail_run, attrs_run, stuck_comma, stuck_room}
use Rattle.piece_directory.specs.Piece.{HeadIs, is_head, no_head}
use Rattle.piece_head.specs.Reading.{params, ParamEnds, read as has, back as stops, none as bad-one, parameter, Shut, shut, bad, shuts}
use Rattle.piece_close.specs.Pieces.{piece_of}

-- ---- words that are paid for beforehand
-- d words more are paid for where the goal is reached
abbrev pub paying : {A : Type 0} → ℕ → Goal A → Goal A
paying d g = record { ends = λ b k low r p words. g.ends b (d + k) low r p words; outs = λ b k low e q words. g.outs b (d + k) low e q words }

-- the program goes on here
pub stay_paid : {A : Type 0} {c : ℕ} (d : ℕ) {mid : List ℕ} (f : List ℕ → Prog A) {text : List ℕ} {p0 p : Parsed} {w : List ℕ} → d ≤ c → Leads (f mid) c mid (paying d (reach f text p0)) text p0 p w p w
stay_paid {c = c} d {mid = mid} f {text = text} {p0 = p0} {w = w} l = record {
  runs = λ b low k cur e a. subst (λ (z : Parsed). Reached b f text p0 (d + k) low (run (f mid) cur.at (drop cur.at text)) z w) (sym e) (there (at_less (d + k) (omega arith) a));
  hands = λ e q h. h;
}

-- and on from there
pub go_on_paid : {A : Type 0} {f : Prog A} {g : List ℕ → Prog A} {c : ℕ} (d : ℕ) {mid : List ℕ} {E : Goal A} {text : List ℕ} {p0 p q : Parsed} {w v : List ℕ} {p' : Parsed} {w' : List ℕ} → Leads f c mid (paying d (reach g text p0)) text p0 p w q v → ((ws : List ℕ) → Leads (g ws) d ws E text p0 q v p' w') → Leads f c mid E text p0 p w p' w'
go_on_paid {A} {f} {g} {c} d {mid} {E} {text} {p0} {p} {q} {w} {v} {p'} {w'} r s = record {
  runs = λ b low k cur e a. go b low k s (r.runs b low k cur e a);
  hands = λ e x t. (s []).hands e x (r.hands e x t);
}
  where
    go : (b : Budget) (low : List ℕ) (k : ℕ) {y : Parsed} {u : List ℕ} → ((ws : List ℕ) → Leads (g ws) d ws E text p0 y u p' w') → {z : Res A} → Reached b g text p0 (d + k) low z y u → E.ends b k low z p' w'
    go b low k t (there {mid = ws} {cur = cur} a) = (t ws).runs b low k cur refl a
    go b low k t (gone {e = e} {q = x}) = rw ((t []).hands e x refl) (E.outs b k low e x w')

-- a part that writes, with d words paid for it
pub then_paid : {A B : Type 0} {f : Prog A} (d : ℕ) (h : A → Prog B) {c : ℕ} {mid : List ℕ} {E : Goal B} {text : List ℕ} {p0 p p1 : Parsed} {w w1 : List ℕ} {p' : Parsed} {w' : List ℕ} {mk : List ℕ → A} → Leads f d [] (made mk text p) text p p w p1 w1 → ((ws : List ℕ) → Leads (h (mk ws)) c (mid ++ ws) E text p0 p1 w1 p' w') → Leads (f >>= h) (d + c) mid E text p0 p w p' w'
unfolding after
then_paid {A} {B} {f} d h {c} {mid} {E} {text} {p0} {p} {p1} {w} {w1} {p'} {w'} {mk} r s = record {
  runs = λ b low k cur e a. subst (λ (z : Res B). E.ends b k low z p' w') (sym (bind_at f h text cur.at)) (go b low k a s (r.runs b (low ++ mid) (c + k) cur e (at_less (d + (c + k)) (omega arith) (at_part e a))));
  hands = λ e q i. (s []).hands e q (r.hands e q i);
}
  where
    go : (b : Budget) (low : List ℕ) (k : ℕ) {cur : Cursor} → At b text p0 (d + c + k) low mid cur w → {y : Parsed} {v : List ℕ} → ((ws : List ℕ) → Leads (h (mk ws)) c (mid ++ ws) E text p0 y v p' w') → {z : Res A} → Ends b text p (c + k) (low ++ mid) mk z y v → E.ends b k low (after h text z) p' w'
    go b low k a t (at {ws = ws} {cur = cur} i) = (t ws).runs b low k cur refl (at_whole a i)
    go b low k a t (out {e = e} {q = q}) = rw ((t []).hands e q refl) (E.outs b k low e q w')

-- ---- a parameter
-- At a parenthesis what comes next reads nothing: it gives something there, or no number is left where the counter is c.
pub data StillAt {A : Type 0} (c i : ℕ) : Res A → Type 0 where
  stays : (x : A) → c < 4294967296 → StillAt c i (ok x i)
  out_of_numbers : 4294967296 ≤ c → StillAt c i (no_at 26 i)

abbrev pub Still : ℕ → (List ℕ → Prog (Counted (List ℕ))) → Type 0
Still c h = (t : List ℕ) (i : ℕ) (s : List ℕ) → byte_at s ≡ 40 → StillAt c i (run (h t) i s)

unnumbered_in : (c q : ℕ) → c < 4294967296 → unnumbered c q ≡ q
unfolding unnumbered
unnumbered_in c q h = rw (lt-ltb _ _ h)

unnumbered_out : (c q : ℕ) → 4294967296 ≤ c → unnumbered c q ≡ 26
unfolding unnumbered
unnumbered_out c q h = rw (le-ltb _ _ h)

-- its type, then the rest
pub param_type : {f : Prog TypeOut} {g : Prog Listed} (q n d : ℕ) (h : List ℕ → Prog (Counted (List ℕ))) {c : ℕ} {mid : List ℕ} {text : List ℕ} {p0 p p1 p' : Parsed} {w w1 w' : List ℕ} → Leads f 0 [] (typed g text p) text p p w p1 w1 → Still n h → ((ws : List ℕ) → Leads (h ws) c (mid ++ ws) (made (counted d) text p0) text p0 p1 w1 p' w') → Leads (whole (unnumbered n q) f >>= h) c mid (parameter q d text p0) text p0 p w p' w'
unfolding after whole whole_of run
param_type {f} {g} q n d h {c} {mid} {text} {p0} {p} {p1} {p'} {w} {w1} {w'} r st s = record {
  runs = λ b low k cur e a. subst (λ (z : Res (Counted (List ℕ))). ParamEnds q d b text p0 k low z p' w') (sym (bind_at (whole (unnumbered n q) f) h text cur.at ∙ ap (after h text) (bind_at f (whole_of (unnumbered n q)) text cur.at))) (go b low k a s (r.runs b (low ++ mid) (c + k) cur e (at_less (0 + (c + k)) (omega arith) (at_part e a))));
  hands = λ e x i. (s []).hands e x (r.hands e x i);
}
  where
    through : (b : Budget) (low : List ℕ) (k : ℕ) {z : Res (Counted (List ℕ))} {y : Parsed} → Ends b text p0 k low (counted d) z y w' → ParamEnds q d b text p0 k low z y w'
    through b low k (at i) = has i
    through b low k out = bad-one

    ended : (b : Budget) (low : List ℕ) (k i : ℕ) (x : Counted (List ℕ)) → byte_at (drop i text) ≡ 40 → {z : Res (Counted (List ℕ))} → z ≡ ok x i → {y : Parsed} → Ends b text p0 k low (counted d) z y w' → ParamEnds q d b text p0 k low (no_at q i) y w'
    ended b low k i x o e (at {ws = ws} {cur = cur} a) = let j : cur.at ≡ i = cc in rw (← j) (stops a (rw j o))
    ended b low k i x o e (out {e = n} {q = y}) = absurd (let z : ◌≡◌ {A = ℕ} 0 1 = cc in omega arith)

    refused : (b : Budget) (low : List ℕ) (k i : ℕ) {z : Res (Counted (List ℕ))} → z ≡ no_at 26 i → {y : Parsed} → Ends b text p0 k low (counted d) z y w' → ParamEnds q d b text p0 k low (no_at 26 i) y w'
    refused b low k i e (at {ws = ws} {cur = cur} a) = absurd (let z : ◌≡◌ {A = ℕ} 0 1 = cc in omega arith)
    refused b low k i e (out {e = n} {q = y}) = let u : n ≡ 26 = cc in let v : y ≡ i = cc in rw (← u, ← v) bad-one

    stopped : (b : Budget) (low : List ℕ) (k i : ℕ) → byte_at (drop i text) ≡ 40 → {z : Res (Counted (List ℕ))} → StillAt n i z → {y : Parsed} → Ends b text p0 k low (counted d) z y w' → ParamEnds q d b text p0 k low (no_at (unnumbered n q) i) y w'
    stopped b low k i o (stays x l) t = rw (unnumbered_in n q l) (ended b low k i x o refl t)
    stopped b low k i o (out_of_numbers l) t = rw (unnumbered_out n q l) (refused b low k i refl t)

    go : (b : Budget) (low : List ℕ) (k : ℕ) {cur : Cursor} → At b text p0 (c + k) low mid cur w → {y : Parsed} {v : List ℕ} → ((ws : List ℕ) → Leads (h ws) c (mid ++ ws) (made (counted d) text p0) text p0 y v p' w') → {z : Res TypeOut} → TypeEnds g b text p (c + k) (low ++ mid) z y v → ParamEnds q d b text p0 k low (after h text (after (whole_of (unnumbered n q)) text z)) p' w'
    go b low k a t (read {t = ws} {cur = cur} i) = through b low k ((t ws).runs b low k cur refl (at_whole a i))
    go b low k a t (back {t = ws} {cur = cur} i x l) = stopped b low k cur.at x (st ws cur.at (drop cur.at text) x) ((t ws).runs b low k cur refl (at_whole a i))
    go b low k a t (none {e = e} {q = x}) = rw ((t []).hands e x refl) bad-one

next_in : (i c j : ℕ) (s : List ℕ) → c < 4294967296 → run (takes_next i c) j s ≡ ok (c + 1) j
unfolding takes_next takes run
next_in i c j s h = rw (takes, le-leb c c (omega arith), lt-ltb _ _ h)

next_out : (i c j : ℕ) (s : List ℕ) → 4294967296 ≤ c → run (takes_next i c) j s ≡ no_at 26 i
unfolding takes_next takes run
next_out i c j s h = rw (takes, le-leb c c (omega arith), le-ltb _ _ h)

-- an unnamed one, by whether a number is left
unnamed_still : (c : ℕ) (t : List ℕ) (i : ℕ) (s : List ℕ) → StillAt c i (run (place >>= λ j. takes_next j c >>= λ d. ret (counted d (node 62 0 1 (0 ∷ t)))) i s)
unfolding place run ◌>>=◌ next
unnamed_still c t i s = go (ltb c 4294967296) refl
  where
    k : ℕ → Prog (Counted (List ℕ))
    k d = ret (counted d (node 62 0 1 (0 ∷ t)))

    by : {r : Res ℕ} → run (takes_next i c) i s ≡ r → StillAt c i (next k i s r) → StillAt c i (run (takes_next i c >>= k) i s)
    by e h = subst (StillAt c i) (sym (run_bind (takes_next i c) k i s ∙ ap (next k i s) e)) h

    go : (b : Bool) → ltb c 4294967296 ≡ b → StillAt c i (run (takes_next i c >>= k) i s)
    go true e = by (next_in i c i s (ltb-true _ _ e)) (stays _ (ltb-true _ _ e))
    go false e = by (next_out i c i s (ltb-false _ _ e)) (out_of_numbers (ltb-false _ _ e))

pub still_param : (c : ℕ) → Still c (λ t. skip_attrs >>= λ _. param_of c t)
unfolding param_of
still_param c t i s e =
    subst (StillAt c i) (sym (attrs_run _ i s e ∙ space_run _ i s e ∙ byte_run_no 37 _ _ i s (λ z. omega arith) e)) (unnamed_still c t i s)

-- a parameter, then the rest
param_then : {B : Type 0} {f : Prog (Counted (List ℕ))} (q x d : ℕ) (h : Counted (List ℕ) → Prog B) {c : ℕ} {mid : List ℕ} {E : Goal B} {text : List ℕ} {p0 p p1 p' : Parsed} {w w1 w' : List ℕ} → Leads f d [] (parameter q x text p) text p p w p1 w1 → Stuck q (λ ws. h (counted x ws)) → ((ws : List ℕ) → Leads (h (counted x ws)) c (mid ++ ws) E text p0 p1 w1 p' w') → Leads (f >>= h) (d + c) mid E text p0 p w p' w'
unfolding after
param_then {B} {f} q x d h {c} {mid} {E} {text} {p0} {p} {p1} {p'} {w} {w1} {w'} r st s = record {
  runs = λ b low k cur e a. subst (λ (z : Res B). E.ends b k low z p' w') (sym (bind_at f h text cur.at)) (go b low k a s (r.runs b (low ++ mid) (c + k) cur e (at_less (d + (c + k)) (omega arith) (at_part e a))));
  hands = λ e y i. (s []).hands e y (r.hands e y i);
}
  where
    go : (b : Budget) (low : List ℕ) (k : ℕ) {cur : Cursor} → At b text p0 (d + c + k) low mid cur w → {y : Parsed} {v : List ℕ} → ((ws : List ℕ) → Leads (h (counted x ws)) c (mid ++ ws) E text p0 y v p' w') → {z : Res (Counted (List ℕ))} → ParamEnds q x b text p (c + k) (low ++ mid) z y v → E.ends b k low (after h text z) p' w'
    go b low k a t (has {ws = ws} {cur = cur} i) = (t ws).runs b low k cur refl (at_whole a i)
    go b low k a t (stops {ws = ws} {cur = cur} i o) = subst (λ (z : Res B). E.ends b k low z p' w') (st ws cur.at (drop cur.at text) o) ((t ws).runs b low k cur refl (at_whole a i))
    go b low k a t (bad-one {e = e} {x = y}) = rw ((t []).hands e y refl) (E.outs b k low e y w')

-- as a child, then the rest
param_child : {B : Type 0} (n m x : ℕ) (h : Counted (List ℕ) → Prog B) {mid : List ℕ} {E : Goal B} {text : List ℕ} {p0 p p1 q1 p' : Parsed} {w w1 w' : List ℕ} → ((e : ℕ) → Leads (parse_param e m) 2 [] (parameter e x text p) text p p w p1 w1) → q1 ≡ counted_p n p1 → Stuck 3 (λ t. h (counted x t)) → ((e i : ℕ) → q1 ≡ Refused e i → p' ≡ Refused e i) → ((ws : List ℕ) → n < 65535 → Leads (h (counted x ws)) 0 (mid ++ ws) E text p0 q1 w1 p' w') → Leads (child n (parse_param (behind n 3) m) >>= h) 2 mid E text p0 p w p' w'
unfolding child
param_child n m x h {p1 = p1} r o st hd s = nest (parse_param (behind n 3) m) (room n) h (param_then (behind n 3) x 2 _ {c = 0} (r (behind n 3)) (stuck_room n 3 (counted x) h st) (λ t. val _ (g_room n o) (in_room n p1 o hd (s t))))

-- ---- a comma or the closing byte, whatever follows is
-- One of three, and the same one for all that may follow.
data CommaIs (end i : ℕ) (text : List ℕ) : Type 1 where
  is_comma : (j : ℕ) → ((A : Type 0) (x y : Prog A) → run (comma_or end x y) i (drop i text) ≡ run x j (drop j text)) → CommaIs end i text
  is_end : (j : ℕ) → ((A : Type 0) (x y : Prog A) → run (comma_or end x y) i (drop i text) ≡ run y j (drop j text)) → CommaIs end i text
  is_other : (j : ℕ) → ((A : Type 0) (x y : Prog A) → run (comma_or end x y) i (drop i text) ≡ no_at 3 j) → CommaIs end i text

comma_is : (end i : ℕ) (text : List ℕ) → CommaIs end i text
unfolding comma_or token_if eat_ws ◌>>=◌ run refuse
comma_is end i text = go (is_byte 44 (byte_at (drop k text))) refl (is_byte end (byte_at (drop k text))) refl
  where
    k : ℕ
    k = i + scan_len space_step 0 (drop i text)

    behind_space : {A : Type 0} (x y : Prog A) → run (comma_or end x y) i (drop i text) ≡ run (byte_if 44 x (byte_if end y (refuse 3))) k (drop k text)
    behind_space x y = scan_run space_step 0 (λ w. byte_if 44 x (byte_if end y (refuse 3))) text i

    go : (a : Bool) → is_byte 44 (byte_at (drop k text)) ≡ a → (b : Bool) → is_byte end (byte_at (drop k text)) ≡ b → CommaIs end i text
    go true e b f = is_comma (k + 1) λ A x y. behind_space x y ∙ byte_run 44 x (byte_if end y (refuse 3)) text k true e ∙ run_eat x text k (some_byte 44 (drop k text) e)
    go false e true f = is_end (k + 1) λ A x y. behind_space x y ∙ byte_run 44 x (byte_if end y (refuse 3)) text k false e ∙ byte_run end y (refuse 3) text k true f ∙ run_eat y text k (some_byte end (drop k text) f)
    go false e false f = is_other k λ A x y. behind_space x y ∙ byte_run 44 x (byte_if end y (refuse 3)) text k false e ∙ byte_run end y (refuse 3) text k false f

-- So what is known of lists is known of anything that follows.
comma_any : (end : ℕ) {text : List ℕ} {q q3 : Parsed} (b : Bool) → ((x y : Prog Listed) → Comes (comma_or end x y) (pick b x y) text q q3) → {A : Type 0} (x y : Prog A) → Comes (comma_or end x y) (pick b x y) text q q3
unfolding run
comma_any end {text} {q} {q3} b cm {A} x y = record {
  runs = λ cur e i. go b cur.at cur.w (comma_is end cur.at text) ((cm (ret (listed 0 0 [])) (ret (listed 1 0 []))).runs cur e i);
  hands = (cm (refuse 3) (refuse 3)).hands;
}
  where
    -- which it is shows in what two different answers give
    first : (b : Bool) (i w j : ℕ) {z : Res Listed} {y3 : Parsed} → z ≡ ok (listed 0 0 []) j → Came text (pick b (ret (listed 0 0 [])) (ret (listed 1 0 []))) i w z y3 → Came text (pick b x y) i w (run x j (drop j text)) y3
    first true i w j e (on {cur = c2} l m o) = let u : c2.at ≡ j = cc in rw (← u) (on l m o)
    first false i w j e (on {cur = c2} l m o) = absurd (let z : ◌≡◌ {A = ℕ} 1 0 = cc in omega arith)
    first b i w j e off = absurd (let z : ◌≡◌ {A = ℕ} 0 1 = cc in omega arith)

    second : (b : Bool) (i w j : ℕ) {z : Res Listed} {y3 : Parsed} → z ≡ ok (listed 1 0 []) j → Came text (pick b (ret (listed 0 0 [])) (ret (listed 1 0 []))) i w z y3 → Came text (pick b x y) i w (run y j (drop j text)) y3
    second true i w j e (on {cur = c2} l m o) = absurd (let z : ◌≡◌ {A = ℕ} 0 1 = cc in omega arith)
    second false i w j e (on {cur = c2} l m o) = let u : c2.at ≡ j = cc in rw (← u) (on l m o)
    second b i w j e off = absurd (let z : ◌≡◌ {A = ℕ} 0 1 = cc in omega arith)

    third : (b : Bool) (i w j : ℕ) {z : Res Listed} {y3 : Parsed} → z ≡ no_at 3 j → Came text (pick b (ret (listed 0 0 [])) (ret (listed 1 0 []))) i w z y3 → Came text (pick b x y) i w (no_at 3 j) y3
    third true i w j e (on {cur = c2} l m o) = absurd (let z : ◌≡◌ {A = ℕ} 0 1 = cc in omega arith)
    third false i w j e (on {cur = c2} l m o) = absurd (let z : ◌≡◌ {A = ℕ} 0 1 = cc in omega arith)
    third b i w j e (off {e = n} {q = m}) = let u : n ≡ 3 = cc in let v : m ≡ j = cc in rw (← u, ← v) off

    go : (b : Bool) (i w : ℕ) → CommaIs end i text → {y3 : Parsed} → Came text (pick b (ret (listed 0 0 [])) (ret (listed 1 0 []))) i w (run (comma_or end (ret (listed 0 0 [])) (ret (listed 1 0 []))) i (drop i text)) y3 → Came text (pick b x y) i w (run (comma_or end x y) i (drop i text)) y3
    go b i w (is_comma j f) c = rw (f A x y) (first b i w j (f Listed _ _) c)
    go b i w (is_end j f) c = rw (f A x y) (second b i w j (f Listed _ _) c)
    go b i w (is_other j f) c = rw (f A x y) (third b i w j (f Listed _ _) c)

comma_off : (end : ℕ) {text : List ℕ} {q q3 : Parsed} {b : Bool} → ((x y : Prog Listed) → Comes (comma_or end x y) (pick b x y) text q q3) → {A : Type 0} {c : ℕ} {mid : List ℕ} {E : Goal A} {p0 p' : Parsed} {w w' : List ℕ} (f g : Prog A) → b ≡ false → Leads g c mid E text p0 q3 w p' w' → Leads (comma_or end f g) c mid E text p0 q w p' w'
comma_off end {b = b} cm f g e r = val_on (comma_any end b cm f g) (rw e r)

-- ---- a comma, which pays for three words
passes_comma : (end : ℕ) → Passes 1 (comma_or end (ret (listed 0 0 [])) (refuse 3))
unfolding comma_or token_if
passes_comma end = passes_then eat_ws _ 0 1 (passes_any _) (λ u. passes_byte 44 0 (passes_any _) (passes_byte end 0 (passes_refuse 0 3) (passes_refuse 1 3)))

comma_far : (text : List ℕ) (l : Listed) (i w : ℕ) {z : Res Listed} {y : Parsed} → Came text (ret l) i w z y → ((j : ℕ) (a : Listed) → z ≡ ok a j → i + 1 ≤ j) → (cur : Cursor) → y ≡ Ok cur → i + 1 ≤ cur.at
unfolding run
comma_far text l i w (on {cur = c} a b d) v cur o = let e : c ≡ cur = cc in rw (← e) (v c.at l refl)
comma_far text l i w off v cur o = absurd (let z : ◌≡◌ {A = ℕ} 0 1 = cc in omega arith)

comma_paid : (end : ℕ) {text : List ℕ} {q q3 : Parsed} {b : Bool} → ((x y : Prog Listed) → Comes (comma_or end x y) (pick b x y) text q q3) → {A : Type 0} {c : ℕ} {mid : List ℕ} {E : Goal A} {p0 p' : Parsed} {w w' : List ℕ} (f g : Prog A) → b ≡ true → Leads f (c + 3) mid E text p0 q3 w p' w' → Leads (comma_or end f g) c mid E text p0 q w p' w'
comma_paid end {text} {q} {q3} {b} cm {A} {c} {mid} {E} {p0} {p'} {w} {w'} f g y r = record {
  runs = λ o low k cur e i.
      let h : Inside text cur = record { inside = i.inside; small = i.small } in
      go o low k i (comma_far text (listed 0 0 []) cur.at cur.w ((lists (ret (listed 0 0 [])) (refuse 3)).runs cur e h) (λ j a t. (passes_comma end).over cur.at j (drop cur.at text) a t)) r ((goes f g).runs cur e h);
  hands = λ e x i. r.hands e x ((cm (refuse 3) (refuse 3)).hands e x i);
}
  where
    lists : (x y : Prog Listed) → Comes (comma_or end x y) x text q q3
    lists x z = subst (λ (t : Bool). Comes (comma_or end x z) (pick t x z) text q q3) y (cm x z)

    goes : (x y : Prog A) → Comes (comma_or end x y) x text q q3
    goes x z = subst (λ (t : Bool). Comes (comma_or end x z) (pick t x z) text q q3) y (comma_any end b cm x z)

    go : (o : Budget) (low : List ℕ) (k : ℕ) {cur : Cursor} → At o text p0 (c + k) low mid cur w → {z : Res A} {a : Parsed} → ((c2 : Cursor) → a ≡ Ok c2 → cur.at + 1 ≤ c2.at) → Leads f (c + 3) mid E text p0 a w p' w' → Came text f cur.at cur.w z a → E.ends o k low z p' w'
    go o low k i far t (on {cur = c2} l x e) = t.runs o low k c2 refl (subst (λ (u : ℕ). At o text p0 (c + 3 + k) low mid (record { at = c2.at; w = u }) w) (sym e) (at_place c2.at (c + 3 + k) l x (omega (arith, far c2 refl)) i))
    go o low k i far t (off {e = e} {q = n}) = rw (t.hands e n refl) (E.outs o k low e n w')

-- ---- the list of parameters
module _ {text : List ℕ} {p0 q : Parsed} {v : List ℕ} (u c n : ℕ) (ws : List ℕ) where
  -- a turn begins with a parameter, or with `...`; the turns do not run out
  module _ {q1 : Parsed} (pos : 0 < u) (gw : Gives eat_ws tt text q q1) {z : Bool} (l : z ≡ looks_p text q1 46) where
    params_turn : {E : Goal (Counted Listed)} {q4 : Parsed} {v4 : List ℕ} → z ≡ false → Leads (child n (parse_param (behind n 3) c) >>= λ x. comma_or 41 (parse_params (u - 1) (counter_of x) (n + 1) (ws ++ item_of x)) (ret (counted (counter_of x) (listed (n + 1) 0 (ws ++ item_of x))))) 2 ws E text p0 q1 v q4 v4 → Leads (parse_params u c n ws) 2 ws E text p0 q v q4 v4
    unfolding parse_params
    params_turn y r = more (λ t. parse_params t c n ws) u pos (val _ gw (dots_no 5 _ l y r))

    pub params_dots : {q2 q3 : Parsed} → z ≡ true → Gives (three_dots 5) tt text q1 q2 → Gives (expect_token 41) tt text q2 q3 → Leads (parse_params u c n ws) 2 ws (made (params c n 1) text p0) text p0 q v q3 v
    unfolding parse_params
    params_dots y g h = more (λ t. parse_params t c n ws) u pos (val _ gw (dots_yes 5 _ l y g (val _ h done)))

  pub params_out : {E : Goal (Counted Listed)} {q4 : Parsed} → u ≤ 0 → q4 ≡ refused 19 q → Leads (parse_params u c n ws) 2 ws E text p0 q v q4 v
  unfolding parse_params
  params_out l x = no_more (λ t. parse_params t c n ws) u l (fail_is _ x)

module _ {text : List ℕ} {p0 q q1 q2 q3 q4 : Parsed} {v v1 : List ℕ} (u c n m d : ℕ) (pos : 0 < u) (gw : Gives eat_ws tt text q q1) {z : Bool} (l : z ≡ looks_p text q1 46) (y : z ≡ false) (r : (e : ℕ) → Leads (parse_param e c) 2 [] (parameter e d text q1) text q1 q1 v q2 v1) (x : q3 ≡ counted_p n q2) (e : n < 65535 → m ≡ n + 1) (ws : List ℕ) where
  turn_on : {E : Goal (Counted Listed)} → ((i j : ℕ) → q3 ≡ Refused i j → q4 ≡ Refused i j) → ((t : List ℕ) → n < 65535 → Leads (comma_or 41 (parse_params (u - 1) d (n + 1) (ws ++ t)) (ret (counted d (listed (n + 1) 0 (ws ++ t))))) 0 (ws ++ t) E text p0 q3 v1 q4 v1) → Leads (parse_params u c n ws) 2 ws E text p0 q v q4 v1
  turn_on hd k = params_turn u c n ws pos gw l y (param_child n c d _ r x (stuck_comma 41 _ _ (λ z. omega arith)) hd k)

  pub params_more : {b : Bool} → ((x y : Prog Listed) → Comes (comma_or 41 x y) (pick b x y) text q3 q4) → b ≡ true → Leads (parse_params u c n ws) 2 ws (paying 2 (reach (parse_params (u - 1) d m) text p0)) text p0 q v q4 v1
  params_more cm o = turn_on (cm (refuse 3) (refuse 3)).hands (λ t lt. comma_paid 41 cm _ _ o (subst (λ (j : ℕ). Leads (parse_params (u - 1) d j (ws ++ t)) 3 (ws ++ t) (paying 2 (reach (parse_params (u - 1) d m) text p0)) text p0 q4 v1 q4 v1) (e lt) (stay_paid 2 (parse_params (u - 1) d m) (omega arith))))

  pub params_end : {b : Bool} → ((x y : Prog Listed) → Comes (comma_or 41 x y) (pick b x y) text q3 q4) → b ≡ false → Leads (parse_params u c n ws) 2 ws (made (params d m 0) text p0) text p0 q v q4 v1
  params_end cm o = turn_on (cm (refuse 3) (refuse 3)).hands
      (λ t lt. comma_off 41 cm _ _ o (subst (λ (j : ℕ). Leads (ret (counted d (listed j 0 (ws ++ t)))) 0 (ws ++ t) (made (params d m 0) text p0) text p0 q4 v1 q4 v1) (e lt) done))

-- ---- the linkage's rank
eaten : (n a i j v : ℕ) (s : List ℕ) → run (eat_n n (ret a)) i s ≡ ok v j → a ≡ v
unfolding run eat_n
eaten zero a i j v s e = cc
eaten (suc n) a i j v [] e = absurd (let z : ◌≡◌ {A = ℕ} 0 1 = cc in omega arith)
eaten (suc n) a i j v (x ∷ s) e = eaten n a (suc i) j v s e

ranked : (i j v : ℕ) (s : List ℕ) → run (rank_if linkages ret (ret 10)) i s ≡ ok v j → v < 11
unfolding run rank_if linkages
ranked i j v s e = go (ltb (rank (lead_word s) linkages) 11) refl e
  where
    go : (z : Bool) → ltb (rank (lead_word s) linkages) 11 ≡ z → run (elim z [ true ↦ eat_n (length (lead_word s)) (ret (rank (lead_word s) linkages)) | false ↦ ret 10 ]) i s ≡ ok v j → v < 11
    go true t h = let o : rank (lead_word s) linkages ≡ v = eaten (length (lead_word s)) (rank (lead_word s) linkages) i j v s h in omega (arith, ltb-true (rank (lead_word s) linkages) 11 t)
    go false t h = let o : 10 ≡ v = cc in omega arith

linkage_small : (i j v : ℕ) (s : List ℕ) → run parse_linkage i s ≡ ok v j → v < 11
unfolding run parse_linkage eat_ws ◌>>=◌
linkage_small i j v s e = ranked (i + scan_len space_step 0 s) j v (drop (scan_len space_step 0 s) s) e

-- a rank that the code has as a byte
pub linkage_as : {v u : ℕ} {text : List ℕ} {p q : Parsed} → (v < 11 → u ≡ v) → Gives parse_linkage v text p q → Gives parse_linkage u text p q
linkage_as {v} {u} {text} {p} {q} k r = record {
  runs = λ cur t i. go cur.at cur.w (λ j e. linkage_small cur.at j v (drop cur.at text) e) (r.runs cur t i);
  hands = r.hands;
}
  where
    go : (i w : ℕ) {z : Res ℕ} {y : Parsed} → ((j : ℕ) → z ≡ ok v j → v < 11) → Gave text v i w z y → Gave text u i w z y
    go i w o (got {cur = cur} l x y) = rw (← k (o cur.at refl)) (got {cur = cur} l x y)
    go i w o refuses = refuses

-- ---- the name
pub stuck_name : {B : Type 0} (h : List ℕ → ℕ → Prog B) → Stuck 3 (λ t. parse_global_name >>= h t)
unfolding next parse_global_name
stuck_name h t i s e = run_bind parse_global_name (h t) i s ∙ ap (next (h t) i s) (space_run (λ u. byte_if 64 name_word (refuse 3)) i s e ∙ byte_run_no 64 name_word (refuse 3) i s (λ z. omega arith) e ∙ fail_run 3 i s)

-- ---- the closing byte
last_yes : (ws : List ℕ) (f : Prog (List ℕ)) (i : ℕ) (s : List ℕ) → is_byte 123 (byte_at s) ≡ true → run (last 123 ws f) i s ≡ closed ws (i + 1)
unfolding run is_byte byte_at is_word class_of
last_yes ws f i [] e = true_false e
last_yes ws f i (x ∷ s) e = let z : x ≡ 123 = eqb-true _ _ e in rw (z, add-one) refl

last_no : (ws : List ℕ) (f : Prog (List ℕ)) (i : ℕ) (s : List ℕ) → is_byte 123 (byte_at s) ≡ false → run (last 123 ws f) i s ≡ run f i s
unfolding run is_byte byte_at
last_no ws f i [] e = refl
last_no ws f i (x ∷ s) e = let z : eqb x 123 ≡ false = e in rw (run, z)

-- it stands here, and the node ends behind it
pub shut_is : (x kind d n : ℕ) {c : ℕ} (body : List ℕ) {f : Prog (List ℕ)} {text : List ℕ} {p0 p p1 q : Parsed} {w w' : List ℕ} {z : Bool} → z ≡ looks_p text p 123 → z ≡ true → p1 ≡ passed text 1 p → (q ≡ p1) × (w' ≡ closes kind d n p0 p1 w) → Leads (last 123 (x ∷ node kind d n body) f) c (0 ∷ body) (shuts x text p0) text p0 p w q w'
shut_is x kind d n {c} body {f} {text} {p0} {p} {p1} {q} {w} {w'} l y i o = record {
  runs = λ b low k cur e a.
      let j : is_byte 123 (byte_at (drop cur.at text)) ≡ true = rw e at (sym l ∙ y) in
      let h : 1 ≤ length (drop cur.at text) = some_byte 123 (drop cur.at text) j in
      let t : p1 ≡ Ok (record { at = cur.at + 1; w = cur.w }) = i ∙ ap (passed text 1) e ∙ pass_in text 1 cur a.inside h in
      subst (λ (r : Res (List ℕ)). Shut x b text p0 k low r q w') (sym (last_yes (x ∷ node kind d n body) f cur.at (drop cur.at text) j))
      (closing b low k (record { at = cur.at + 1; w = cur.w }) t (at_place (cur.at + 1) k (omega arith) (omega (arith, a.inside, length-drop cur.at text)) (omega arith) a));
  hands = λ e j t. true_false (rw t at (sym l ∙ y));
}
  where
    closing : (b : Budget) (low : List ℕ) (k : ℕ) (cur : Cursor) → p1 ≡ Ok cur → At b text p0 k low (0 ∷ body) cur w → Shut x b text p0 k low (closed (x ∷ node kind d n body) cur.at) q w'
    closing b low k cur t a =
        let u : w' ≡ set w a.from.w (header_of kind d n a.from.w cur.w) = o.1 ∙ ap (λ (y : Parsed). closes kind d n y p1 w) a.was ∙ ap (λ (y : Parsed). closes kind d n (Ok a.from) y w) t in
        rw (u, o.0 ∙ t) (shut (at_close kind d n a))

-- another byte stands here
pub open_is : {x c : ℕ} (ws : List ℕ) {f : Prog (List ℕ)} {mid : List ℕ} {text : List ℕ} {p0 p q : Parsed} {w w' : List ℕ} {z : Bool} → z ≡ looks_p text p 123 → z ≡ false → Leads f c mid (shuts x text p0) text p0 p w q w' → Leads (last 123 ws f) c mid (shuts x text p0) text p0 p w q w'
open_is {x} ws {f} {mid} {text} {p0} {p} {q} {w} {w'} l y r = record {
  runs = λ b low k cur e a.
      let i : is_byte 123 (byte_at (drop cur.at text)) ≡ false = rw e at (sym l ∙ y) in
      subst (λ (v : Res (List ℕ)). Shut x b text p0 k low v q w') (sym (last_no ws f cur.at (drop cur.at text) i)) (r.runs b low k cur e a);
  hands = r.hands;
}

-- ---- the piece
-- the start of a text: two words are paid for, the header and the name
first_budget : Budget
first_budget = record { base = 2; rate = 3; enough = omega arith }

abbrev pub start : Cursor
start = record { at = 0; w = 0 }

start_at : (text words : List ℕ) → length text ≤ 16777216 → At first_budget text (Ok start) 2 [] [] start words
unfolding first_budget
start_at text words h = record {
  from = start;
  was = refl;
  base = refl;
  small = h;
  lid = omega arith;
  inside = omega arith;
  count = refl;
  paid = omega arith;
  stands = record { same = λ i l m. absurd (omega arith) };
}

pub head_is : {text words words' : List ℕ} {q : Parsed} (d : ℕ) → length text ≤ 16777216 → Leads parse_head 2 [] (shuts d text (Ok start)) text (Ok start) (Ok start) words q words' → HeadIs (head_at text) (piece_of d q) words'
unfolding head_at head_read head_of
head_is {text} {words} {words'} {q} d h r = go (r.runs first_budget [] 0 start refl (start_at text words h))
  where
    go : {z : Res (List ℕ)} {y : Parsed} → Shut d first_budget text (Ok start) 0 [] z y words' → HeadIs (head_of z) (piece_of d y) words'
    go (shut {ws = ws} a) = is_head a.count (record { same = a.stands.same })
    go bad = no_head
