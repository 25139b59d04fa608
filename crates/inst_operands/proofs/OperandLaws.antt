-- The laws of operands: a type that is dropped, what is read again elsewhere, a type at the end of an instruction.
-- Assumes nothing.
use mathlib.Core.Path.{◌≡◌, refl, sym, ap, ◌∙◌, subst}
use mathlib.Core.List.{List, [], ◌∷◌, ◌++◌, append_assoc}
use Prim.Native.Nat.{ℕ, suc, ◌+◌, ◌-◌, ◌*◌, ◌≤◌, ◌<◌}
use native.Mathlib.Omega.{arith}
use native.Mathlib.Nat.{le_of_mul-le-mul_left}
use lib.ListN.{length, drop, set, length-append}
use Rattle.program.specs.Prog.{Prog, ret, Res, ok, closed, no_at, run, ◌>>=◌}
use Rattle.program.specs.Local.{next, run_bind}
use Rattle.grammar.specs.Values.{parse_value}
use Rattle.grammar.specs.Types.{Listed, TypeOut, whole, whole_of}
use Rattle.node_words.specs.Writes.{joined, pushed, pushes}
use Rattle.lexer.specs.Step.{bumped}
use Rattle.lexer.specs.Reads.{Budget, Stands, At, Ends, at, out, Leads, Goal, made, same, Gave, got, not, Gives}
use Rattle.lexer.specs.declared.Cursor.{Cursor}
use Rattle.lexer.specs.Parsed.{Parsed, Ok, Refused, Err}
use Rattle.node_words.proofs.Words.{front}
use Rattle.lexer.proofs.Laws.{after, bind_at, at_less, at_place, at_part, at_whole}
use Rattle.node_words.proofs.Laws.{at_push}
use Rattle.types.specs.Reading.{TypeEnds, read, back, none, typed}
use Rattle.types.proofs.TypeLaws.{Stuck}
use Rattle.values.proofs.ValueLaws.{stuck_value}
use Rattle.inst_operands.specs.Rich.{resumed}
use mathlib.Core.Bool.{true, false}
use Rattle.grammar.specs.Lexer.{refuse, is_byte, byte_at_if}
use Rattle.grammar.specs.Instructions.{no_paren}

-- ---- what was written since is dropped
-- the words that stand are those before, and the cursor is further on
pub at_dropped : {b : Budget} {text : List ℕ} {p0 p : Parsed} {c d : ℕ} {low mid ws : List ℕ} {cur cur2 : Cursor} {w w2 : List ℕ} → At b text p0 c low mid cur w → At b text p d (low ++ mid) ws cur2 w2 → cur.at ≤ cur2.at → At b text p0 c low mid (record { at = cur2.at; w = cur.w }) w2
at_dropped {b} {text} {p0} {p} {c} {d} {low} {mid} {ws} {cur} {cur2} {w} {w2} a i l = at_stands (at_place cur2.at c l i.inside (omega arith) a)
  where
    at_stands : At b text p0 c low mid (record { at = cur2.at; w = cur.w }) w → At b text p0 c low mid (record { at = cur2.at; w = cur.w }) w2
    at_stands o = record {
      from = o.from;
      was = o.was;
      base = o.base;
      small = o.small;
      lid = o.lid;
      inside = o.inside;
      count = o.count;
      paid = o.paid;
      stands = front (low ++ mid) ws w2 i.stands;
    }

-- all that is paid for, as an index: what is read from there then shows how far it came
abbrev pub all_paid : Budget → ℕ → ℕ → ℕ
all_paid b n i = b.base + b.rate * i - n

pub at_all : {b : Budget} {text : List ℕ} {p0 : Parsed} {c : ℕ} {low mid : List ℕ} {cur : Cursor} {w : List ℕ} → At b text p0 c low mid cur w → At b text p0 (all_paid b (length (low ++ mid)) cur.at) low mid cur w
at_all a = record {
  from = a.from;
  was = a.was;
  base = a.base;
  small = a.small;
  lid = a.lid;
  inside = a.inside;
  count = a.count;
  paid = omega (arith, a.paid);
  stands = a.stands;
}

-- words do not come before their bytes
pub no_sooner : (b : Budget) (n m i j : ℕ) → n ≤ b.base + b.rate * i → n + m + all_paid b n i ≤ b.base + b.rate * j → i ≤ j
no_sooner b n m i j h l =
    let x : b.rate * i ≤ b.rate * j = omega arith in
    let z : 0 < b.rate = omega (arith, b.enough) in
    le_of_mul-le-mul_left x z

-- a type whose words are dropped, then the rest
pub dropped : {B : Type 0} {f : Prog TypeOut} {g : Prog Listed} (n : ℕ) (h : Prog B) {c : ℕ} {mid : List ℕ} {E : Goal B} {text : List ℕ} {p0 p q p5 p' : Parsed} {w w1 w' : List ℕ}
    → Leads f 0 [] (typed g text p) text p p w q w1 → Stuck n (λ t. h) → p5 ≡ joined p q → Leads h c mid E text p0 p5 w1 p' w' → Leads (whole n f >>= λ t. h) c mid E text p0 p w p' w'
unfolding after whole whole_of run
dropped {B} {f} {g} n h {c} {mid} {E} {text} {p0} {p} {q} {p5} {p'} {w} {w1} {w'} D st j k = record {
  runs = λ b low m cur e a. subst (λ (z : Res B). E.ends b m low z p' w') (sym (bind_at (whole n f) (λ t. h) text cur.at ∙ ap (after (λ t. h) text) (bind_at f (whole_of n) text cur.at)))
      (go b low m cur a (j ∙ ap (λ (z : Parsed). joined z q) e) (D.runs b (low ++ mid) (all_paid b (length (low ++ mid)) cur.at) cur e (at_less (0 + all_paid b (length (low ++ mid)) cur.at) (omega arith) (at_part e (at_all a)))));
  hands = λ e x i. k.hands e x (j ∙ ap (λ (z : Parsed). joined z q) i);
}
  where
    later : (b : Budget) (low t : List ℕ) (m : ℕ) (cur ct : Cursor) → At b text p0 (c + m) low mid cur w → At b text p (all_paid b (length (low ++ mid)) cur.at) (low ++ mid) t ct w1 → cur.at ≤ ct.at
    later b low t m cur ct a x =
        let y : length ((low ++ mid) ++ t) + all_paid b (length (low ++ mid)) cur.at ≤ b.base + b.rate * ct.at = x.paid in
        no_sooner b (length (low ++ mid)) (length t) cur.at ct.at (omega (arith, a.paid)) (omega (arith, length-append (low ++ mid) t))

    go : (b : Budget) (low : List ℕ) (m : ℕ) (cur : Cursor) → At b text p0 (c + m) low mid cur w → {z : Res TypeOut} {y : Parsed} → p5 ≡ joined (Ok cur) y → TypeEnds g b text p (all_paid b (length (low ++ mid)) cur.at) (low ++ mid) z y w1 → E.ends b m low (after (λ t. h) text (after (whole_of n) text z)) p' w'
    go b low m cur a i (read {t = t} {cur = ct} x) = k.runs b low m (record { at = ct.at; w = cur.w }) i (at_dropped {ws = t} a x (later b low t m cur ct a x))
    go b low m cur a i (back {t = t} {cur = ct} x y l) = subst (λ (z : Res B). E.ends b m low z p' w') (st t ct.at (drop ct.at text) y) (k.runs b low m (record { at = ct.at; w = cur.w }) i (at_dropped {ws = t} a x (later b low t m cur ct a x)))
    go b low m cur a i (none {e = e} {q = x}) = rw (k.hands e x i) (E.outs b m low e x w')

-- ---- operands read again, one word earlier
-- The operands f are read with a word's slot in front (p3, up to q), then g behind them gives al; as the slot is not wanted, they are read again
-- from where the slot was (p2), over what was written.
pub ok_place : {A : Type 0} (a b : A) (i j : ℕ) → ok a i ≡ ok b j → i ≡ j
ok_place a b i j e = cc

pub ok_not : {A : Type 0} {B : Type 0} (a : A) (i e x : ℕ) → ok a i ≡ no_at e x → B
ok_not a i e x h = absurd (let z : ◌≡◌ {A = ℕ} 0 1 = cc in omega arith)

pub resumed_out : (e x : ℕ) (p : Parsed) → resumed p (Refused e x) ≡ Refused e x
resumed_out e x (Ok c) = refl
resumed_out e x (Err r) = refl

pub again : {A B : Type 0} {f : Prog (List ℕ)} {g : Prog A} (h : List ℕ → A → Prog B) {al : A} {c : ℕ} {mid : List ℕ} {E : Goal B} {text : List ℕ} {p0 p2 p3 q t p4 p5 p' : Parsed} {w w3 w4 v4 w' : List ℕ}
    → ((p3 ≡ pushed p2) × (w3 ≡ pushes 0 p2 w)) → Leads f 0 [] (made same text p3) text p3 p3 w3 q w4 → Gives g al text q t → Leads f 0 [] (made same text p2) text p2 p2 w4 p4 v4 → p5 ≡ resumed p4 t
    → ((ws : List ℕ) → Leads (h ws al) c (mid ++ ws) E text p0 p5 v4 p' w') → Leads (f >>= λ ws. g >>= h ws) (suc c) mid E text p0 p2 w p' w'
unfolding after
again {A} {B} {f} {g} h {al} {c} {mid} {E} {text} {p0} {p2} {p3} {q} {t} {p4} {p5} {p'} {w} {w3} {w4} {v4} {w'} S F T W j k = record {
  runs = λ b low n cur e a. subst (λ (z : Res B). E.ends b n low z p' w') (sym (bind_at f (λ ws. g >>= h ws) text cur.at)) (first b low n cur e a (run f cur.at (drop cur.at text)) refl refl (F.runs b ((low ++ mid) ++ (0 ∷ [])) n (slot cur) (slot_is cur e) (slot_at b low n cur e a)));
  hands = λ e x i. (k []).hands e x (j ∙ ap (resumed p4) (T.hands e x (F.hands e x (S.0 ∙ ap pushed i))) ∙ resumed_out e x p4);
}
  where
    slot : Cursor → Cursor
    slot cur = record { at = cur.at; w = bumped cur.w }

    slot_is : (cur : Cursor) → p2 ≡ Ok cur → p3 ≡ Ok (slot cur)
    slot_is cur e = S.0 ∙ ap pushed e

    slot_at : (b : Budget) (low : List ℕ) (n : ℕ) (cur : Cursor) → p2 ≡ Ok cur → At b text p0 (suc c + n) low mid cur w → At b text p3 (0 + n) ((low ++ mid) ++ (0 ∷ [])) [] (slot cur) w3
    slot_at b low n cur e a =
        let o : At b text p2 (suc n) (low ++ mid) [] cur w = at_part e (at_less (suc n) (omega arith) a) in
        let u : At b text p2 n (low ++ mid) (0 ∷ []) (slot cur) (set w cur.w 0) = at_push 0 o in
        let z : w3 ≡ set w cur.w 0 = S.1 ∙ ap (λ (y : Parsed). pushes 0 y w) e in
        let v : At b text p2 n (low ++ mid) (0 ∷ []) (slot cur) w3 = rw z u in
        at_less {c = n} (0 + n) (omega arith) (at_part (slot_is cur e) v)

    -- the words before the slot still stand after the first reading
    still : (b : Budget) (low : List ℕ) (n : ℕ) (cur : Cursor) → At b text p0 (suc c + n) low mid cur w → {d : ℕ} {ws : List ℕ} {c1 : Cursor} → At b text p3 d ((low ++ mid) ++ (0 ∷ [])) ws c1 w4 → At b text p0 (c + n) low mid cur w4
    still b low n cur a {d} {ws} {c1} i = record {
      from = a.from;
      was = a.was;
      base = a.base;
      small = a.small;
      lid = a.lid;
      inside = a.inside;
      count = a.count;
      paid = omega (arith, a.paid);
      stands = front (low ++ mid) ((0 ∷ []) ++ ws) w4 (subst (λ (l : List ℕ). Stands l w4) (append_assoc (low ++ mid) (0 ∷ []) ws) i.stands);
    }

    tail : (b : Budget) (low : List ℕ) (n : ℕ) (ws : List ℕ) (c4 : Cursor) → At b text p0 (c + n) low (mid ++ ws) c4 v4 → {t2 : Parsed} → p5 ≡ resumed (Ok c4) t2 → {r : Res A} {wq : ℕ} → Gave text al c4.at wq r t2 → E.ends b n low (after (h ws) text r) p' w'
    tail b low n ws c4 a i (got {cur = ct} l x y) = (k ws).runs b low n (record { at = ct.at; w = c4.w }) i (at_place ct.at (c + n) l x (omega arith) a)
    tail b low n ws c4 a i (not {e = e} {q = x}) = rw ((k []).hands e x i) (E.outs b n low e x w')

    second : (b : Budget) (low : List ℕ) (n : ℕ) (cur : Cursor) → At b text p0 (c + n) low mid cur w4 → (ws1 : List ℕ) (c1 : Cursor) → q ≡ Ok c1 → c1.at ≤ length text → {z : Res (List ℕ)} {y : Parsed} → z ≡ ok ws1 c1.at → p5 ≡ resumed y t → Ends b text p2 (c + n) (low ++ mid) same z y v4 → E.ends b n low (after (λ ws. g >>= h ws) text z) p' w'
    second b low n cur a ws1 c1 e l z i (at {ws = ws} {cur = c4} x) =
        let o : c4.at ≡ c1.at = ok_place ws ws1 c4.at c1.at z in
        subst (λ (r : Res B). E.ends b n low r p' w') (sym (bind_at g (h ws) text c4.at))
        (tail b low n ws c4 (at_whole a x) i (subst (λ (m : ℕ). Gave text al m c1.w (run g m (drop m text)) t) (sym o) (T.runs c1 e (record { inside = l; small = a.small }))))
    second b low n cur a ws1 c1 e l z i (out {e = en} {q = x}) = ok_not ws1 c1.at en x (sym z)

    -- by what the first reading gave
    first : (b : Budget) (low : List ℕ) (n : ℕ) (cur : Cursor) → p2 ≡ Ok cur → At b text p0 (suc c + n) low mid cur w → (z : Res (List ℕ)) → run f cur.at (drop cur.at text) ≡ z → {y : Parsed} → q ≡ y → Ends b text p3 n ((low ++ mid) ++ (0 ∷ [])) same z y w4 → E.ends b n low (after (λ ws. g >>= h ws) text (run f cur.at (drop cur.at text))) p' w'
    first b low n cur e a z r y (at {ws = ws1} {cur = c1} x) =
        let s : At b text p0 (c + n) low mid cur w4 = still b low n cur a x in
        second b low n cur s ws1 c1 y x.inside r j (W.runs b (low ++ mid) (c + n) cur e (at_less (0 + (c + n)) (omega arith) (at_part e s)))
    first b low n cur e a z r y (out {e = en} {q = xn}) =
        let o : p5 ≡ Refused en xn = j ∙ ap (resumed p4) (T.hands en xn y) ∙ resumed_out en xn p4 in
        subst (λ (u : Res (List ℕ)). E.ends b n low (after (λ ws. g >>= h ws) text u) p' w') (sym r) (rw ((k []).hands en xn o) (E.outs b n low en xn w'))

-- ---- a value behind a type
-- at a parenthesis it refuses, whatever comes after
pub stuck_plain : (d : ℕ) → Stuck 6 (λ t. parse_value (suc d))
unfolding next run
stuck_plain d t i s e = go (run (parse_value (suc d)) i s) (sym (run_bind (parse_value (suc d)) (λ v. ret v) i s) ∙ stuck_value d (λ t v. ret v) t i s e)
  where
    go : (r : Res (List ℕ)) → next (λ v. ret v) i s r ≡ no_at 6 i → r ≡ no_at 6 i
    go (ok v j) h = absurd (let z : ◌≡◌ {A = ℕ} 0 1 = cc in omega arith)
    go (closed ws j) h = absurd (let z : ◌≡◌ {A = ℕ} 0 1 = cc in omega arith)
    go (no_at q x) h = h

-- an instruction that ends in a type refuses at a parenthesis
pub stuck_paren : {B : Type 0} (f : List ℕ → Prog B) → Stuck 8 (λ t. no_paren (f t))
unfolding no_paren byte_at_if is_byte refuse run
stuck_paren f t i s e = ap (λ (x : ℕ). run (elim (is_byte 40 x) [ true ↦ refuse 8 | false ↦ f t ]) i s) e
