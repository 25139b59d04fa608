-- The laws of what is read twice: once to learn what it gives, and again where its words belong.
-- Assumes nothing.
use mathlib.Core.Path.{◌≡◌, refl, sym, ap, ◌∙◌, subst}
use mathlib.Core.List.{List, [], ◌++◌, append_assoc, append-nil}
use Prim.Native.Nat.{ℕ, ◌+◌, ◌-◌, ◌*◌, ◌≤◌, ◌<◌}
use native.Mathlib.Omega.{arith}
use native.Mathlib.Nat.{mul-add, mul-le-mul_left, mul-le-mul_right}
use lib.ListN.{length, drop, length-append}
use Rattle.program.specs.Prog.{Prog, ret, Res, ok, no_at, run, byte_at, ◌>>=◌}
use Rattle.grammar.specs.Types.{Listed, TypeOut, plain, opened, whole, whole_of}
use Rattle.node_words.specs.Writes.{joined}
use Rattle.lexer.specs.Reads.{Budget, Stands, At, Ends, at, out, Leads, Goal, made, same}
use Rattle.lexer.specs.declared.Cursor.{Cursor}
use Rattle.lexer.specs.Parsed.{Parsed, Ok, Refused, Err}
use Rattle.node_words.proofs.Words.{front}
use Rattle.lexer.proofs.Laws.{after, bind_at, no_ok, at_less, at_part, at_whole}
use Rattle.types.specs.Reading.{TypeEnds, read, back, none, typed, Listing}
use Rattle.types.proofs.TypeLaws.{Stuck}
use Rattle.inst_operands.specs.Rich.{Rich, richly, resumed}
use Rattle.inst_operands.proofs.OperandLaws.{all_paid, at_all, resumed_out}
use Rattle.inst_operands.specs.Found.{There, Found, type_of}
use Rattle.inst_operands.specs.Kept.{Keeps, keeps, keeps_not, kept}

-- ---- what was read
-- and further on
pub found_on : {A : Type 0} {f : Prog A} {text : List ℕ} {p q r : Parsed} {a : A} → Found f text p q a → ((e x : ℕ) → q ≡ Refused e x → r ≡ Refused e x) → Found f text p r a
found_on {A} {f} {text} {p} {q} {r} {a} F h = record { there = λ c t. go q refl c t }
  where
    go : (y : Parsed) → q ≡ y → (c : Cursor) → r ≡ Ok c → There f text p a
    go (Ok d) i c t = F.there d i
    go (Err r) i c t = no_ok c r.question r.place (sym t ∙ h r.question r.place i)

pub found_not : {A : Type 0} {f : Prog A} {text : List ℕ} {p q : Parsed} {a : A} (e x : ℕ) → q ≡ Refused e x → Found f text p q a
found_not e x o = record { there = λ c t. no_ok c e x (sym t ∙ o) }

-- ---- read and not written
no_array : {b : Budget} {text : List ℕ} {p0 : Parsed} {c : ℕ} {low mid : List ℕ} {cur : Cursor} {w : List ℕ} → At b text p0 c low mid cur w → At b text p0 c low mid cur []
no_array a = record {
  from = a.from;
  was = a.was;
  base = a.base;
  small = a.small;
  lid = a.lid;
  inside = a.inside;
  count = a.count;
  paid = a.paid;
  stands = record { same = λ i h l. absurd (omega arith) };
}

-- the words that would have been written are paid for
at_unwritten : {b : Budget} {text : List ℕ} {p0 p : Parsed} {c : ℕ} {low mid ws : List ℕ} {cur ct : Cursor} {w v : List ℕ} → At b text p0 c low mid cur w → At b text p (all_paid b (length (low ++ mid)) cur.at) (low ++ mid) ws ct v → At b text p0 (length ws + c) low mid (record { at = ct.at; w = cur.w }) w
at_unwritten {b} {text} {p0} {p} {c} {low} {mid} {ws} {cur} {ct} {w} {v} a x =
    let y : length ((low ++ mid) ++ ws) + all_paid b (length (low ++ mid)) cur.at ≤ b.base + b.rate * ct.at = x.paid in
    let n : length ((low ++ mid) ++ ws) ≡ length (low ++ mid) + length ws = length-append (low ++ mid) ws in
    record {
      from = a.from;
      was = a.was;
      base = a.base;
      small = a.small;
      lid = a.lid;
      inside = x.inside;
      count = a.count;
      paid = omega (arith, a.paid);
      stands = a.stands;
    }

module _ {A B : Type 0} {f : Prog A} {c : ℕ} {mid : List ℕ} {E : Goal B} {text : List ℕ} {p0 p q p5 p' : Parsed} {w v w' : List ℕ} where
  -- f's words are left for later
  pub dry_then : (h : A → Prog B) {mk : List ℕ → A} → Leads f 0 [] (made mk text p) text p p [] q v → p5 ≡ joined p q → ((ws : List ℕ) → Found f text p p5 (mk ws) → Leads (h (mk ws)) (length ws + c) mid E text p0 p5 w p' w') → Leads (f >>= h) c mid E text p0 p w p' w'
  unfolding after
  dry_then h {mk} D j k = record {
    runs = λ b low m cur e a. subst (λ (z : Res B). E.ends b m low z p' w') (sym (bind_at f h text cur.at))
        (go b low m cur e a (run f cur.at (drop cur.at text)) refl (j ∙ ap (λ (z : Parsed). joined z q) e) refl
        (D.runs b (low ++ mid) (all_paid b (length (low ++ mid)) cur.at) cur e (at_less (0 + all_paid b (length (low ++ mid)) cur.at) (omega arith) (no_array (at_part e (at_all a))))));
    hands = λ e x i. let o : p5 ≡ Refused e x = j ∙ ap (λ (z : Parsed). joined z q) i in (k [] (found_not e x o)).hands e x o;
  }
    where
      go : (b : Budget) (low : List ℕ) (m : ℕ) (cur : Cursor) → p ≡ Ok cur → At b text p0 (c + m) low mid cur w → (z : Res A) → run f cur.at (drop cur.at text) ≡ z → {y : Parsed} → p5 ≡ joined (Ok cur) q → q ≡ y → Ends b text p (all_paid b (length (low ++ mid)) cur.at) (low ++ mid) mk z y v → E.ends b m low (after h text z) p' w'
      go b low m cur e a z r i s (at {ws = ws} {cur = ct} x) =
          let o : p5 ≡ Ok (record { at = ct.at; w = cur.w }) = i ∙ ap (joined (Ok cur)) s in
          (k ws (record { there = λ d t. record { cur = cur; was = e; inside = a.inside; end = ct.at; is = r } })).runs b low m (record { at = ct.at; w = cur.w }) o (at_less (length ws + c + m) (omega arith) (at_unwritten {ws = ws} a x))
      go b low m cur e a z r i s (out {e = n} {q = x}) = let o : p5 ≡ Refused n x = i ∙ ap (joined (Ok cur)) s in rw ((k [] (found_not n x o)).hands n x o) (E.outs b m low n x w')

-- a type's
pub dry_type : {B : Type 0} {f : Prog TypeOut} {g : Prog Listed} (n : ℕ) (h : List ℕ → Prog B) {c : ℕ} {mid : List ℕ} {E : Goal B} {text : List ℕ} {p0 p q p5 p' : Parsed} {w v w' : List ℕ}
    → Leads f 0 [] (typed g text p) text p p [] q v → Stuck n h → p5 ≡ joined p q → ((a : TypeOut) → Found f text p p5 a → Leads (h (type_of a)) (length (type_of a) + c) mid E text p0 p5 w p' w') → Leads (whole n f >>= h) c mid E text p0 p w p' w'
unfolding after whole whole_of run
dry_type {B} {f} {g} n h {c} {mid} {E} {text} {p0} {p} {q} {p5} {p'} {w} {v} {w'} D st j k = record {
  runs = λ b low m cur e a. subst (λ (z : Res B). E.ends b m low z p' w') (sym (bind_at (whole n f) h text cur.at ∙ ap (after h text) (bind_at f (whole_of n) text cur.at)))
      (go b low m cur e a (run f cur.at (drop cur.at text)) refl (j ∙ ap (λ (z : Parsed). joined z q) e) refl
      (D.runs b (low ++ mid) (all_paid b (length (low ++ mid)) cur.at) cur e (at_less (0 + all_paid b (length (low ++ mid)) cur.at) (omega arith) (no_array (at_part e (at_all a))))));
  hands = λ e x i. let o : p5 ≡ Refused e x = j ∙ ap (λ (z : Parsed). joined z q) i in (k (plain []) (found_not e x o)).hands e x o;
}
  where
    go : (b : Budget) (low : List ℕ) (m : ℕ) (cur : Cursor) → p ≡ Ok cur → At b text p0 (c + m) low mid cur w → (z : Res TypeOut) → run f cur.at (drop cur.at text) ≡ z → {y : Parsed} → p5 ≡ joined (Ok cur) q → q ≡ y → TypeEnds g b text p (all_paid b (length (low ++ mid)) cur.at) (low ++ mid) z y v → E.ends b m low (after h text (after (whole_of n) text z)) p' w'
    go b low m cur e a z r i s (read {t = t} {cur = ct} x) =
        let o : p5 ≡ Ok (record { at = ct.at; w = cur.w }) = i ∙ ap (joined (Ok cur)) s in
        (k (plain t) (record { there = λ d u. record { cur = cur; was = e; inside = a.inside; end = ct.at; is = r } })).runs b low m (record { at = ct.at; w = cur.w }) o (at_less (length t + c + m) (omega arith) (at_unwritten {ws = t} a x))
    go b low m cur e a z r i s (back {t = t} {l = l} {e = en} {cur = ct} x y u) =
        let o : p5 ≡ Ok (record { at = ct.at; w = cur.w }) = i ∙ ap (joined (Ok cur)) s in
        subst (λ (z : Res B). E.ends b m low z p' w') (st t ct.at (drop ct.at text) y)
        ((k (opened t l ct.at) (record { there = λ d u. record { cur = cur; was = e; inside = a.inside; end = en; is = r } })).runs b low m (record { at = ct.at; w = cur.w }) o (at_less (length t + c + m) (omega arith) (at_unwritten {ws = t} a x)))
    go b low m cur e a z r i s (none {e = en} {q = x}) = let o : p5 ≡ Refused en x = i ∙ ap (joined (Ok cur)) s in rw ((k (plain []) (found_not en x o)).hands en x o) (E.outs b m low en x w')

-- ---- read in part
-- the program goes on here
pub kept_here : {A : Type 0} {c : ℕ} {mid : List ℕ} (f : List ℕ → List ℕ → Prog A) (weight : List ℕ → ℕ) (x : List ℕ) {text : List ℕ} {p0 p : Parsed} {w : List ℕ} → weight x ≤ c → Leads (f x mid) c mid (kept f weight text p0) text p0 p w p w
kept_here {c = c} {mid = mid} f weight x {text = text} {p0 = p0} {w = w} l = record {
  runs = λ b low k cur e a. subst (λ (z : Parsed). Keeps b f weight text p0 k low (run (f x mid) cur.at (drop cur.at text)) z w) (sym e) (keeps x (at_less (weight x + k) (omega arith) a));
  hands = λ e q h. h;
}

-- and on from there
pub kept_on : {A : Type 0} {f : Prog A} {g : List ℕ → List ℕ → Prog A} {weight : List ℕ → ℕ} {c : ℕ} {mid : List ℕ} {E : Goal A} {text : List ℕ} {p0 p q : Parsed} {w v : List ℕ} {p' : Parsed} {w' : List ℕ} → Leads f c mid (kept g weight text p0) text p0 p w q v → ((x ws : List ℕ) → Leads (g x ws) (weight x) ws E text p0 q v p' w') → Leads f c mid E text p0 p w p' w'
kept_on {A} {f} {g} {weight} {c} {mid} {E} {text} {p0} {p} {q} {w} {v} {p'} {w'} r s = record {
  runs = λ b low k cur e a. go b low k s (r.runs b low k cur e a);
  hands = λ e x t. (s [] []).hands e x (r.hands e x t);
}
  where
    go : (b : Budget) (low : List ℕ) (k : ℕ) {y : Parsed} {u : List ℕ} → ((x ws : List ℕ) → Leads (g x ws) (weight x) ws E text p0 y u p' w') → {z : Res A} → Keeps b g weight text p0 k low z y u → E.ends b k low z p' w'
    go b low k t (keeps x {mid = ws} {cur = cur} a) = (t x ws).runs b low k cur refl a
    go b low k t (keeps_not {e = e} {q = x}) = rw ((t [] []).hands e x refl) (E.outs b k low e x w')

-- a part of which mk x of what stands is the result, then the rest; what was left is paid for
pub kept_then : {A B : Type 0} {f : Prog A} (h : A → Prog B) (mk : List ℕ → List ℕ → A) {weight : List ℕ → ℕ} {c : ℕ} {mid : List ℕ} {E : Goal B} {text : List ℕ} {p0 p q p' : Parsed} {w w1 w' : List ℕ}
    → Leads f 0 [] (kept (λ x ws. ret (mk x ws)) weight text p) text p p w q w1 → ((x ws : List ℕ) → Found f text p q (mk x ws) → Leads (h (mk x ws)) (weight x + c) (mid ++ ws) E text p0 q w1 p' w') → Leads (f >>= h) c mid E text p0 p w p' w'
unfolding after run
kept_then {A} {B} {f} h mk {weight} {c} {mid} {E} {text} {p0} {p} {q} {p'} {w} {w1} {w'} r s = record {
  runs = λ b low k cur e a. subst (λ (z : Res B). E.ends b k low z p' w') (sym (bind_at f h text cur.at))
      (go b low k cur e a (run f cur.at (drop cur.at text)) refl refl (r.runs b (low ++ mid) (c + k) cur e (at_less (0 + (c + k)) (omega arith) (at_part e a))));
  hands = λ e x i. let o : q ≡ Refused e x = r.hands e x i in (s [] [] (found_not e x o)).hands e x o;
}
  where
    go : (b : Budget) (low : List ℕ) (k : ℕ) (cur : Cursor) → p ≡ Ok cur → At b text p0 (c + k) low mid cur w → (z : Res A) → run f cur.at (drop cur.at text) ≡ z → {y : Parsed} → q ≡ y → Keeps b (λ x ws. ret (mk x ws)) weight text p (c + k) (low ++ mid) z y w1 → E.ends b k low (after h text z) p' w'
    go b low k cur e a z i o (keeps x {mid = ws} {cur = ct} t) =
        (s x ws (record { there = λ d u. record { cur = cur; was = e; inside = a.inside; end = ct.at; is = i } })).runs b low k ct o (at_less (weight x + c + k) (omega arith) (at_whole a t))
    go b low k cur e a z i o (keeps_not {e = en} {q = x}) = rw ((s [] [] (found_not en x o)).hands en x o) (E.outs b k low en x w')

-- ---- and written behind what stands
-- what a goal shows of words, where the result is known
pub record Written (b : Budget) (text : List ℕ) (p0 : Parsed) (k : ℕ) (low ws : List ℕ) (p : Parsed) (words : List ℕ) : Type 0 where
  pub cur : Cursor
  pub is : p ≡ Ok cur
  pub at : At b text p0 k low ws cur words

abbrev pub Shows : {A : Type 0} → Goal A → A → List ℕ → List ℕ → Parsed → Type 0
Shows {A} G a ws text p0 = (b : Budget) (k : ℕ) (low : List ℕ) (r : Res A) (p : Parsed) (words : List ℕ) (n : ℕ) → r ≡ ok a n → G.ends b k low r p words → Written b text p0 k low ws p words

no_place : {A B : Type 0} (a : A) (i e x : ℕ) → ok a i ≡ no_at e x → B
no_place a i e x h = absurd (let z : ◌≡◌ {A = ℕ} 0 1 = cc in omega arith)

ok_same : {A : Type 0} (a b : A) (i j : ℕ) → ok a i ≡ ok b j → a ≡ b
ok_same a b i j e = cc

plain_same : (t u : List ℕ) → plain t ≡ plain u → t ≡ u
plain_same t u e = cc

opened_same : (t u : List ℕ) (l m : Listed) (i j : ℕ) → opened t l i ≡ opened u m j → t ≡ u
opened_same t u l m i j e = cc

not_opened : {B : Type 0} (t u : List ℕ) (m : Listed) (j : ℕ) → plain t ≡ opened u m j → B
not_opened t u m j e = absurd (let z : ◌≡◌ {A = ℕ} 0 1 = cc in omega arith)

pub shows_made : {ws text : List ℕ} {z : Parsed} → Shows (made same text z) ws ws text z
shows_made {ws} {text} {z} b k low _ _ _ n e (at {ws = us} {cur = cur} {words = words} a) =
    record { cur = cur; is = refl; at = subst (λ (l : List ℕ). At b text z k low l cur words) (ok_same us ws cur.at n e) a }
shows_made {ws} b k low _ _ _ n e (out {e = en} {q = x}) = no_place ws n en x (sym e)

pub shows_typed : {g : Prog Listed} (o : TypeOut) {text : List ℕ} {z : Parsed} → Shows (typed g text z) o (type_of o) text z
shows_typed (plain t) {text} {z} b k low _ _ _ n e (read {t = us} {cur = cur} {words = words} a) =
    record { cur = cur; is = refl; at = subst (λ (l : List ℕ). At b text z k low l cur words) (plain_same us t (ok_same (plain us) (plain t) cur.at n e)) a }
shows_typed (plain t) {text} {z} b k low _ _ _ n e (back {t = us} {l = l} {e = en} {cur = cur} a y m) = not_opened t us l cur.at (sym (ok_same (opened us l cur.at) (plain t) en n e))
shows_typed (opened t m j) {text} {z} b k low _ _ _ n e (read {t = us} {cur = cur} a) = not_opened us t m j (ok_same (plain us) (opened t m j) cur.at n e)
shows_typed (opened t m j) {text} {z} b k low _ _ _ n e (back {t = us} {l = l} {e = en} {cur = cur} {words = words} a y u) =
    record { cur = cur; is = refl; at = subst (λ (s : List ℕ). At b text z k low s cur words) (opened_same us t l m cur.at j (ok_same (opened us l cur.at) (opened t m j) en n e)) a }
shows_typed o b k low _ _ _ n e (none {e = en} {q = x}) = no_place o n en x (sym e)

pub resume_out : (q p : Parsed) {r : Parsed} → r ≡ resumed q p → (e x : ℕ) → p ≡ Refused e x → r ≡ Refused e x
resume_out q p j e x i = j ∙ ap (resumed q) i ∙ resumed_out e x q

-- From the place of p (z), behind the words of p2; then on from the place of p2 (p3).
pub again_then : {A B : Type 0} {f : Prog A} {a : A} {ws : List ℕ} {G : Goal A} {g : Prog B} {c : ℕ} {mid : List ℕ} {E : Goal B} {text : List ℕ} {p0 p p2 z q p3 p' : Parsed} {w w1 w' : List ℕ}
    → Found f text p p2 a → Shows G a ws text z → z ≡ resumed p2 p → Leads f 0 [] G text z z w q w1 → p3 ≡ resumed q p2 → Leads g c (mid ++ ws) (richly text E) text p0 p3 w1 p' w' → Leads g (length ws + c) mid (richly text E) text p0 p2 w p' w'
again_then {A} {B} {f} {a} {ws} {G} {g} {c} {mid} {E} {text} {p0} {p} {p2} {z} {q} {p3} {p'} {w} {w1} {w'} F S Z W J k = record {
  runs = λ b low m cur e i x. first b low m cur e i x (F.there cur e);
  hands = λ e x i. k.hands e x (J ∙ ap (resumed q) i ∙ resumed_out e x q);
}
  where
    -- a budget that begins with what stands
    fresh : List ℕ → Budget
    fresh l = record { base = length l; rate = 3; enough = omega arith }

    second : (b : Budget) (low : List ℕ) (m : ℕ) (cur : Cursor) → p2 ≡ Ok cur → At b text p0 (length ws + c + m) low mid cur w → Rich b text → Written (fresh (low ++ mid)) text z 0 (low ++ mid) ws q w1 → E.ends b m low (run g cur.at (drop cur.at text)) p' w'
    second b low m cur e i x s =
        let o : p3 ≡ Ok (record { at = cur.at; w = s.cur.w }) = J ∙ ap (resumed q) e ∙ ap (λ (y : Parsed). resumed y (Ok cur)) s.is in
        let l : (low ++ mid) ++ ws ≡ low ++ (mid ++ ws) = append_assoc low mid ws in
        let len : length (low ++ (mid ++ ws)) ≡ length (low ++ mid) + length ws = sym (ap length l) ∙ length-append (low ++ mid) ws in
        k.runs b low m (record { at = cur.at; w = s.cur.w }) o
        (record {
          from = i.from;
          was = i.was;
          base = i.base;
          small = i.small;
          lid = i.lid;
          inside = i.inside;
          count = s.at.count ∙ ap length l;
          paid = omega (arith, i.paid);
          stands = subst (λ (t : List ℕ). Stands t w1) l s.at.stands;
        }) x

    first : (b : Budget) (low : List ℕ) (m : ℕ) (cur : Cursor) → p2 ≡ Ok cur → At b text p0 (length ws + c + m) low mid cur w → Rich b text → There f text p a → E.ends b m low (run g cur.at (drop cur.at text)) p' w'
    first b low m cur e i x t =
        let cz : Cursor = record { at = t.cur.at; w = cur.w } in
        let o : z ≡ Ok cz = Z ∙ ap (λ (y : Parsed). resumed y p) e ∙ ap (resumed (Ok cur)) t.was in
        let n : (low ++ mid) ++ [] ≡ low ++ mid = append-nil (low ++ mid) in
        let l : length (low ++ mid) + 3 * length text < 4294967296 = omega (arith, i.paid, i.inside, i.small, x.room, mul-le-mul_left b.rate i.inside) in
        let s : At (fresh (low ++ mid)) text z (0 + 0) (low ++ mid) [] cz w = record {
          from = cz;
          was = o;
          base = i.count;
          small = i.small;
          lid = l;
          inside = t.inside;
          count = rw n i.count;
          paid = rw n (omega arith);
          stands = rw n i.stands;
        } in
        second b low m cur e i x (S (fresh (low ++ mid)) 0 (low ++ mid) (run f t.cur.at (drop t.cur.at text)) q w1 t.end t.is (W.runs (fresh (low ++ mid)) (low ++ mid) 0 cz o s))

-- ---- a type of which two copies stand
-- A type is written, and as many words more are paid for: its bytes pay for six words each, and it has three a byte at most. What follows is
-- the same whether or not the type read a list: then it begins again at the parenthesis.
pub type_twice : {B : Type 0} {f : Prog TypeOut} {g : Prog Listed} (h : TypeOut → Prog B) {c : ℕ} {mid : List ℕ} {E : Goal B} {text : List ℕ} {p0 p q p' : Parsed} {w w1 w' : List ℕ}
    → Leads f 0 [] (typed g text p) text p p w q w1 → ((t : List ℕ) (l : Listed) (j e : ℕ) → byte_at (drop j text) ≡ 40 → Listing g text j l e → run (h (opened t l j)) e (drop e text) ≡ run (h (plain t)) j (drop j text))
    → ((a : TypeOut) → Found f text p q a → Leads (h (plain (type_of a))) (length (type_of a) + c) (mid ++ type_of a) (richly text E) text p0 q w1 p' w') → Leads (f >>= h) c mid (richly text E) text p0 p w p' w'
unfolding after
type_twice {B} {f} {g} h {c} {mid} {E} {text} {p0} {p} {q} {p'} {w} {w1} {w'} D O k = record {
  runs = λ b low m cur e a x. subst (λ (z : Res B). E.ends b m low z p' w') (sym (bind_at f h text cur.at))
      (go b low m cur e a x (run f cur.at (drop cur.at text)) refl refl (D.runs (three low) (low ++ mid) (3 * cur.at) cur e (start b low m cur e a x)));
  hands = λ e x i. let o : q ≡ Refused e x = D.hands e x i in (k (plain []) (found_not e x o)).hands e x o;
}
  where
    -- a budget of three words a byte
    three : List ℕ → Budget
    three low = record { base = length (low ++ mid); rate = 3; enough = omega arith }

    start : (b : Budget) (low : List ℕ) (m : ℕ) (cur : Cursor) → p ≡ Ok cur → At b text p0 (c + m) low mid cur w → Rich b text → At (three low) text p (0 + 3 * cur.at) (low ++ mid) [] cur w
    start b low m cur e a x =
        let n : (low ++ mid) ++ [] ≡ low ++ mid = append-nil (low ++ mid) in
        record {
          from = cur;
          was = e;
          base = a.count;
          small = a.small;
          lid = omega (arith, a.paid, a.inside, a.small, x.room, mul-le-mul_left b.rate a.inside);
          inside = a.inside;
          count = rw n a.count;
          paid = rw n (omega arith);
          stands = rw n a.stands;
        }

    -- at six words a byte and more, two copies are paid for
    twice : (b : Budget) (i j n : ℕ) → 6 ≤ b.rate → i ≤ j → n + 3 * i ≤ 3 * j → n + n + b.rate * i ≤ b.rate * j
    twice b i j n r l h =
        let d : i + (j - i) ≡ j = omega arith in
        let s : b.rate * (i + (j - i)) ≡ b.rate * i + b.rate * (j - i) = mul-add b.rate i (j - i) in
        let t : b.rate * j ≡ b.rate * i + b.rate * (j - i) = rw d at s in
        let u : 6 * (j - i) ≤ b.rate * (j - i) = mul-le-mul_right (j - i) r in
        omega arith

    written : (b : Budget) (low t : List ℕ) (m : ℕ) (cur ct : Cursor) → At b text p0 (c + m) low mid cur w → Rich b text → At (three low) text p (3 * cur.at) (low ++ mid) t ct w1 → At b text p0 (length t + c + m) low (mid ++ t) ct w1
    written b low t m cur ct a x i =
        let l : (low ++ mid) ++ t ≡ low ++ (mid ++ t) = append_assoc low mid t in
        let len : length ((low ++ mid) ++ t) ≡ length (low ++ mid) + length t = length-append (low ++ mid) t in
        let y : length ((low ++ mid) ++ t) + 3 * cur.at ≤ length (low ++ mid) + 3 * ct.at = i.paid in
        let z : length t + 3 * cur.at ≤ 3 * ct.at = omega arith in
        let v : length t + length t + b.rate * cur.at ≤ b.rate * ct.at = twice b cur.at ct.at (length t) x.rate (omega arith) z in
        record {
          from = a.from;
          was = a.was;
          base = a.base;
          small = a.small;
          lid = a.lid;
          inside = i.inside;
          count = i.count ∙ ap length l;
          paid = subst (λ (s : List ℕ). length s + (length t + c + m) ≤ b.base + b.rate * ct.at) l (omega (arith, a.paid));
          stands = subst (λ (s : List ℕ). Stands s w1) l i.stands;
        }

    go : (b : Budget) (low : List ℕ) (m : ℕ) (cur : Cursor) → p ≡ Ok cur → At b text p0 (c + m) low mid cur w → Rich b text → (z : Res TypeOut) → run f cur.at (drop cur.at text) ≡ z → {y : Parsed} → q ≡ y → TypeEnds g (three low) text p (3 * cur.at) (low ++ mid) z y w1 → E.ends b m low (after h text z) p' w'
    go b low m cur e a x z r s (read {t = t} {cur = ct} i) =
        (k (plain t) (record { there = λ d u. record { cur = cur; was = e; inside = a.inside; end = ct.at; is = r } })).runs b low m ct s (written b low t m cur ct a x i) x
    go b low m cur e a x z r s (back {t = t} {l = l} {e = en} {cur = ct} i y u) =
        subst (λ (v : Res B). E.ends b m low v p' w') (sym (O t l ct.at en y u))
        ((k (opened t l ct.at) (record { there = λ d v. record { cur = cur; was = e; inside = a.inside; end = en; is = r } })).runs b low m ct s (written b low t m cur ct a x i) x)
    go b low m cur e a x z r s (none {e = en} {q = v}) = rw ((k (plain []) (found_not en v s)).hands en v s) (E.outs b m low en v w')

-- ---- words that are written over
-- all since p0 is dropped
pub rewind : {A : Type 0} {f : Prog A} {c : ℕ} {mid : List ℕ} {E : Goal A} {text : List ℕ} {p0 p p5 p' : Parsed} {w w' : List ℕ} → p5 ≡ resumed p0 p → Leads f c [] E text p0 p5 w p' w' → Leads f c mid E text p0 p w p' w'
rewind {A} {f} {c} {mid} {E} {text} {p0} {p} {p5} {p'} {w} {w'} j k = record {
  runs = λ b low m cur e a.
      let o : p5 ≡ Ok (record { at = cur.at; w = a.from.w }) = j ∙ ap (λ (z : Parsed). resumed z p) a.was ∙ ap (resumed (Ok a.from)) e in
      let n : low ++ [] ≡ low = append-nil low in
      k.runs b low m (record { at = cur.at; w = a.from.w }) o
      (record {
        from = a.from;
        was = a.was;
        base = a.base;
        small = a.small;
        lid = a.lid;
        inside = a.inside;
        count = rw n a.base;
        paid = rw n (omega (arith, a.paid, length-append low mid));
        stands = rw n (front low mid w a.stands);
      });
  hands = λ e x i. k.hands e x (j ∙ ap (resumed p0) i ∙ resumed_out e x p0);
}
