-- The laws of an alloca's parts: a count and an alignment are there or not, and words and detail bits go by the same test.
-- Assumes nothing.
use mathlib.Core.Path.{◌≡◌, refl, sym, ap, ◌∙◌, subst}
use mathlib.Core.List.{List, [], ◌∷◌, ◌++◌, append-nil}
use mathlib.Core.Option.{Option, none, some}
use mathlib.Core.Bool.{Bool, true, false}
use Rattle.std.specs.Prelude.{Some, None, Result}
use Rattle.std.specs.Prelude.{Option as Maybe}
use Prim.Native.Nat.{ℕ, suc, ◌+◌, ◌*◌}
use native.Mathlib.Omega.{arith}
use lib.ListN.{length}
use Rattle.program.specs.Prog.{Prog, ret, ok, ◌>>=◌}
use Rattle.grammar.specs.Instructions.{clauses, alloca_node}
use Rattle.node_words.specs.Writes.{joined, pushed, closes}
use Rattle.lexer.specs.Reads.{At, at, out, Leads, Goal, made, same}
use Rattle.lexer.specs.Parsed.{Parsed, Ok, Err, Refused}
use Rattle.records.specs.declared.Refusal.{Refusal}
use Rattle.inst_memory.specs.declared.Rest.{Rest}
use Rattle.inst_operands.specs.Dry.{Dry}
use Rattle.inst_operands.specs.Found.{Found}
use Rattle.inst_operands.specs.Rich.{richly, resumed}
use Rattle.lexer.proofs.Laws.{spare, true_false, handed_on}
use Rattle.node_words.proofs.Laws.{push_then, close_is}
use Rattle.inst_operands.specs.Trailing.{align_of}
use Rattle.inst_memory.specs.Alloca.{counting, counted, aligned_p, aligns, RestIs}
use Rattle.inst_operands.proofs.Twice.{Shows, dry_then, again_then}
use Rattle.inst_operands.proofs.OperandLaws.{ok_not}

-- ---- alloca
no_none : {B : Type 0} (x : List ℕ) → none ≡ some x → B
no_none x e = absurd (let z : ◌≡◌ {A = ℕ} 0 1 = cc in omega arith)

counted_some : (n : Bool) (x : List ℕ) → n ≡ true → counted n x ≡ some x
unfolding counted
counted_some true x h = refl
counted_some false x h = true_false h

counted_same : (m : Bool) (us ws : List ℕ) → counted m us ≡ some ws → us ≡ ws
unfolding counted
counted_same false us ws e = no_none ws e
counted_same true us ws e = cc

parts_same : (a b : Option (List ℕ)) (x y : List ℕ) (i j : ℕ) → ok (clauses a x) i ≡ ok (clauses b y) j → a ≡ b
parts_same a b x y i j e = cc

-- the count is read again
pub shows_count : (n m : Bool) (ws al bl : List ℕ) {text : List ℕ} {z : Parsed} → n ≡ true → Shows (made (λ us. clauses (counted m us) bl) text z) (clauses (counted n ws) al) ws text z
shows_count n m ws al bl {text} {z} h b k low _ _ _ j e (at {ws = us} {cur = cur} {words = words} a) =
    let s : us ≡ ws = counted_same m us ws (parts_same (counted m us) (counted n ws) bl al cur.at j e ∙ counted_some n ws h) in
    record { cur = cur; is = refl; at = subst (λ (l : List ℕ). At b text z k low l cur words) s a }
shows_count n m ws al bl h b k low _ _ _ j e (out {e = en} {q = x}) = ok_not (clauses (counted n ws) al) j en x (sym e)

pub align_then : {A : Type 0} {f : Prog A} (al : Maybe ℕ) {c : ℕ} {mid : List ℕ} {E : Goal A} {text : List ℕ} {p0 p q p' : Parsed} {w w1 w' : List ℕ} → (q ≡ aligned_p al p) × (w1 ≡ aligns al p w) → Leads f c (mid ++ align_of al) E text p0 q w1 p' w' → Leads f (suc c) mid E text p0 p w p' w'
unfolding aligned_p aligns align_of
align_then {A} {f} None {c} {mid} {E} {text} {p0} {p} {q} {p'} {w} {w1} {w'} e r =
    let n : Leads f c mid E text p0 q w1 p' w' = subst (λ (l : List ℕ). Leads f c l E text p0 q w1 p' w') (append-nil mid) r in
    let m : Leads f c mid E text p0 p w1 p' w' = subst (λ (y : Parsed). Leads f c mid E text p0 y w1 p' w') e.0 n in
    spare c (omega arith) (subst (λ (y : List ℕ). Leads f c mid E text p0 p y p' w') e.1 m)
align_then (Some v) e r = push_then v e r

pub alloca_none : (dest : ℕ) (n : Bool) (d : ℕ) (t ws al : List ℕ) {c : ℕ} {text : List ℕ} {p0 p q : Parsed} {w w' : List ℕ} → n ≡ false → d ≡ length al * 2 → (q ≡ p) × (w' ≡ closes 41 d 1 p0 p w) → Leads (ret (alloca_node dest t (clauses (counted n ws) al))) c (0 ∷ dest ∷ (al ++ t)) (made same text p0) text p0 p w q w'
unfolding alloca_node counted
alloca_none dest n d t ws al {c} {text} {p0} {p} {q} {w} {w'} e f h = rw (e, ← f) (close_is 41 d 1 (dest ∷ (al ++ t)) h)

pub alloca_some : (dest : ℕ) (n : Bool) (d : ℕ) (t ws al : List ℕ) {c : ℕ} {text : List ℕ} {p0 p q : Parsed} {w w' : List ℕ} → n ≡ true → d ≡ length al * 2 → (q ≡ p) × (w' ≡ closes 41 (1 + d) 3 p0 p w) → Leads (ret (alloca_node dest t (clauses (counted n ws) al))) c (0 ∷ dest ∷ ((al ++ t) ++ ws)) (made same text p0) text p0 p w q w'
unfolding alloca_node
alloca_some dest n d t ws al {c} {text} {p0} {p} {q} {w} {w'} e f h = rw (counted_some n ws e, ← f) (close_is 41 (1 + d) 3 (dest ∷ ((al ++ t) ++ ws)) h)

-- what is read and written nowhere
pub rest_dry : (r : Result Rest Refusal) (text v : List ℕ) (p : Parsed) → RestIs r (λ n al q. Leads (counting 16777217 none []) 0 [] (made (λ ws. clauses (counted n ws) al) text p) text p p [] q v) → RestIs r (λ n al q. Dry (counting 16777217 none []) (made (λ ws. clauses (counted n ws) al) text p) text p q)
rest_dry (Ok s) text v p h = record { words = v; reads = h }
rest_dry (Err e) text v p h = λ n al. record { words = v; reads = h n al }

-- where what is read and not written refuses
pub dry_out : {A B : Type 0} {f : Prog A} (h : A → Prog B) {mk : List ℕ → A} {c : ℕ} {mid : List ℕ} {E : Goal B} {text : List ℕ} {p0 p p' : Parsed} {w v w' : List ℕ} {r : Refusal} → Leads f 0 [] (made mk text p) text p p [] (Err r) v → p' ≡ Err r → Leads (f >>= h) c mid E text p0 p w p' w'
dry_out h {p = p} {r = r} D e = dry_then h D refl (λ ws F. handed_on (out_of p refl) e)
  where
    out_of : (y : Parsed) → p ≡ y → joined p (Err r) ≡ Err r
    out_of (Ok c) i = ap (λ (z : Parsed). joined z (Err r)) i
    out_of (Err s) i = ap (λ (z : Parsed). joined z (Err r)) i ∙ sym (D.hands s.question s.place i)

-- and where what is read again does
pub again_out : {A B : Type 0} {f : Prog A} {a : A} {ws : List ℕ} {G : Goal A} {g : Prog B} (c : ℕ) {mid : List ℕ} {E : Goal B} {text : List ℕ} {p0 p p2 z p' : Parsed} {w w1 w' : List ℕ} {r : Refusal}
    → Found f text p p2 a → Shows G a ws text z → ((e x : ℕ) → p ≡ Refused e x → p2 ≡ Refused e x) → z ≡ resumed p2 p → Leads f 0 [] G text z z w (Err r) w1 → p' ≡ Err r → Leads g (length ws + c) mid (richly text E) text p0 p2 w p' w'
again_out c {p = p} {p2 = p2} {r = r} F S H Z W e = again_then F S Z W refl (handed_on (out_of p2 refl) e)
  where
    same_out : (s : Refusal) → p2 ≡ Err s → (y : Parsed) → p ≡ y → ◌≡◌ {A = Parsed} (Err s) (Err r)
    same_out s i (Ok b) j = sym (W.hands s.question s.place (Z ∙ ap (λ (y : Parsed). resumed y p) i ∙ ap (resumed (Err s)) j))
    same_out s i (Err t) j = sym i ∙ H t.question t.place j ∙ sym (W.hands t.question t.place (Z ∙ ap (λ (y : Parsed). resumed y p) i ∙ ap (resumed (Err s)) j))

    out_of : (y : Parsed) → p2 ≡ y → resumed (Err r) p2 ≡ Err r
    out_of (Ok b) i = ap (resumed (Err r)) i
    out_of (Err s) i = ap (resumed (Err r)) i ∙ same_out s i p refl

-- refusals are handed on
pub joined_out : (p q : Parsed) {r : Parsed} → r ≡ joined p q → (e x : ℕ) → p ≡ Refused e x → r ≡ Refused e x
joined_out p q j e x i = j ∙ ap (λ (z : Parsed). joined z q) i

pub align_out : (al : Maybe ℕ) (p : Parsed) (w : List ℕ) {q : Parsed} {w1 : List ℕ} → (q ≡ aligned_p al p) × (w1 ≡ aligns al p w) → (e x : ℕ) → p ≡ Refused e x → q ≡ Refused e x
unfolding aligned_p
align_out None p w h e x i = h.0 ∙ i
align_out (Some v) p w h e x i = h.0 ∙ ap pushed i
