-- A call without a destination: whether it is void is told by its type, read once more into a word of its own; so what comes behind the call is known.
-- Assumes nothing.
use mathlib.Core.Path.{◌≡◌, refl, sym, ap, ◌∙◌, subst}
use mathlib.Core.Bool.{Bool, true, false, ◌&&◌}
use mathlib.Core.List.{List, [], ◌∷◌}
use Prim.Native.Nat.{ℕ, ◌+◌, ◌≤◌, ◌<◌}
use native.Mathlib.Omega.{arith}
use lib.Dec.{ltb, eqb}
use lib.ListN.{length, get_or, drop}
use borrow.Author.Tests.{lt-ltb}
use Rattle.program.specs.Prog.{Prog, Res, ok, closed, no_at, run, ◌>>=◌}
use Rattle.program.specs.Local.{next, run_bind}
use Rattle.records.specs.Limits.{depth_limit}
use Rattle.grammar.specs.Counter.{Counted, counted, takes_next}
use Rattle.grammar.specs.Attributes.{skip_attrs, skip_call_cconv}
use Rattle.grammar.specs.Types.{TypeOut, plain, opened, parse_type}
use Rattle.grammar.specs.Instructions.{call_of, parse_call, is_void, numbered_call, parse_plain_call}
use Rattle.lexer.specs.Step.{bumped, place_p}
use Rattle.node_words.specs.Writes.{pushed}
use Rattle.lexer.specs.Reads.{Budget, At, Leads, Goal, made, same, Aim, Finds, Gives}
use Rattle.lexer.specs.declared.Cursor.{Cursor}
use Rattle.lexer.specs.Parsed.{Parsed, Ok}
use Rattle.lexer.proofs.Laws.{g_then, done, val, place_at, g_done}
use Rattle.lexer.proofs.Children.{assoc}
use Rattle.types.specs.Reading.{TypeEnds, read, back, none, list_of, Types}
use Rattle.inst_operands.specs.Rich.{richly, resumed}
use Rattle.inst_operands.proofs.RichLaws.{enrich, then_rich}
use Rattle.inst_calls.specs.Void.{call_type, VoidType, Voids, void_p, behind_call}

-- ---- is it void?
abbrev voids : Bool → Aim TypeOut
voids v = record {
  ends = λ i w r p. (t : TypeOut) (j : ℕ) → r ≡ ok t j → v ≡ is_void t;
  outs = λ i w e q t j h. absurd (let z : ◌≡◌ {A = ℕ} 0 1 = cc in omega arith);
  sooner = λ i j w r p l h. h;
}

-- a type's first word, if it has one
first_word : (t : List ℕ) (n x : ℕ) → n ≡ length t → (0 < length t → x ≡ get_or t 0 0) → (ltb 0 n && eqb x 72057594037927937) ≡ eqb (get_or t 0 0) 72057594037927937
first_word [] n x e f = rw e
first_word (y ∷ t) n x e f = let k : ltb 0 n ≡ true = lt-ltb 0 n (omega arith) in rw (k, f (omega arith))

plain_void : (t u : List ℕ) (i j : ℕ) (T : TypeOut) → ok (plain t) i ≡ ok T j → is_void T ≡ eqb (get_or t 0 0) 72057594037927937
unfolding is_void
plain_void t u i j T h = let e : plain t ≡ T = cc in rw (sym e)

opened_void : (t : List ℕ) {l : _} {k : ℕ} (i j : ℕ) (T : TypeOut) → ok (opened t l k) i ≡ ok T j → is_void T ≡ eqb (get_or t 0 0) 72057594037927937
unfolding is_void
opened_void t {l} {k} i j T h = let e : opened t l k ≡ T = cc in rw (sym e)

once : Budget
once = record { base = 0; rate = 3; enough = omega arith }

at_none : (text : List ℕ) (s0 : Parsed) (i : ℕ) (w : List ℕ) → s0 ≡ Ok (record { at = i; w = 0 }) → i ≤ length text → length text ≤ 16777216 → At once text s0 0 [] [] (record { at = i; w = 0 }) w
unfolding once
at_none text s0 i w e h k = record {
  from = record { at = i; w = 0 };
  was = e;
  base = refl;
  small = k;
  lid = omega arith;
  inside = h;
  count = refl;
  paid = omega arith;
  stands = record { same = λ i l m. absurd (omega arith) };
}

abbrev pub nowhere : Parsed
nowhere = Ok (record { at = 0; w = 0 })

pub type_void : {text : List ℕ} {s s0 t : Parsed} {w w1 : List ℕ} {v : Bool} → s0 ≡ resumed nowhere s → Types depth_limit text s0 w t w1 → 1 ≤ length w1 → v ≡ void_p t (get_or w1 0 0) → VoidType text s v
type_void {text} {s} {s0} {t} {w} {w1} {v} e L n f = record {
  is = λ cur i x.
      let o : s0 ≡ Ok (record { at = cur.at; w = 0 }) = e ∙ ap (resumed nowhere) i in
      go (L.runs once [] 0 (record { at = cur.at; w = 0 }) o (at_none text s0 cur.at w o x.inside x.small)) f;
}
  where
    held : {k : ℕ} {ts : List ℕ} {cur : Cursor} → At once text s0 k [] ts cur w1 → void_p (Ok cur) (get_or w1 0 0) ≡ eqb (get_or ts 0 0) 72057594037927937
    held {k} {ts} {cur} a = first_word ts cur.w (get_or w1 0 0) a.count (λ l. a.stands.same 0 l (omega arith))

    go : {z : Res TypeOut} {y : Parsed} → TypeEnds (list_of depth_limit) once text s0 0 [] z y w1 → v ≡ void_p y (get_or w1 0 0) → (T : TypeOut) (j : ℕ) → z ≡ ok T j → v ≡ is_void T
    go (read {t = ts} {cur = cur} a) g T j h = g ∙ held a ∙ sym (plain_void ts ts cur.at j T h)
    go (back {t = ts} {e = en} {cur = cur} a x y) g T j h = g ∙ held a ∙ sym (opened_void ts en j T h)
    go none g T j h = absurd (let z : ◌≡◌ {A = ℕ} 0 1 = cc in omega arith)

-- The call begins where its slots were pushed: at the same place.
pub void_is : {text : List ℕ} {p q q1 s : Parsed} {v : Bool} → q ≡ pushed (pushed p) → Gives skip_call_cconv tt text q q1 → Gives skip_attrs tt text q1 s → VoidType text s v → Voids text p v
void_is {text} {p} {q} {q1} {s} {v} o g1 g2 f =
    let F : Finds call_type (voids v) text q s = g_then _ g1 (g_then _ g2 (record { runs = λ cur i x. f.is cur i x; hands = λ e y i. i })) in
    record { is = λ cur i x. F.runs (record { at = cur.at; w = bumped (bumped cur.w) }) (o ∙ ap (λ (z : Parsed). pushed (pushed z)) i) (record { inside = x.inside; small = x.small }) }

-- ---- behind the call
-- a call, then what comes behind it by its type
by_type : (v : Bool) (c : ℕ) (f : Prog TypeOut) (i : ℕ) (s : List ℕ) → ((t : TypeOut) (j : ℕ) → run f i s ≡ ok t j → v ≡ is_void t) → run (f >>= λ t. call_of 0 t >>= numbered_call c t) i s ≡ run ((f >>= call_of 0) >>= behind_call v c) i s
unfolding next numbered_call
by_type v c f i s h = run_bind f (λ t. call_of 0 t >>= numbered_call c t) i s ∙ go (run f i s) h ∙ sym (run_bind f (λ t. call_of 0 t >>= behind_call v c) i s) ∙ sym (assoc f (call_of 0) (behind_call v c) i s)
  where
    go : (r : Res TypeOut) → ((t : TypeOut) (j : ℕ) → r ≡ ok t j → v ≡ is_void t) → next (λ t. call_of 0 t >>= numbered_call c t) i s r ≡ next (λ t. call_of 0 t >>= behind_call v c) i s r
    go (ok t j) k = rw (k t j refl)
    go (closed ws j) k = refl
    go (no_at q p) k = refl

nested : {A : Type 0} (h : TypeOut → Prog A) (i : ℕ) (s : List ℕ) → run (call_type >>= h) i s ≡ run (skip_call_cconv >>= λ _. skip_attrs >>= λ _. parse_type depth_limit >>= h) i s
unfolding next
nested {A} h i s =
    assoc skip_call_cconv (λ _. skip_attrs >>= λ _. parse_type depth_limit) h i s ∙ run_bind skip_call_cconv (λ u. (skip_attrs >>= λ _. parse_type depth_limit) >>= h) i s
    ∙ go (run skip_call_cconv i s) ∙ sym (run_bind skip_call_cconv (λ _. skip_attrs >>= λ _. parse_type depth_limit >>= h) i s)
  where
    go : (r : Res (Unit {0})) → next (λ u. (skip_attrs >>= λ _. parse_type depth_limit) >>= h) i s r ≡ next (λ _. skip_attrs >>= λ _. parse_type depth_limit >>= h) i s r
    go (ok u j) = assoc skip_attrs (λ _. parse_type depth_limit) h j _
    go (closed ws j) = refl
    go (no_at q p) = refl

plain_run : (v : Bool) (c : ℕ) (i : ℕ) (s : List ℕ) → ((t : TypeOut) (j : ℕ) → run call_type i s ≡ ok t j → v ≡ is_void t) → run (parse_plain_call c) i s ≡ run (parse_call 0 >>= behind_call v c) i s
unfolding parse_plain_call parse_call next
plain_run v c i s h =
    sym (nested (λ t. call_of 0 t >>= numbered_call c t) i s) ∙ by_type v c call_type i s h
    ∙ run_bind (call_type >>= call_of 0) (behind_call v c) i s ∙ ap (next (behind_call v c) i s) (nested (call_of 0) i s) ∙ sym (run_bind (parse_call 0) (behind_call v c) i s)

pub plain_call : (v : Bool) (c : ℕ) {text : List ℕ} {p q r : Parsed} {w w1 : List ℕ} {E : Goal (Counted (List ℕ))} → Voids text p v → Leads (parse_call 0) 3 [] (richly text (made same text p)) text p p w q w1 → ((ws : List ℕ) → Leads (behind_call v c ws) 0 ws (richly text E) text p q w1 r w1) → Leads (parse_plain_call c) 3 [] (richly text E) text p p w r w1
plain_call v c {text} {p} {q} {r} {w} {w1} {E} vs L k =
    let T : Leads (parse_call 0 >>= behind_call v c) (3 + 0) [] (richly text E) text p p w r w1 = then_rich 3 (behind_call v c) {c = 0} L k in
    record {
      runs = λ b low m cur e a x.
          subst (λ (z : Res (Counted (List ℕ))). E.ends b m low z r w1)
          (sym (plain_run v c cur.at (drop cur.at text) (vs.is cur e (record { inside = a.inside; small = a.small }))))
          (T.runs b low m cur e a x);
      hands = T.hands;
    }

-- it takes no number, or the next
pub behind_void : (c : ℕ) {text : List ℕ} {p0 p : Parsed} {w ws : List ℕ} → Leads (behind_call true c ws) 0 ws (richly text (made (counted c) text p0)) text p0 p w p w
behind_void c = enrich (place_at _ _ refl (λ l. val _ g_done done))

pub behind_next : (c d j : ℕ) {text : List ℕ} {p0 p r : Parsed} {w ws : List ℕ} → j ≡ place_p p → Gives (takes_next j c) d text p r → Leads (behind_call false c ws) 0 ws (richly text (made (counted d) text p0)) text p0 p w r w
behind_next c d j e g = enrich (place_at _ j e (λ l. val _ g done))
