-- Programs that pass bytes where they give an answer, for `val_paid`: each byte pays for three words.
-- Assumes nothing.
use mathlib.Core.Path.{◌≡◌, refl, sym, ◌∙◌}
use mathlib.Core.List.{List, [], ◌∷◌}
use mathlib.Core.Bool.{Bool, true, false}
use mathlib.Core.Option.{Option}
use Prim.Native.Nat.{ℕ, zero, suc, ◌+◌, ◌-◌, ◌≤◌}
use native.Mathlib.Omega.{arith}
use lib.Dec.{eqb}
use lib.ListN.{length, take, drop}
use Rattle.program.specs.Prog.{Prog, ret, fail, eat, here, scan, Res, ok, closed, no_at, run, ◌>>=◌, byte_at, lead_word, scan_len}
use Rattle.program.specs.Local.{next, run_bind, mono}
use Rattle.grammar.specs.Lexer.{refuse, place, is_byte, byte_if, byte_at_if, same_word, eat_n, word_if, eat_ws, expect_token, expect_keyword, three_dots, balanced, skip_parens, state_of, name_step, quote_step, Word, plain, quoted, size_of, is_empty, is_empty_word, quote_end, read_word, name_of, name_word, parse_local_name, parse_global_name}
use Rattle.grammar.specs.Numbers.{digit_step, digits, number_of, parse_int}
use Rattle.lexer.proofs.Laws.{Passes}

not_ok : {A B : Type 0} (e q j : ℕ) (a : A) → no_at e q ≡ ok a j → B
not_ok e q j a h = absurd (let z : ◌≡◌ {A = ℕ} 0 1 = cc in omega arith)

not_closed : {A B : Type 0} (ws : List ℕ) (i j : ℕ) (a : A) → closed ws i ≡ ok a j → B
not_closed ws i j a h = absurd (let z : ◌≡◌ {A = ℕ} 0 1 = cc in omega arith)

ok_at : {A : Type 0} (a b : A) (i j : ℕ) → ok a i ≡ ok b j → i ≡ j
ok_at a b i j h = cc

ok_is : {A : Type 0} (a b : A) (i j : ℕ) → ok a i ≡ ok b j → a ≡ b
ok_is a b i j h = cc

-- ---- the parts of programs
module _ {A : Type 0} where
  pub passes_any : (f : Prog A) → Passes 0 f
  passes_any f = record { over = λ i j s a e. let m : (i ≤ j) × (j ≤ i + length s) = mono f i j s (rw e refl) in omega arith }

  pub passes_less : {f : Prog A} (m n : ℕ) → m ≤ n → Passes n f → Passes m f
  passes_less m n l p = record { over = λ i j s a e. omega (arith, p.over i j s a e) }

  pub passes_fail : (n e q : ℕ) → Passes {A = A} n (fail e q)
  unfolding run
  passes_fail n e q = record { over = λ i j s a h. not_ok e q j a h }

  pub passes_refuse : (n e : ℕ) → Passes {A = A} n (refuse e)
  unfolding run refuse
  passes_refuse n e = record { over = λ i j s a h. not_ok e i j a h }

  pub passes_eat : {f : Prog A} (n : ℕ) → Passes n f → Passes (suc n) (eat f)
  unfolding run
  passes_eat {f} n p = record { over = go }
    where
      go : (i j : ℕ) (s : List ℕ) (a : A) → run (eat f) i s ≡ ok a j → i + suc n ≤ j
      go i j [] a e = not_ok 0 i j a e
      go i j (x ∷ s) a e = omega (arith, p.over (suc i) j s a e)

  pub passes_eat_n : {f : Prog A} (m n : ℕ) → Passes n f → Passes (m + n) (eat_n m f)
  unfolding eat_n
  passes_eat_n zero n p = passes_less (0 + n) n (omega arith) p
  passes_eat_n {f} (suc m) n p = passes_less (suc m + n) (suc (m + n)) (omega arith) (passes_eat (m + n) (passes_eat_n m n p))

  pub passes_byte : {f g : Prog A} (b n : ℕ) → Passes n f → Passes (suc n) g → Passes (suc n) (byte_if b f g)
  unfolding run byte_if
  passes_byte {f} {g} b n p q = record { over = λ i j s a e. go (is_byte b (byte_at s)) i j s a e }
    where
      go : (z : Bool) (i j : ℕ) (s : List ℕ) (a : A) → run (elim z [ true ↦ eat f | false ↦ g ]) i s ≡ ok a j → i + suc n ≤ j
      go true i j s a e = (passes_eat n p).over i j s a e
      go false i j s a e = q.over i j s a e

  pub passes_byte_at : {f g : Prog A} (b n : ℕ) → Passes n f → Passes n g → Passes n (byte_at_if b f g)
  unfolding run byte_at_if
  passes_byte_at {f} {g} b n p q = record { over = λ i j s a e. go (is_byte b (byte_at s)) i j s a e }
    where
      go : (z : Bool) (i j : ℕ) (s : List ℕ) (a : A) → run (elim z [ true ↦ f | false ↦ g ]) i s ≡ ok a j → i + n ≤ j
      go true i j s a e = p.over i j s a e
      go false i j s a e = q.over i j s a e

  pub passes_word : {f g : Prog A} (kw : List ℕ) (n : ℕ) → Passes n f → Passes (length kw + n) g → Passes (length kw + n) (word_if kw f g)
  unfolding run word_if
  passes_word {f} {g} kw n p q = record { over = λ i j s a e. go (same_word (lead_word s) kw) i j s a e }
    where
      go : (z : Bool) (i j : ℕ) (s : List ℕ) (a : A) → run (elim z [ true ↦ eat_n (length kw) f | false ↦ g ]) i s ≡ ok a j → i + (length kw + n) ≤ j
      go true i j s a e = (passes_eat_n (length kw) n p).over i j s a e
      go false i j s a e = q.over i j s a e

  pub passes_here : (k : ℕ → Prog A) (n : ℕ) → ((i : ℕ) → Passes n (k i)) → Passes n (here k)
  unfolding run
  passes_here k n p = record { over = λ i j s a e. (p i).over i j s a e }

  pub passes_scan : (f : ℕ → ℕ → Option ℕ) (q : ℕ) (k : List ℕ → Prog A) (n : ℕ) → ((w : List ℕ) → Passes n (k w)) → Passes n (scan f q k)
  unfolding run
  passes_scan f q k n p = record { over = λ i j s a e. omega (arith, (p (take (scan_len f q s) s)).over (i + scan_len f q s) j (drop (scan_len f q s) s) a e) }

pub passes_then : {A B : Type 0} (f : Prog A) (h : A → Prog B) (m n : ℕ) → Passes m f → ((a : A) → Passes n (h a)) → Passes (m + n) (f >>= h)
unfolding next
passes_then {A} {B} f h m n p q = record { over = λ i j s b e. go i j s b (run f i s) refl (sym (run_bind f h i s) ∙ e) }
  where
    go : (i j : ℕ) (s : List ℕ) (b : B) (r : Res A) → run f i s ≡ r → next h i s r ≡ ok b j → i + (m + n) ≤ j
    go i j s b (ok a k) t e = omega (arith, p.over i k s a t, (q a).over k j (drop (k - i) s) b e)
    go i j s b (closed ws k) t e = not_closed ws k j b e
    go i j s b (no_at x y) t e = not_ok x y j b e

-- ---- readers
pub passes_token : (b : ℕ) → Passes 1 (expect_token b)
unfolding expect_token
passes_token b = passes_then eat_ws (λ _. byte_if b (ret tt) (refuse 3)) 0 1 (passes_any eat_ws) (λ u. passes_byte b 0 (passes_any (ret tt)) (passes_refuse 1 3))

pub passes_keyword : (kw : List ℕ) → Passes (length kw) (expect_keyword kw)
unfolding expect_keyword
passes_keyword kw =
    passes_less (length kw) (0 + (length kw + 0)) (omega arith)
    (passes_then eat_ws (λ _. word_if kw (ret tt) (refuse 3)) 0 (length kw + 0) (passes_any eat_ws) (λ u. passes_word kw 0 (passes_any (ret tt)) (passes_refuse (length kw + 0) 3)))

pub passes_dots : (e : ℕ) → Passes 3 (three_dots e)
unfolding three_dots
passes_dots e = passes_here _ 3 (λ i. passes_byte 46 2 (passes_byte 46 1 (passes_byte 46 0 (passes_any (ret tt)) (passes_fail 1 e i)) (passes_fail 2 e i)) (passes_fail 3 e i))

pub passes_balanced : (l r : ℕ) → Passes 1 (balanced l r)
unfolding balanced
passes_balanced l r = passes_scan _ 0 _ 1 (λ w. passes_byte r 0 (passes_any (ret tt)) (passes_refuse 1 13))

pub passes_parens : Passes 2 skip_parens
unfolding skip_parens
passes_parens = passes_then eat_ws (λ _. byte_if 40 (balanced 40 41) (refuse 3)) 0 2 (passes_any eat_ws) (λ u. passes_byte 40 1 (passes_balanced 40 41) (passes_refuse 2 3))

-- a number has a digit
pub passes_int : (lo hi : ℕ) → Passes 1 (parse_int lo hi)
unfolding run parse_int place digits number_of ◌>>=◌
passes_int lo hi = record { over = λ i j s a e. go i j (scan_len digit_step 0 s) s a (take (scan_len digit_step 0 s) s) refl e }
  where
    go : (i j n : ℕ) (s : List ℕ) (a : ℕ) (w : List ℕ) → take n s ≡ w → run (number_of lo hi i w) (i + n) (drop n s) ≡ ok a j → i + 1 ≤ j
    go i j n s a [] t e = omega (arith, (passes_refuse 1 4).over (i + n) j (drop n s) a e)
    go i j zero s a (x ∷ w) t e = absurd (let z : ◌≡◌ {A = ℕ} 0 1 = cc in omega arith)
    go i j (suc n) s a (x ∷ w) t e = omega (arith, (passes_any (number_of lo hi i (x ∷ w))).over (i + suc n) j (drop (suc n) s) a e)

take_short : (n : ℕ) (s : List ℕ) → length (take n s) ≤ n
take_short zero s = omega arith
take_short (suc n) [] = omega arith
take_short (suc n) (x ∷ s) = omega (arith, take_short n s)

-- a name is as long as its word
quote_long : (i j n : ℕ) (s w : List ℕ) (v : Word) → length w ≤ n → run (quote_end w) (i + n) s ≡ ok v j → i + (length w + 1) ≤ j
unfolding run quote_end
quote_long i j n s w v l e = go (eqb (state_of quote_step 0 w) 0) e
  where
    go : (z : Bool) → run (elim z [ true ↦ byte_if 34 (ret (quoted w)) (refuse 13) | false ↦ refuse 14 ]) (i + n) s ≡ ok v j → i + (length w + 1) ≤ j
    go true h = omega (arith, (passes_byte 34 0 (passes_any (ret (quoted w))) (passes_refuse 1 13)).over (i + n) j s v h)
    go false h = omega (arith, (passes_refuse 1 14).over (i + n) j s v h)

quote_is : (i j : ℕ) (s w : List ℕ) (v : Word) → run (quote_end w) i s ≡ ok v j → v ≡ quoted w
unfolding run quote_end byte_if refuse
quote_is i j s w v e = go (eqb (state_of quote_step 0 w) 0) e
  where
    shut : (z : Bool) (s : List ℕ) → run (elim z [ true ↦ eat (ret (quoted w)) | false ↦ refuse 13 ]) i s ≡ ok v j → v ≡ quoted w
    shut true [] h = not_ok 0 i j v h
    shut true (x ∷ s) h = sym (ok_is (quoted w) v (suc i) j h)
    shut false s h = not_ok 13 i j v h

    go : (z : Bool) → run (elim z [ true ↦ byte_if 34 (ret (quoted w)) (refuse 13) | false ↦ refuse 14 ]) i s ≡ ok v j → v ≡ quoted w
    go true h = shut (is_byte 34 (byte_at s)) s h
    go false h = not_ok 14 i j v h

pub word_long : (i j : ℕ) (s : List ℕ) (v : Word) → run read_word i s ≡ ok v j → i + size_of v ≤ j
unfolding run read_word byte_if size_of
word_long i j s v e = go (is_byte 34 (byte_at s)) s e
  where
    go : (z : Bool) (s : List ℕ) → run (elim z [ true ↦ eat (scan quote_step 0 quote_end) | false ↦ scan name_step 0 (λ w. ret (plain w)) ]) i s ≡ ok v j → i + size_of v ≤ j
    go true [] h = not_ok 0 i j v h
    go true (x ∷ s) h =
        let n : ℕ = scan_len quote_step 0 s in
        let w : List ℕ = take n s in
        let a : v ≡ quoted w = quote_is (suc i + n) j (drop n s) w v h in
        let b : suc i + (length w + 1) ≤ j = quote_long (suc i) j n (drop n s) w v (take_short n s) h in
        rw a (omega arith)
    go false s h =
        let n : ℕ = scan_len name_step 0 s in
        let a : plain (take n s) ≡ v = ok_is (plain (take n s)) v (i + n) j h in
        let b : i + n ≡ j = ok_at (plain (take n s)) v (i + n) j h in
        rw (← a) (omega (arith, take_short n s))

name_long : (i k j : ℕ) (s : List ℕ) (v : Word) (a : ℕ) → run (name_of i v) k s ≡ ok a j → 1 ≤ size_of v
unfolding run name_of refuse size_of is_empty_word is_empty
name_long i k j s (plain []) a e = not_ok 3 k j a e
name_long i k j s (plain (x ∷ w)) a e = omega arith
name_long i k j s (quoted []) a e = not_ok 3 k j a e
name_long i k j s (quoted (x ∷ w)) a e = omega arith

pub passes_name : Passes 1 name_word
unfolding name_word place ◌>>=◌ next
passes_name = passes_here _ 1 (λ k. record { over = λ i j s a e. go k i j s a (run read_word i s) refl (sym (run_bind read_word (name_of k) i s) ∙ e) })
  where
    go : (k i j : ℕ) (s : List ℕ) (a : ℕ) (r : Res Word) → run read_word i s ≡ r → next (name_of k) i s r ≡ ok a j → i + 1 ≤ j
    go k i j s a (ok v m) t e = omega (arith, word_long i m s v t, name_long k m j (drop (m - i) s) v a e, (passes_any (name_of k v)).over m j (drop (m - i) s) a e)
    go k i j s a (closed ws m) t e = not_closed ws m j a e
    go k i j s a (no_at x y) t e = not_ok x y j a e

pub passes_local : Passes 2 parse_local_name
unfolding parse_local_name
passes_local = passes_then eat_ws (λ _. byte_if 37 name_word (refuse 3)) 0 2 (passes_any eat_ws) (λ u. passes_byte 37 1 passes_name (passes_refuse 2 3))

pub passes_global : Passes 2 parse_global_name
unfolding parse_global_name
passes_global = passes_then eat_ws (λ _. byte_if 64 name_word (refuse 3)) 0 2 (passes_any eat_ws) (λ u. passes_byte 64 1 passes_name (passes_refuse 2 3))
