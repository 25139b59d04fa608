-- Opcodes: a word's rank in the table of all of them says which way the definitions go.
-- The words of the table differ, so the first test that holds is the one of the word's rank.
-- Assumes nothing.
use mathlib.Core.Path.{◌≡◌, refl, sym, ap, ◌∙◌}
use mathlib.Core.List.{List, [], ◌∷◌, ◌++◌, append_assoc}
use mathlib.Core.Bool.{Bool, true, false}
use Prim.Native.Nat.{ℕ, zero, suc, ◌+◌, ◌-◌, ◌≤◌, ◌<◌}
use native.Mathlib.Omega.{arith}
use native.Mathlib.Nat.{zero-add, add-zero, sub-zero}
use lib.Dec.{ltb, eqb}
use lib.ListN.{length, length-append}
use borrow.Author.Tests.{eq-eqb, ne_eqb, lt-ltb, le-ltb, ltb-true, ltb-false}
use Rattle.program.specs.Bytes.{bytes}
use Rattle.program.specs.Prog.{Prog}
use Rattle.grammar.specs.Lexer.{refuse, same_word, rank}
use Rattle.grammar.specs.Values.{bin_ops}
use Rattle.grammar.specs.Counter.{Counted}
use Rattle.grammar.specs.Instructions.{among, is_word_then, fbin_ops, inst_conv_ops, tail_words, parse_bin, parse_fbin, parse_fneg, parse_conv, parse_icmp, parse_fcmp, parse_select, parse_load, parse_gep_inst, parse_phi, parse_alloca, parse_freeze, parse_call, parse_cmpxchg, parse_atomicrmw, parse_extractvalue, parse_tail_call, parse_store, parse_fence, parse_ret, parse_br, parse_switch, parse_unreachable, value_inst, plain_inst, parse_plain_call, parse_plain_tail_call, uncounted}
use Rattle.grammar.specs.Body.{Statement, as_terminator, as_instruction, opcode}
use Rattle.piece_block.specs.Opcodes.{value_opcodes, value_at, statement_words, terminator_at, plain_at, statement_at}

-- ---- ranks
rank_step : (w k : List ℕ) (ks : List (List ℕ)) (b : Bool) → same_word w k ≡ b → rank w (k ∷ ks) ≡ elim b [ true ↦ 0 | false ↦ suc (rank w ks) ]
unfolding rank
rank_step w k ks b e = ap {B = ℕ} (λ (z : Bool). elim z [ true ↦ 0 | false ↦ suc (rank w ks) ]) e

pub rank_le : (w : List ℕ) (t : List (List ℕ)) → rank w t ≤ length t
unfolding rank
rank_le w [] = omega arith
rank_le w (k ∷ ks) = go (same_word w k) refl (rank_le w ks)
  where
    go : (b : Bool) → same_word w k ≡ b → rank w ks ≤ length ks → rank w (k ∷ ks) ≤ suc (length ks)
    go true e h = rw (rank_step w k ks true e) (omega arith)
    go false e h = rw (rank_step w k ks false e) (omega arith)

pub rank_small : (w : List ℕ) (t : List (List ℕ)) {r : ℕ} → r ≡ rank w t → length t < 256 → r < 256
rank_small w t e h = omega (arith, rank_le w t)

-- in two tables, one behind the other
rank_front : (w : List ℕ) (t u : List (List ℕ)) → rank w t < length t → rank w (t ++ u) ≡ rank w t
unfolding rank
rank_front w [] u h = absurd (omega arith)
rank_front w (k ∷ ks) u h = go (same_word w k) refl (rank_front w ks u)
  where
    go : (b : Bool) → same_word w k ≡ b → (rank w ks < length ks → rank w (ks ++ u) ≡ rank w ks) → rank w (k ∷ (ks ++ u)) ≡ rank w (k ∷ ks)
    go true e ih = rank_step w k (ks ++ u) true e ∙ sym (rank_step w k ks true e)
    go false e ih =
        let l : suc (rank w ks) < suc (length ks) = rw (rank_step w k ks false e) at h in
        rank_step w k (ks ++ u) false e ∙ ap suc (ih (omega arith)) ∙ sym (rank_step w k ks false e)

rank_back : (w : List ℕ) (t u : List (List ℕ)) → length t ≤ rank w t → rank w (t ++ u) ≡ length t + rank w u
unfolding rank
rank_back w [] u h = omega arith
rank_back w (k ∷ ks) u h = go (same_word w k) refl (rank_back w ks u)
  where
    go : (b : Bool) → same_word w k ≡ b → (length ks ≤ rank w ks → rank w (ks ++ u) ≡ length ks + rank w u) → rank w (k ∷ (ks ++ u)) ≡ suc (length ks) + rank w u
    go true e ih = let l : suc (length ks) ≤ 0 = rw (rank_step w k ks true e) at h in absurd (omega arith)
    go false e ih =
        let l : suc (length ks) ≤ suc (rank w ks) = rw (rank_step w k ks false e) at h in
        let i : rank w (ks ++ u) ≡ length ks + rank w u = ih (omega arith) in
        rank_step w k (ks ++ u) false e ∙ omega arith

-- ---- a choice among words, as the definitions write it, and by number
data Arm (A : Type 0) : Type 0 where
  one : List ℕ → Prog A → Arm A
  many : List (List ℕ) → (ℕ → Prog A) → Arm A

chain : {A : Type 0} → List ℕ → List (Arm A) → Prog A → Prog A
chain w [] q = q
chain w (one kw p ∷ l) q = is_word_then w kw p (chain w l q)
chain w (many t p ∷ l) q = among w t p (chain w l q)

words : {A : Type 0} → List (Arm A) → List (List ℕ)
words [] = []
words (one kw p ∷ l) = kw ∷ words l
words (many t p ∷ l) = t ++ words l

-- k words stand before
arm_at : {A : Type 0} → ℕ → List (Arm A) → (ℕ → Prog A) → ℕ → Prog A
arm_at k [] g r = g r
arm_at k (one kw p ∷ l) g r = elim (eqb r k) [ true ↦ p | false ↦ arm_at (k + 1) l g r ]
arm_at k (many t p ∷ l) g r = elim (ltb r (k + length t)) [ true ↦ p (r - k) | false ↦ arm_at (k + length t) l g r ]

module _ {A : Type 0} (w : List ℕ) (l : List (Arm A)) (q : Prog A) (k r : ℕ) (g : ℕ → Prog A) where
  one_chain : (kw : List ℕ) (p : Prog A) (b : Bool) → same_word w kw ≡ b → chain w (one kw p ∷ l) q ≡ elim b [ true ↦ p | false ↦ chain w l q ]
  unfolding chain is_word_then
  one_chain kw p b e = ap (λ (z : Bool). elim z [ true ↦ p | false ↦ chain w l q ]) e

  one_at : (kw : List ℕ) (p : Prog A) (b : Bool) → eqb r k ≡ b → arm_at k (one kw p ∷ l) g r ≡ elim b [ true ↦ p | false ↦ arm_at (k + 1) l g r ]
  unfolding arm_at
  one_at kw p b e = ap (λ (z : Bool). elim z [ true ↦ p | false ↦ arm_at (k + 1) l g r ]) e

  many_chain : (t : List (List ℕ)) (p : ℕ → Prog A) (b : Bool) → ltb (rank w t) (length t) ≡ b → chain w (many t p ∷ l) q ≡ elim b [ true ↦ p (rank w t) | false ↦ chain w l q ]
  unfolding chain among
  many_chain t p b e = ap (λ (z : Bool). elim z [ true ↦ p (rank w t) | false ↦ chain w l q ]) e

  many_at : (t : List (List ℕ)) (p : ℕ → Prog A) (b : Bool) → ltb r (k + length t) ≡ b → arm_at k (many t p ∷ l) g r ≡ elim b [ true ↦ p (r - k) | false ↦ arm_at (k + length t) l g r ]
  unfolding arm_at
  many_at t p b e = ap (λ (z : Bool). elim z [ true ↦ p (r - k) | false ↦ arm_at (k + length t) l g r ]) e

-- Behind the words of a chain others may stand.
chain_at : {A : Type 0} (w : List ℕ) (k r : ℕ) (l : List (Arm A)) (rest : List (List ℕ)) (q : Prog A) (g : ℕ → Prog A) → r ≡ k + rank w (words l ++ rest) → (r ≡ k + length (words l) + rank w rest → q ≡ g r) → chain w l q ≡ arm_at k l g r
unfolding chain words arm_at
chain_at w k r [] rest q g e h = h (omega arith)
chain_at w k r (one kw p ∷ l) rest q g e h = go (same_word w kw) refl (chain_at w (k + 1) r l rest q g)
  where
    go : (b : Bool) → same_word w kw ≡ b → (r ≡ k + 1 + rank w (words l ++ rest) → (r ≡ k + 1 + length (words l) + rank w rest → q ≡ g r) → chain w l q ≡ arm_at (k + 1) l g r) → chain w (one kw p ∷ l) q ≡ arm_at k (one kw p ∷ l) g r
    go true t ih =
        let z : r ≡ k = e ∙ rw (rank_step w kw (words l ++ rest) true t) (omega arith) in
        one_chain w l q k r g kw p true t ∙ sym (one_at w l q k r g kw p true (eq-eqb r k z))
    go false t ih =
        let z : r ≡ k + suc (rank w (words l ++ rest)) = e ∙ rw (rank_step w kw (words l ++ rest) false t) in
        let n : r ≡ k → ⊥ = λ y. omega arith in
        one_chain w l q k r g kw p false t ∙ ih (omega arith) (λ y. h (omega arith)) ∙ sym (one_at w l q k r g kw p false (ne_eqb r k n))
chain_at w k r (many t p ∷ l) rest q g e h = go (ltb (rank w t) (length t)) refl (chain_at w (k + length t) r l rest q g)
  where
    go : (b : Bool) → ltb (rank w t) (length t) ≡ b → (r ≡ k + length t + rank w (words l ++ rest) → (r ≡ k + length t + length (words l) + rank w rest → q ≡ g r) → chain w l q ≡ arm_at (k + length t) l g r) → chain w (many t p ∷ l) q ≡ arm_at k (many t p ∷ l) g r
    go true y ih =
        let z : r ≡ k + rank w t = e ∙ rw (append_assoc t (words l) rest, rank_front w t (words l ++ rest) (ltb-true _ _ y)) in
        let i : r < k + length t = omega (arith, ltb-true (rank w t) (length t) y) in
        let m : rank w t ≡ r - k = omega arith in
        many_chain w l q k r g t p true y ∙ ap p m ∙ sym (many_at w l q k r g t p true (lt-ltb r (k + length t) i))
    go false y ih =
        let z : r ≡ k + (length t + rank w (words l ++ rest)) = e ∙ rw (append_assoc t (words l) rest, rank_back w t (words l ++ rest) (ltb-false _ _ y)) in
        let i : k + length t ≤ r = omega arith in
        many_chain w l q k r g t p false y ∙ ih (omega arith) (λ x. h (omega (arith, length-append t (words l)))) ∙ sym (many_at w l q k r g t p false (le-ltb r (k + length t) i))

-- a number behind the first arms
past : {A : Type 0} (k r : ℕ) (l m : List (Arm A)) (g : ℕ → Prog A) → k + length (words l) ≤ r → arm_at k (l ++ m) g r ≡ arm_at (k + length (words l)) m g r
unfolding words arm_at
past k r [] m g h = ap (λ (z : ℕ). arm_at z m g r) (sym (add-zero k))
past k r (one kw p ∷ l) m g h =
    let n : r ≡ k → ⊥ = λ e. omega arith in
    let e : k + 1 + length (words l) ≡ k + suc (length (words l)) = omega arith in
    one_at [] (l ++ m) (g 0) k r g kw p false (ne_eqb r k n) ∙ past (k + 1) r l m g (omega arith) ∙ ap (λ (z : ℕ). arm_at z m g r) e
past k r (many t p ∷ l) m g h =
    let a : length (t ++ words l) ≡ length t + length (words l) = length-append t (words l) in
    let i : k + length t ≤ r = omega arith in
    let e : k + length t + length (words l) ≡ k + length (t ++ words l) = omega arith in
    many_at [] (l ++ m) (g 0) k r g t p false (le-ltb r (k + length t) i) ∙ past (k + length t) r l m g (omega arith) ∙ ap (λ (z : ℕ). arm_at z m g r) e

-- ---- behind `%x =`
fbin_arm : ℕ → Arm (List ℕ)
fbin_arm dest = many fbin_ops (λ op. parse_fbin op dest)

fneg_arm : ℕ → Arm (List ℕ)
fneg_arm dest = one (bytes "fneg") (parse_fneg dest)

conv_arm : ℕ → Arm (List ℕ)
conv_arm dest = many inst_conv_ops (λ op. parse_conv op dest)

word_arms : ℕ → List (Arm (List ℕ))
word_arms dest =
    one (bytes "icmp") (parse_icmp dest) ∷ one (bytes "fcmp") (parse_fcmp dest) ∷ one (bytes "select") (parse_select dest) ∷
    one (bytes "load") (parse_load dest) ∷ one (bytes "getelementptr") (parse_gep_inst dest) ∷ one (bytes "phi") (parse_phi dest) ∷
    one (bytes "alloca") (parse_alloca dest) ∷ one (bytes "freeze") (parse_freeze dest) ∷ one (bytes "call") (parse_call dest) ∷
    one (bytes "cmpxchg") (parse_cmpxchg dest) ∷ one (bytes "atomicrmw") (parse_atomicrmw dest) ∷ one (bytes "extractvalue") (parse_extractvalue dest) ∷ []

tail_arm : ℕ → Arm (List ℕ)
tail_arm dest = many tail_words (λ r. parse_tail_call dest)

-- behind the first table
value_arms : ℕ → List (Arm (List ℕ))
value_arms dest = (fbin_arm dest ∷ fneg_arm dest ∷ []) ++ ((conv_arm dest ∷ word_arms dest) ++ (tail_arm dest ∷ []))

module _ (dest r : ℕ) where
  none : ℕ → Prog (List ℕ)
  none n = refuse 9

  by_bin : (b : Bool) → ltb r 13 ≡ b → value_at dest r ≡ elim b [ true ↦ parse_bin r dest | false ↦ arm_at 13 (value_arms dest) none r ]
  unfolding none words arm_at fbin_arm fneg_arm conv_arm word_arms tail_arm value_arms value_at fbin_ops inst_conv_ops tail_words
  by_bin b e = ap (λ (z : Bool). elim z [ true ↦ parse_bin r dest | false ↦ arm_at 13 (value_arms dest) none r ]) e

  by_conv : 19 ≤ r → value_at dest r ≡ arm_at 19 ((conv_arm dest ∷ word_arms dest) ++ (tail_arm dest ∷ [])) none r
  unfolding words fbin_arm fneg_arm value_arms fbin_ops
  by_conv l = by_bin false (le-ltb r 13 (omega arith)) ∙ past 13 r (fbin_arm dest ∷ fneg_arm dest ∷ []) ((conv_arm dest ∷ word_arms dest) ++ (tail_arm dest ∷ [])) none (omega arith)

  by_tail : 43 ≤ r → value_at dest r ≡ arm_at 43 (tail_arm dest ∷ []) none r
  unfolding words conv_arm word_arms inst_conv_ops
  by_tail l = by_conv (omega arith) ∙ past 19 r (conv_arm dest ∷ word_arms dest) (tail_arm dest ∷ []) none (omega arith)

  pub value_bin : r < 13 → value_at dest r ≡ parse_bin r dest
  value_bin h = by_bin true (lt-ltb r 13 h)

  pub value_fbin : 13 ≤ r → r < 18 → value_at dest r ≡ parse_fbin (r - 13) dest
  unfolding fbin_arm value_arms fbin_ops
  value_fbin l h = by_bin false (le-ltb r 13 l) ∙ many_at [] _ (none 0) 13 r none fbin_ops (λ op. parse_fbin op dest) true (lt-ltb r 18 h)

  pub value_conv : 19 ≤ r → r < 31 → value_at dest r ≡ parse_conv (r - 19) dest
  unfolding conv_arm inst_conv_ops
  value_conv l h = by_conv l ∙ many_at [] _ (none 0) 19 r none inst_conv_ops (λ op. parse_conv op dest) true (lt-ltb r 31 h)

  pub value_tail : 43 ≤ r → r < 46 → value_at dest r ≡ parse_tail_call dest
  unfolding tail_arm tail_words
  value_tail l h = by_tail l ∙ many_at [] [] (none 0) 43 r none tail_words (λ n. parse_tail_call dest) true (lt-ltb r 46 h)

  pub value_none : 46 ≤ r → value_at dest r ≡ refuse 9
  unfolding none arm_at tail_arm tail_words
  value_none l = by_tail (omega arith) ∙ many_at [] [] (none 0) 43 r none tail_words (λ n. parse_tail_call dest) false (le-ltb r 46 l)

pub value_at_lem : (dest : ℕ) (w : List ℕ) (r : ℕ) → r ≡ rank w value_opcodes → value_inst dest w ≡ value_at dest r
unfolding none chain words arm_at fbin_arm fneg_arm conv_arm word_arms tail_arm value_arms value_inst value_at value_opcodes bin_ops fbin_ops inst_conv_ops tail_words
value_at_lem dest w r e =
    chain_at w 0 r (many bin_ops (λ op. parse_bin op dest) ∷ value_arms dest) [] (refuse 9) (none dest r) (e ∙ sym (zero-add (rank w value_opcodes))) (λ _. refl) ∙
    ap (λ (op : ℕ). elim (ltb r 13) [ true ↦ parse_bin op dest | false ↦ arm_at 13 (value_arms dest) (none dest r) r ]) (sub-zero r)

-- ---- at the beginning of a statement, where the counter is c
module _ (c : ℕ) where
  terminators : List (Arm Statement)
  terminators =
      one (bytes "ret") (as_terminator c parse_ret) ∷ one (bytes "br") (as_terminator c parse_br) ∷ one (bytes "switch") (as_terminator c parse_switch) ∷
      one (bytes "unreachable") (as_terminator c parse_unreachable) ∷ []

  plain_tail : Arm (Counted (List ℕ))
  plain_tail = many tail_words (λ r. parse_plain_tail_call c)

  plain_words : List (Arm (Counted (List ℕ)))
  plain_words = one (bytes "store") (uncounted c parse_store) ∷ one (bytes "fence") (uncounted c parse_fence) ∷ one (bytes "call") (parse_plain_call c) ∷ []

  plain_arms : List (Arm (Counted (List ℕ)))
  plain_arms = plain_words ++ (plain_tail ∷ [])

  plain_at_lem : (w : List ℕ) (r : ℕ) → r ≡ 4 + rank w (words plain_arms) → plain_inst c w (refuse 9) ≡ plain_at c r
  unfolding chain words arm_at plain_tail plain_words plain_arms plain_inst plain_at tail_words
  plain_at_lem w r e = chain_at w 4 r plain_arms [] (refuse 9) (λ _. refuse 9) e (λ _. refl)

  by_terminator : (r : ℕ) (g : ℕ → Prog Statement) → arm_at 0 terminators g r ≡ elim (ltb r 4) [ true ↦ as_terminator c (terminator_at r) | false ↦ g r ]
  unfolding arm_at words terminators terminator_at
  by_terminator zero g = refl
  by_terminator (suc zero) g = refl
  by_terminator (suc (suc zero)) g = refl
  by_terminator (suc (suc (suc zero))) g = refl
  by_terminator (suc (suc (suc (suc n)))) g =
      let l : 4 ≤ suc (suc (suc (suc n))) = omega arith in
      past 0 (suc (suc (suc (suc n)))) terminators [] g l ∙ rw (le-ltb (suc (suc (suc (suc n)))) 4 l)

  pub statement_at_lem : (w : List ℕ) (r : ℕ) → r ≡ rank w statement_words → opcode c w ≡ statement_at c r
  unfolding chain words arm_at plain_tail terminators plain_words plain_arms opcode statement_at statement_words tail_words
  statement_at_lem w r e =
      chain_at w 0 r terminators (words plain_arms) (as_instruction (plain_inst c w (refuse 9))) (λ n. as_instruction (plain_at c n)) (e ∙ sym (zero-add (rank w statement_words))) (λ z. ap as_instruction (plain_at_lem w r z)) ∙
      by_terminator r (λ n. as_instruction (plain_at c n))

  module _ (r : ℕ) where
    pub statement_end : r < 4 → statement_at c r ≡ as_terminator c (terminator_at r)
    unfolding statement_at
    statement_end h = ap (λ (z : Bool). elim z [ true ↦ as_terminator c (terminator_at r) | false ↦ as_instruction (plain_at c r) ]) (lt-ltb r 4 h)

    pub statement_plain : 4 ≤ r → statement_at c r ≡ as_instruction (plain_at c r)
    unfolding statement_at
    statement_plain h = ap (λ (z : Bool). elim z [ true ↦ as_terminator c (terminator_at r) | false ↦ as_instruction (plain_at c r) ]) (le-ltb r 4 h)

    by_plain : 7 ≤ r → plain_at c r ≡ arm_at 7 (plain_tail ∷ []) (λ _. refuse 9) r
    unfolding words arm_at plain_tail plain_words plain_at tail_words
    by_plain l = past 4 r plain_words (plain_tail ∷ []) (λ _. refuse 9) l

    pub plain_tail_lem : 7 ≤ r → r < 10 → plain_at c r ≡ parse_plain_tail_call c
    unfolding plain_tail tail_words
    plain_tail_lem l h = by_plain l ∙ many_at [] [] (refuse 9) 7 r (λ _. refuse 9) tail_words (λ n. parse_plain_tail_call c) true (lt-ltb r 10 h)

    pub plain_none : 10 ≤ r → plain_at c r ≡ refuse 9
    unfolding arm_at plain_tail tail_words
    plain_none l = by_plain (omega arith) ∙ many_at [] [] (refuse 9) 7 r (λ _. refuse 9) tail_words (λ n. parse_plain_tail_call c) false (le-ltb r 10 l)
