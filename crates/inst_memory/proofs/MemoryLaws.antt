-- The laws of the instructions on memory: an alignment that may be absent, the indices of a getelementptr, a word among those of a table.
-- Assumes nothing.
use mathlib.Core.Path.{◌≡◌, subst}
use mathlib.Core.Bool.{Bool, true, false}
use mathlib.Core.List.{List, [], ◌∷◌, ◌++◌}
use Prim.Native.Nat.{ℕ, ◌+◌, ◌-◌, ◌≤◌, ◌<◌}
use native.Mathlib.Omega.{arith}
use lib.Dec.{ltb}
use lib.ListN.{length}
use borrow.Author.Tests.{lt-ltb, le-ltb}
use Rattle.program.specs.Prog.{Prog}
use Rattle.records.specs.Limits.{depth_limit}
use Rattle.grammar.specs.Lexer.{eat_ws, rank, skip_metadata_ref}
use Rattle.grammar.specs.Types.{listed, parse_type}
use Rattle.grammar.specs.Values.{pair_child, parse_value}
use Rattle.grammar.specs.Instructions.{parse_trailing, among, gep_inst_indices}
use Rattle.lexer.specs.Step.{looks_p, passed}
use Rattle.lexer.specs.Reads.{Leads, made, same, reach, Gives, Counts, Aim, Finds}
use Rattle.lexer.specs.Parsed.{Parsed}
use Rattle.lexer.proofs.Laws.{done, stay, then, val, byte_yes, byte_no, token_yes, token_no, more, no_more}
use Rattle.lexer.proofs.Children.{if_there}
use Rattle.std.specs.Prelude.{Option, Some, None}
use Rattle.inst_operands.specs.Trailing.{align_of}

-- ---- an alignment as the code has it
pub align_none : {al : Option ℕ} {text : List ℕ} {p q : Parsed} → al ≡ None → Gives parse_trailing (align_of al) text p q → Gives parse_trailing [] text p q
unfolding align_of
align_none {text = text} {p = p} {q = q} e g = subst (λ (z : Option ℕ). Gives parse_trailing (align_of z) text p q) e g

pub align_some : {al : Option ℕ} (v : ℕ) {text : List ℕ} {p q : Parsed} → al ≡ Some v → Gives parse_trailing (align_of al) text p q → Gives parse_trailing (v ∷ []) text p q
unfolding align_of
align_some v {text} {p} {q} e g = subst (λ (z : Option ℕ). Gives parse_trailing (align_of z) text p q) e g

-- ---- the indices of a getelementptr
module _ {text : List ℕ} {p0 q : Parsed} {v : List ℕ} (u n : ℕ) (ws : List ℕ) where
  pub indices_out : u ≤ 0 → Leads (gep_inst_indices u n ws) 0 ws (made (listed n 0) text p0) text p0 q v q v
  unfolding gep_inst_indices
  indices_out h = no_more (λ z. gep_inst_indices z n ws) u h done

  module _ {q1 : Parsed} {z : Bool} (pos : 0 < u) (gw : Gives eat_ws tt text q q1) (l : z ≡ looks_p text q1 44) where
    pub indices_end : z ≡ false → Leads (gep_inst_indices u n ws) 0 ws (made (listed n 0) text p0) text p0 q v q1 v
    unfolding gep_inst_indices
    indices_end y = more (λ z. gep_inst_indices z n ws) u pos (token_no _ _ gw l y done)

    module _ {q2 q3 : Parsed} {z2 : Bool} (y : z ≡ true) (x : q2 ≡ passed text 1 q1) (gv : Gives eat_ws tt text q2 q3) (l2 : z2 ≡ looks_p text q3 33) where
      pub indices_skip : {q4 q5 : Parsed} → z2 ≡ true → q4 ≡ passed text 1 q3 → Gives skip_metadata_ref tt text q4 q5 → Leads (gep_inst_indices u n ws) 0 ws (reach (gep_inst_indices (u - 1) n) text p0) text p0 q v q5 v
      unfolding gep_inst_indices
      indices_skip y2 x2 g = more (λ z. gep_inst_indices z n ws) u pos (token_yes _ _ gw l y x (val _ gv (byte_yes _ _ l2 y2 x2 (val _ g (stay (gep_inst_indices (u - 1) n))))))

      pub indices_more : (m : ℕ) {q4 : Parsed} {v4 : List ℕ} → z2 ≡ false → Leads (pair_child (parse_type depth_limit) (parse_value depth_limit) n) 0 [] (made same text q3) text q3 q3 v q4 v4 × Counts q4 m (n + 2) → Leads (gep_inst_indices u n ws) 0 ws (reach (gep_inst_indices (u - 1) m) text p0) text p0 q v q4 v4
      unfolding gep_inst_indices
      indices_more m {q4} {v4} y2 r = more (λ z. gep_inst_indices z n ws) u pos (token_yes _ _ gw l y x (val _ gv (byte_no _ _ l2 y2 (then _ r.0 (λ t. if_there (λ i j z. z) (λ cur o.
          subst (λ (j : ℕ). Leads (gep_inst_indices (u - 1) j (ws ++ t)) 3 (ws ++ t) (reach (gep_inst_indices (u - 1) m) text p0) text p0 q4 v4 q4 v4) (r.1 cur o) (stay (gep_inst_indices (u - 1) m))))))))

-- ---- a word among those of a table
module _ {A : Type 0} (w : List ℕ) (ks : List (List ℕ)) (f : ℕ → Prog A) (g : Prog A) {r : ℕ} (e : r ≡ rank w ks) {E : Aim A} {text : List ℕ} {p q : Parsed} where
  -- whichever way the test goes
  either : (b : Bool) → ltb (rank w ks) (length ks) ≡ b → Finds (elim b [ true ↦ f (rank w ks) | false ↦ g ]) E text p q → Finds (among w ks f g) E text p q
  unfolding among
  either b t h = rw (among, t) h

  pub among_yes : r < length ks → Finds (f r) E text p q → Finds (among w ks f g) E text p q
  among_yes l h = either true (lt-ltb (rank w ks) (length ks) (omega arith)) (subst (λ (i : ℕ). Finds (f i) E text p q) e h)

  pub among_no : length ks ≤ r → Finds g E text p q → Finds (among w ks f g) E text p q
  among_no l h = either false (le-ltb (rank w ks) (length ks) (omega arith)) h
