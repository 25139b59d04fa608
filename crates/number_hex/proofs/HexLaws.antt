-- The bits of floats from hex digits: folded one by one they are the number that the whole run writes.
-- Assumes nothing.
use mathlib.Core.Path.{◌≡◌, refl, sym, ap, ◌∙◌, subst}
use mathlib.Core.List.{List, []}
use mathlib.Core.Bool.{true, false}
use Prim.Native.Nat.{ℕ, ◌+◌, ◌≤◌, ◌<◌}
use lib.Dec.{eqb}
use borrow.Author.Tests.{lt-ltb, le-ltb}
use lib.ListN.{length, drop, get_or}
use Rattle.std.specs.Prelude.{max, Result}
use Rattle.std.proofs.Common.{Option}
use Rattle.program.specs.Class.{class_of, inside, is_hex}
use Rattle.program.specs.Prog.{Prog, ret, scan, run, ok, ◌>>=◌, scan_len}
use Rattle.grammar.specs.Lexer.{refuse}
use Rattle.grammar.specs.Numbers.{hex_step, hex_of, widen, parse_hex_float, parse_f0x}
use Rattle.lexer.specs.Step.{taken, refused}
use Rattle.lexer.specs.Reads.{Gives}
use Rattle.lexer.specs.declared.Cursor.{Cursor}
use Rattle.lexer.specs.Parsed.{Parsed, Ok, Err, Refused}
use Rattle.lexer.proofs.Laws.{given as from-run, kept, g_then, g_done, g_fail, scan_run}
use Rattle.number_integers.specs.Hex.{hex_held, hex_folded, hex_pushed, all_hex}
use Rattle.number_integers.specs.Literals.{bits_in, hex_literal, f0x_literal}
use Rattle.number_integers.specs.declared.hex.Hex.{Hex}
use Rattle.number_integers.proofs.Digits16.{hex_literal_lem, f0x_literal_lem}
use Rattle.number_integers.proofs.Scans.{hex_all}
use Rattle.lexer.proofs.Scan.{scan_out, end_at}
use Rattle.lexer.proofs.Folding.{FoldsTo, Folding, folding_out, folding_stop, folding_more}
use Rattle.number_hex.specs.Hex.{HexAt}

-- ---- hex digits
module _ {text : List ℕ} {at : ℕ} {s0 : Option Hex} {i : ℕ} {s : Option Hex} where
  hex_out : Folding hex_step hex_folded text at s0 i 0 s → length text ≤ i → FoldsTo hex_step hex_folded text at s0 i s
  unfolding hex_folded
  hex_out a h = folding_out hex_step hex_folded text at s0 i 0 s a refl h

  -- where a loop over the places from `at` on ends
  pub hex_past : {m : ℕ} → Folding hex_step hex_folded text at s0 i 0 s → at ≤ i → length text ≤ i → m ≡ max at (length text) → FoldsTo hex_step hex_folded text at s0 m s
  hex_past {m} a l h e =
      let d : m ≡ i = end_at hex_step 0 text l h e (a.place ∙ scan_out hex_step text i 0 h) in
      rw d (hex_out a h)

  module _ {d : ℕ} (a : Folding hex_step hex_folded text at s0 i 0 s) (h : i < length text) (e : d ≡ class_of (get_or text i 0)) where
    pub hex_more : {t : Option Hex} → d < 16 → t ≡ hex_pushed s d → Folding hex_step hex_folded text at s0 (i + 1) 0 t
    unfolding hex_folded hex_step is_hex
    hex_more {t} k n = folding_more hex_step hex_folded text at s0 i 0 s a 0 t (λ l. rw (← e, ← n)) h (rw (← e, lt-ltb _ _ k))

    pub hex_stop : 16 ≤ d → FoldsTo hex_step hex_folded text at s0 i s
    unfolding hex_folded hex_step is_hex
    hex_stop k = folding_stop hex_step hex_folded text at s0 i 0 s a refl h (rw (← e, le-ltb _ _ k))

-- ---- the digits at the cursor
hex_run : (text : List ℕ) (at i : ℕ) → i ≡ at + scan_len hex_step 0 (drop at text) → run (scan hex_step 0 ret) at (drop at text) ≡ ok (taken hex_step 0 (drop at text)) i
unfolding run
hex_run text at i e = scan_run hex_step 0 ret text at ∙ ap (ok (taken hex_step 0 (drop at text))) (sym e)

pub hex_here : {text : List ℕ} {i : ℕ} {h : Option Hex} (cur : Cursor) → FoldsTo hex_step hex_folded text cur.at (hex_held 0 0) i h → HexAt text (Ok cur) (Ok (record { at = i; w = cur.w })) h
hex_here {text} {i} cur a = record {
  run = taken hex_step 0 (drop cur.at text);
  gives = from-run cur i (λ x. hex_run text cur.at i a.place);
  state = a.state;
  all = hex_all 0 (drop cur.at text);
}

pub hex_kept : {text : List ℕ} {h : Option Hex} (e q : ℕ) → h ≡ hex_held 0 0 → HexAt text (Refused e q) (Refused e q) h
unfolding hex_folded all_hex
hex_kept e q h = record { run = []; gives = kept e q; state = h; all = refl }

-- ---- the bits, or none
pub bits_ok : {l : Result ℕ ℕ} {text : List ℕ} {p : Parsed} (b : ℕ) → l ≡ Ok b → Gives (bits_in l) b text p p
unfolding bits_in
bits_ok {l} {text} {p} b e = subst (λ (x : Result ℕ ℕ). Gives (bits_in x) b text p p) (sym e) g_done

pub bits_err : {l : Result ℕ ℕ} {v : ℕ} {text : List ℕ} {p q : Parsed} (k : ℕ) → l ≡ Err k → q ≡ refused k p → Gives (bits_in l) v text p q
unfolding bits_in
bits_err {l} {v} {text} {p} {q} k e i = subst (λ (x : Result ℕ ℕ). Gives (bits_in x) v text p q) (sym e) (g_fail k i)

-- behind the digits
abbrev hex_bits : List ℕ → Prog ℕ
hex_bits w = elim (inside 1 16 (length w)) [ true ↦ ret (hex_of 0 w) | false ↦ refuse 7 ]

abbrev f0x_bits : List ℕ → Prog ℕ
f0x_bits w = elim (eqb (length w) 8) [ true ↦ ret (widen (hex_of 0 w)) | false ↦ elim (eqb (length w) 16) [ true ↦ ret (hex_of 0 w) | false ↦ refuse 7 ] ]

module _ {text : List ℕ} {p q r : Parsed} {h : Option Hex} {l : Result ℕ ℕ} {v : ℕ} (a : HexAt text p q h) where
  pub bits_hex : l ≡ hex_literal h → Gives (bits_in l) v text q r → Gives parse_hex_float v text p r
  unfolding parse_hex_float ◌>>=◌
  bits_hex e g =
      g_then hex_bits a.gives
      (subst (λ (f : Prog ℕ). Gives f v text q r) (ap bits_in (e ∙ ap hex_literal a.state) ∙ hex_literal_lem a.run a.all) g)

  pub bits_f0x : l ≡ f0x_literal h → Gives (bits_in l) v text q r → Gives parse_f0x v text p r
  unfolding parse_f0x ◌>>=◌
  bits_f0x e g =
      g_then f0x_bits a.gives
      (subst (λ (f : Prog ℕ). Gives f v text q r) (ap bits_in (e ∙ ap f0x_literal a.state) ∙ f0x_literal_lem a.run a.all) g)
