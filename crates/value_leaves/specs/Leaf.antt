-- What the code of the values holds of their programs.
-- Assumes nothing.
use Rattle.std.specs.Prelude.{◌≡◌, Bool, true, false, List, [], ◌∷◌, ℕ, suc, ◌≤◌, ◌<◌, length, Option, Some, None, MatchOption}
use Rattle.program.specs.Bytes.{bytes}
use Rattle.program.specs.Prog.{Prog, ret, ◌>>=◌}
use Rattle.records.specs.Words.{node}
use Rattle.records.specs.Kinds.{kind, IntConst, Null, Undef, Poison, ZeroInit}
use Rattle.grammar.specs.Lexer.{word_if, word_at_if}
use Rattle.grammar.specs.Numbers.{parse_f0x}
use Rattle.grammar.specs.Values.{prefix_if, float_node, cstring, parse_gep_flags}
use Rattle.lexer.specs.Step.{rank_p, ranked_p}
use Rattle.lexer.specs.Reads.{made, Leads, Gives, Comes, same}
use Rattle.lexer.specs.Parsed.{Parsed}

-- No form of F stands here, and what comes next decides.
pub record Passed (F : Prog (List ℕ) → Prog (List ℕ)) (text : List ℕ) (p : Parsed) (words words' : List ℕ) : Type 0 where
  pub on : (g : Prog (List ℕ)) {q : Parsed} {v : List ℕ} → Leads g 0 [] (made same text p) text p p words' q v → Leads (F g) 0 [] (made same text p) text p p words q v

-- A form of F is read, or none stands here.
abbrev pub Tried : (Prog (List ℕ) → Prog (List ℕ)) → List ℕ → Parsed → List ℕ → Option Parsed → List ℕ → Type 0
Tried F text p words r words' = MatchOption r (Passed F text p words words') (λ p'. (g : Prog (List ℕ)) → Leads (F g) 0 [] (made same text p) text p p words p' words')

-- the values that are a word, or g
unfoldable pub key_values : Prog (List ℕ) → Prog (List ℕ)
key_values g =
    word_if (bytes "true") (ret (node (kind IntConst) 0 0 (0 ∷ 1 ∷ [])))
    (word_if (bytes "false") (ret (node (kind IntConst) 0 0 (0 ∷ 0 ∷ [])))
    (word_if (bytes "null") (ret (node (kind Null) 0 0 []))
    (word_if (bytes "undef") (ret (node (kind Undef) 0 0 []))
    (word_if (bytes "poison") (ret (node (kind Poison) 0 0 []))
    (word_if (bytes "zeroinitializer") (ret (node (kind ZeroInit) 0 0 []))
    g)))))

-- and those that begin with a word
unfoldable pub word_values : Prog (List ℕ) → Prog (List ℕ)
word_values g = key_values (word_at_if (bytes "c") cstring (prefix_if (bytes "f0x") (parse_f0x >>= float_node) g))

-- a word of a table is read, with its rank, or none stands here
pub record Op (table : List (List ℕ)) (text : List ℕ) (p p' : Parsed) (rank : Option ℕ) : Type 0 where
  pub yes : (r : ℕ) → rank ≡ Some r → (r < length table) × ((r ≡ rank_p table text p) × (p' ≡ ranked_p table text p))
  pub no : rank ≡ None → (s : ℕ) × (length table ≤ s) × ((s ≡ rank_p table text p) × (p' ≡ ranked_p table text p))

-- One turn over a getelementptr's flags: behind a flag the loop goes on, else it is over.
pub record FlagStep (text : List ℕ) (p : Parsed) (v : ℕ) (p' : Parsed) (v' : ℕ) (more : Bool) : Type 0 where
  pub again : more ≡ true → (u : ℕ) → Comes (parse_gep_flags (suc u) v) (parse_gep_flags u v') text p p'
  pub over : more ≡ false → (u : ℕ) → Gives (parse_gep_flags (suc u) v) v' text p p'
