-- What the code of the attributes holds of their programs.
-- Assumes nothing.
use Rattle.std.specs.Prelude.{◌≡◌, Bool, true, false, ◌&&◌, List, [], ◌∷◌, ℕ, suc, leb, drop}
use Rattle.program.specs.Bytes.{bytes, byte}
use Rattle.program.specs.Prog.{Prog, ret, scan}
use Rattle.grammar.specs.Attributes.{group_step, skip_attrs_in}
use Rattle.lexer.specs.Reads.{Gives, Comes}
use Rattle.lexer.specs.Parsed.{Parsed, Ok, Err}

-- the digits behind `#`
unfoldable pub group_digits : Prog (Unit {0})
group_digits = scan group_step 0 (λ w. ret tt)

-- One turn of the loop: behind an attribute the loop goes on, else it is over.
pub record AttrStep (text : List ℕ) (p p' : Parsed) (more : Bool) : Type 0 where
  pub again : more ≡ true → (u : ℕ) → Comes (skip_attrs_in (suc u)) (skip_attrs_in u) text p p'
  pub over : more ≡ false → (u : ℕ) → Gives (skip_attrs_in (suc u)) tt text p p'

-- a small letter
unfoldable pub is_small : ℕ → Bool
is_small x = leb (byte "a") x && leb x (byte "z")

-- two of them stand there
unfoldable pub letters : List ℕ → Bool
letters [] = false
letters (x ∷ []) = false
letters (x ∷ y ∷ s) = is_small x && is_small y

abbrev pub letters_p : List ℕ → Parsed → Bool
letters_p text (Ok c) = letters (drop c.at text)
letters_p text (Err r) = false

-- words that often stand where an attribute might, and are none
unfoldable pub no_attrs : List (List ℕ)
no_attrs =
    bytes "ptr" ∷ bytes "void" ∷ bytes "br" ∷ bytes "ret" ∷ bytes "store" ∷ bytes "call" ∷ bytes "tail" ∷ bytes "switch" ∷ []
