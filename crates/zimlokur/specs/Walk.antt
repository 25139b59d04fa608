-- Steps from C over what a reading left: a walk by `zimlokur_child`, else `zimlokur_next` below the array's end, meets each node one time. Nothing is
-- known here of the calls but what they report, which tells each step (`said`), so the walk is the definition's.
-- Assumes nothing.
use Rattle.std.specs.Prelude.{◌≡◌, refl, List, [], ◌∷◌, ℕ, suc, ◌+◌, length}
use Rattle.std.proofs.Common.{sym, ap, ◌∙◌, arith}
use Rattle.std.proofs.Math.Option.{Option, none, some}
use Rattle.grammar.specs.Function.{reading_of}
use Rattle.trees.specs.Steps.{child_of, next_of, step_of, walk}
use Rattle.trees.specs.Function.{Function, places}
use Rattle.theorem_trees.specs.Function.{accepted_function}
use Rattle.theorem_trees.specs.Walk.{walk_meets}
use Rattle.zimlokur.specs.Report.{Reports, ReportsStep, made, stays}
use Rattle.zimlokur.specs.Zero.{zero_accepts}

-- From a place on: down where the first call returns 1, else on where the second does, else it is over. The places met.
pub data Walked (words : List ℕ) : (at : ℕ) → List ℕ → Type 0 where
  down : {at to : ℕ} {ps : List ℕ} → ReportsStep (child_of words at) at 1 to → Walked words to ps → Walked words at (at ∷ ps)
  on : {at x to : ℕ} {ps : List ℕ} → ReportsStep (child_of words at) at 0 x → ReportsStep (next_of words at (length words)) at 1 to → Walked words to ps → Walked words at (at ∷ ps)
  over : {at x y : ℕ} → ReportsStep (child_of words at) at 0 x → ReportsStep (next_of words at (length words)) at 0 y → Walked words at (at ∷ [])

said_made : (o : Option ℕ) {at r to : ℕ} → ReportsStep o at r to → r ≡ 1 → o ≡ some to
said_made _ made e = refl
said_made _ stays e = absurd (omega arith)

said_none : (o : Option ℕ) {at r to : ℕ} → ReportsStep o at r to → r ≡ 0 → o ≡ none
said_none _ made e = absurd (omega arith)
said_none _ stays e = refl

-- The walk of the definition, in as many turns or more.
walked : (ws : List ℕ) {at : ℕ} {ps : List ℕ} → Walked ws at ps → (u : ℕ) → walk (length ps + u) ws at ≡ ps
unfolding walk step_of
walked ws (down {at = at} {to = to} {ps = ps} c w) u =
    let e : child_of ws at ≡ some to = said_made (child_of ws at) c refl in
    let z : suc (length ps) + u ≡ suc (length ps + u) = omega arith in
    rw (z, walk, step_of, e) (ap {B = List ℕ} (λ l. at ∷ l) (walked ws w u))
walked ws (on {at = at} {to = to} {ps = ps} c n w) u =
    let e : child_of ws at ≡ none = said_none (child_of ws at) c refl in
    let f : next_of ws at (length ws) ≡ some to = said_made (next_of ws at (length ws)) n refl in
    let z : suc (length ps) + u ≡ suc (length ps + u) = omega arith in
    rw (z, walk, step_of, e, f) (ap {B = List ℕ} (λ l. at ∷ l) (walked ws w u))
walked ws (over {at = at} c n) u =
    let e : child_of ws at ≡ none = said_none (child_of ws at) c refl in
    let f : next_of ws at (length ws) ≡ none = said_none (next_of ws at (length ws)) n refl in
    let z : 1 + u ≡ suc u = omega arith in
    rw (z, walk, step_of, e, f)

-- After a call of `zimlokur_parse_define` that returned 0, every such walk from word 0 meets the nodes of the function's trees, in record order.
pub walk_of_calls : (W D : ℕ) (text : List ℕ) (place n : ℕ) (words dir ps : List ℕ) → Reports (reading_of W D text) 0 place n words dir → Walked words 0 ps → (F : Function n words dir) × (ps ≡ places 0 F.trees)
walk_of_calls W D text place n words dir ps h w =
    let F : Function n words dir = accepted_function W D n words dir text (zero_accepts W D text place n words dir h) in
    (F, sym (walked words w (length words)) ∙ walk_meets n words dir F (length ps + length words) (omega arith))
