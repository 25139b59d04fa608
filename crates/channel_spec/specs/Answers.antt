-- M-102: "For one class and the n-th call to `@fire` .. the part answers yes, no, undecided, or none past the last".
-- Assumes nothing.
use Rattle.std.specs.Prelude.{List, ℕ}
use Rattle.program.specs.Choice.{pick}
use Rattle.channel_spec.specs.declared.Rule.{Rule}
use Rattle.channel_spec.specs.declared.Fired.{Fired}
use Rattle.channel_spec.specs.declared.Fired.TheVariants.{Channel, Undecided, Nothing}
use Rattle.channel_spec.specs.Told.{Told, Answer}
use Rattle.channel_spec.specs.Table.{judged, permits}
use Rattle.channel_spec.specs.Fires.{word_fires, nth}

-- the answers
abbrev pub answer_no : ℕ
answer_no = 0

abbrev pub answer_yes : ℕ
answer_yes = 1

abbrev pub answer_undecided : ℕ
answer_undecided = 2

abbrev pub answer_none : ℕ
answer_none = 3

-- what a table that stands says of a call
unfoldable pub answer_of : (asked : ℕ) → List Rule → Fired → ℕ
answer_of asked rs (Channel x) = pick (permits asked x rs) answer_yes answer_no
answer_of asked rs Undecided = answer_undecided
answer_of asked rs Nothing = answer_none

-- The answer for a class and a call that says f.
unfoldable pub ruling : (asked : ℕ) → List Rule → Fired → Told
ruling asked rs f = judged asked rs (Answer (answer_of asked rs f))

-- For a class and call number m of a function, n entries of its directory.
unfoldable pub channel_rule : (asked m n : ℕ) → List Rule → (text words dir : List ℕ) → Told
channel_rule asked m n rs text words dir = ruling asked rs (nth m (word_fires n text words dir))
