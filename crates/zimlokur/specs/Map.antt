-- The block map from C, of what a reading left: it is the map of the function's trees. Nothing is known here of the calls but what they report.
-- Assumes nothing.
use Rattle.std.proofs.Common.{subst}
use Rattle.std.specs.Prelude.{List, ℕ}
use Rattle.grammar.specs.Function.{reading_of}
use Rattle.trees.specs.Function.{Function}
use Rattle.map_spec.specs.Blocks.{map_of}
use Rattle.map_spec.specs.Buffer.{outcome, block_map}
use Rattle.theorem_map.specs.Maps.{accepted_map}
use Rattle.zimlokur.specs.Report.{Reports, ReportsMap}
use Rattle.zimlokur.specs.Zero.{zero_accepts}

-- After a call of `zimlokur_parse_define` that returned 0, `zimlokur_block_map` of the same text and of what it left, in a buffer of any length, gives
-- the map of the trees, or 27 where that is too long.
pub map_of_calls : (W D : ℕ) (text : List ℕ) (place n : ℕ) (words dir : List ℕ) (room r at len : ℕ) (map : List ℕ) → Reports (reading_of W D text) 0 place n words dir → ReportsMap (block_map room n text words dir) r at len map
    → (F : Function n words dir) × ReportsMap (outcome room (map_of text F.trees dir)) r at len map
unfolding block_map
map_of_calls W D text place n words dir room r at len map h m =
    let t = accepted_map W D n words dir text (zero_accepts W D text place n words dir h) in
    (t.0, subst (λ (l : List ℕ). ReportsMap (outcome room l) r at len map) t.1.0 m)
