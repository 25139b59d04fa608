-- The three stores are the three words of the entry.
use mathlib.Core.Path.{refl}
use Rattle.records.specs.Words.{pack}
use Rattle.piece_directory.proofs.arrays.put_entry.Goals as goal

pub returns : goal.returns
unfolding pack
returns c = refl
