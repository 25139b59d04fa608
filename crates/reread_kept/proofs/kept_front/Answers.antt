-- The count is that of the definition, and `behind` says where those pieces end.
use native.Mathlib.Omega.{arith}
use lib.ListN.{take}
use Rattle.piece_directory.specs.Olds.{olds_of}
use Rattle.piece_directory.proofs.Links.{olds_length}
use Rattle.reread_kept.proofs.Front.{front_is, front_count}
use Rattle.reread_kept.proofs.kept_front.Goals as goal

pub behind-requires-clause-number_le_entries : goal.behind-requires-clause-number_le_entries
behind-requires-clause-number_le_entries c =
    omega
    (arith, c.front_count-number.ensures, front_count (take c.args.a c.args.text.now) (olds_of c.args.entries c.args.directory.now), olds_length c.args.entries c.args.directory.now c.requires.joined.inside)

pub returns : goal.returns
returns c = front_is (take c.args.a c.args.text.now) c.args.entries c.args.directory.now c.front_count-number.result _ _ _ _ c.front_count-number.ensures c.behind.ensures
