-- Where more than c bytes remain no old piece joins; else the old start is as far from the older text's end.
use Prim.Native.Nat.{◌-◌}
use native.Mathlib.Omega.{arith}
use Rattle.piece_directory.specs.Olds.{olds_of}
use Rattle.piece_directory.proofs.Links.{olds_length}
use Rattle.reread_older.proofs.Find.{too_far, joins_is}
use Rattle.reread_older.proofs.join_old.Goals as goal

pub returns-then-edit-left : goal.returns-then-edit-left
returns-then-edit-left c =
    too_far c.args.edit.end c.args.edit.older (c.args.edit.newer - c.args.pos) c.args.counter (olds_of c.args.entries c.args.directory.now) c.args.from c.if-edit-left.true (omega
    (arith, olds_length c.args.entries c.args.directory.now c.requires.joined.inside)) c.requires.passed

pub returns : goal.returns
returns c =
    joins_is c.args.edit.end c.args.edit.older (c.args.edit.newer - c.args.pos) c.args.counter (olds_of c.args.entries c.args.directory.now) c.find_old.result c.if-edit-left.false c.find_old.ensures
