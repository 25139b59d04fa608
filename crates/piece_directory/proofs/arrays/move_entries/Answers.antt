-- The copy keeps each entry's length and word count, and renumbering sets where each starts.
use Rattle.piece_directory.proofs.Moved.{moved_room, moved_sizes, moved_words, moved_is}
use Rattle.piece_directory.proofs.arrays.move_entries.Goals as goal

pub renumber-requires : goal.renumber-requires
renumber-requires c =
    record {
      entry_words_in_bounds = moved_room c.args.directory.now c.args.entries c.args.from c.args.spot.number c.args.spot.pos c.args.spot.word c.requires.from_le_entries.0 c.requires.from_le_entries.1 c.requires.from_le_entries.2 c.move_words.new.words c.move_words.ensures;
      directory_bound = (moved_sizes c.args.directory.now c.args.entries c.args.from c.args.spot.number c.args.spot.pos c.args.spot.word c.requires.from_le_entries.0 c.requires.from_le_entries.1 c.requires.from_le_entries.2 c.move_words.new.words c.move_words.ensures c.requires.directory_bound.0, moved_words c.args.directory.now c.args.entries c.args.from c.args.spot.number c.args.spot.pos c.args.spot.word c.requires.from_le_entries.0 c.requires.from_le_entries.1 c.requires.from_le_entries.2 c.move_words.new.words c.move_words.ensures c.requires.directory_bound.1);
    }

pub returns : goal.returns
returns c =
    moved_is c.args.directory.now c.args.entries c.args.from c.args.spot.number c.args.spot.pos c.args.spot.word c.requires.from_le_entries.0 c.requires.from_le_entries.1 c.requires.from_le_entries.2 c.move_words.new.words c.move_words.ensures c.renumber.new.directory c.renumber.ensures
