-- Words and entries from `from` on are moved as one stretch each; its length is the difference of two ends.
use mathlib.Core.Path.{◌≡◌, ap, ◌∙◌}
use mathlib.Core.List.{List}
use Prim.Native.Nat.{ℕ, ◌+◌, ◌-◌}
use native.Mathlib.Omega.{arith}
use lib.ListN.{take, drop, length-drop}
use Rattle.records.specs.Pieces.{Old, old_words}
use Rattle.piece_directory.specs.Olds.{olds_of}
use Rattle.piece_directory.proofs.Links.{olds_length, words_split, all_words_lem}
use Rattle.reread_kept.proofs.Final.{kept_none}
use Rattle.reread_kept.proofs.keep_behind.Goals as goal

pub returns-then-from-entries : goal.returns-then-from-entries
returns-then-from-entries c =
    rw c.if-from-entries.true
    (kept_none c.args.words.now c.args.directory.now c.args.entries c.args.spot.number c.args.spot.pos c.args.spot.word c.requires.joined.inside)

pub overflow_sub-n : goal.overflow_sub-n
overflow_sub-n c =
    let os : List Old = olds_of c.args.entries c.args.directory.now in
    let a : c.behind-here.result.word ≡ old_words (take c.args.from os) = c.behind-here.ensures.2 in
    let z : c.behind-end.result.word ≡ old_words os = c.behind-end.ensures.2 ∙ all_words_lem c.args.entries c.args.directory.now in
    let w : old_words os ≡ old_words (take c.args.from os) + old_words (drop c.args.from os) = words_split c.args.from os in
    omega arith

pub move_words-requires : goal.move_words-requires
move_words-requires c =
    let os : List Old = olds_of c.args.entries c.args.directory.now in
    let a : c.behind-here.result.word ≡ old_words (take c.args.from os) = c.behind-here.ensures.2 in
    let z : c.behind-end.result.word ≡ old_words os = c.behind-end.ensures.2 ∙ all_words_lem c.args.entries c.args.directory.now in
    let w : old_words os ≡ old_words (take c.args.from os) + old_words (drop c.args.from os) = words_split c.args.from os in
    (omega (arith, c.requires.from_le_entries.1), omega (arith, c.requires.room_for.in_words))

pub move_entries-requires : goal.move_entries-requires
move_entries-requires c =
    let l = olds_length c.args.entries c.args.directory.now c.requires.joined.inside in
    let d = length-drop c.args.from (olds_of c.args.entries c.args.directory.now) in
    record {
      from_le_entries = (c.requires.from_le_entries.0, c.requires.joined.inside, omega (arith, l, d, c.requires.room_for.entries));
      directory_bound = (c.requires.from_le_entries.2, c.requires.room_for.small (omega (arith, l, d)));
    }

pub overflow_add-result : goal.overflow_add-result
overflow_add-result c =
    let os : List Old = olds_of c.args.entries c.args.directory.now in
    let a : c.behind-here.result.word ≡ old_words (take c.args.from os) = c.behind-here.ensures.2 in
    let z : c.behind-end.result.word ≡ old_words os = c.behind-end.ensures.2 ∙ all_words_lem c.args.entries c.args.directory.now in
    let w : old_words os ≡ old_words (take c.args.from os) + old_words (drop c.args.from os) = words_split c.args.from os in
    omega (arith, c.requires.room_for.in_words)

pub returns : goal.returns
returns c =
    let os : List Old = olds_of c.args.entries c.args.directory.now in
    let a : c.behind-here.result.word ≡ old_words (take c.args.from os) = c.behind-here.ensures.2 in
    let z : c.behind-end.result.word ≡ old_words os = c.behind-end.ensures.2 ∙ all_words_lem c.args.entries c.args.directory.now in
    let w : old_words os ≡ old_words (take c.args.from os) + old_words (drop c.args.from os) = words_split c.args.from os in
    let m : c.behind-end.result.word - c.behind-here.result.word ≡ old_words (drop c.args.from os) = omega arith in
    record { end = ap (λ (x : ℕ). c.args.spot.word + x) m; words = rw (← a, ← m) c.move_words.ensures; entries = c.move_entries.ensures }
