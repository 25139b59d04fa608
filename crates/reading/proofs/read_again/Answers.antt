-- The first pass decides the answer and writes nothing; then the move and the second pass leave what the definition says, and the rest is cleared.
use native.Mathlib.Omega.{arith}
use Rattle.piece_directory.specs.Olds.{olds_of}
use Rattle.theorem_refusals.specs.Common.{common_le_newer}
use Rattle.std.proofs.lemmas.Result.{err_from_is_err_and}
use Rattle.reading.proofs.Settle.{front_common, again_refused, behind_in, k_in, ends_in, entries_in, fit, again_left_by}
use Rattle.reading.proofs.read_again.Goals as goal

pub kept_front-front-requires : goal.kept_front-front-requires
kept_front-front-requires c =
    record {
      a_in_bounds = (
        omega
            (arith, c.common-a.ensures, common_le_newer c.args.older.now c.args.newer.now),
        c.requires.given.chained.two,
      );
      joined = c.requires.given.chained.joined;
    }

pub read_dry-requires : goal.read_dry-requires
read_dry-requires c =
    record {
      end_value = c.common_end-c.ensures;
      given = c.requires.given;
      front_is = (front_common c.args.older.now c.args.newer.now c.common-a.result (olds_of c.args.entries c.args.directory.now) c.kept_front-front.result.number c.kept_front-front.result.pos c.kept_front-front.result.word c.kept_front-front.result.counter c.common-a.ensures c.kept_front-front.ensures);
    }

pub keep_behind-end-requires : goal.keep_behind-end-requires
keep_behind-end-requires c =
    record {
      joined = c.requires.given.chained.joined;
      from_le_entries = (
        behind_in c.args.older.now c.args.newer.now c.args.words.now c.args.entries c.args.directory.now c.requires.given c.requires.newer_value c.kept_front-front.result.number c.kept_front-front.result.pos c.kept_front-front.result.word c.kept_front-front.result.counter (front_common c.args.older.now c.args.newer.now c.common-a.result (olds_of c.args.entries c.args.directory.now) c.kept_front-front.result.number c.kept_front-front.result.pos c.kept_front-front.result.word c.kept_front-front.result.counter c.common-a.ensures c.kept_front-front.ensures) c.in_ok-plan.plan.behind.number c.in_ok-plan.plan.behind.pos c.in_ok-plan.plan.behind.word c.in_ok-plan.plan.from
            c.in_ok-plan.ensures,
        c.requires.given.chained.in_words,
        ends_in c.args.older.now c.args.newer.now c.args.words.now c.args.entries c.args.directory.now c.requires.given c.requires.newer_value c.kept_front-front.result.number c.kept_front-front.result.pos c.kept_front-front.result.word c.kept_front-front.result.counter (front_common c.args.older.now c.args.newer.now c.common-a.result (olds_of c.args.entries c.args.directory.now) c.kept_front-front.result.number c.kept_front-front.result.pos c.kept_front-front.result.word c.kept_front-front.result.counter c.common-a.ensures c.kept_front-front.ensures) c.in_ok-plan.plan.behind.number c.in_ok-plan.plan.behind.pos c.in_ok-plan.plan.behind.word c.in_ok-plan.plan.from
            c.in_ok-plan.ensures,
      );
      room_for = c.in_ok-plan.ensures.settled.room;
    }

pub write-requires : goal.write-requires
write-requires c =
    record {
      newer_len_bound = c.requires.given.small;
      fit = fit c.args.older.now c.args.newer.now c.args.words.now c.args.entries c.args.directory.now c.requires.given c.requires.newer_value c.kept_front-front.result.number c.kept_front-front.result.pos c.kept_front-front.result.word c.kept_front-front.result.counter (front_common c.args.older.now c.args.newer.now c.common-a.result (olds_of c.args.entries c.args.directory.now) c.kept_front-front.result.number c.kept_front-front.result.pos c.kept_front-front.result.word c.kept_front-front.result.counter c.common-a.ensures c.kept_front-front.ensures) c.in_ok-plan.plan.behind.number c.in_ok-plan.plan.behind.pos c.in_ok-plan.plan.behind.word c.in_ok-plan.plan.from c.in_ok-plan.ensures c.keep_behind-end.result c.keep_behind-end.new.words c.keep_behind-end.new.directory c.keep_behind-end.ensures;
    }

pub overflow_sub-count : goal.overflow_sub-count
overflow_sub-count c =
    behind_in c.args.older.now c.args.newer.now c.args.words.now c.args.entries c.args.directory.now c.requires.given c.requires.newer_value c.kept_front-front.result.number c.kept_front-front.result.pos c.kept_front-front.result.word c.kept_front-front.result.counter (front_common c.args.older.now c.args.newer.now c.common-a.result (olds_of c.args.entries c.args.directory.now) c.kept_front-front.result.number c.kept_front-front.result.pos c.kept_front-front.result.word c.kept_front-front.result.counter c.common-a.ensures c.kept_front-front.ensures) c.in_ok-plan.plan.behind.number c.in_ok-plan.plan.behind.pos c.in_ok-plan.plan.behind.word c.in_ok-plan.plan.from
    c.in_ok-plan.ensures

pub overflow_add-count : goal.overflow_add-count
overflow_add-count c =
    omega (
      arith,
      entries_in c.args.older.now c.args.newer.now c.args.words.now c.args.entries c.args.directory.now c.requires.given c.requires.newer_value c.kept_front-front.result.number c.kept_front-front.result.pos c.kept_front-front.result.word c.kept_front-front.result.counter (front_common c.args.older.now c.args.newer.now c.common-a.result (olds_of c.args.entries c.args.directory.now) c.kept_front-front.result.number c.kept_front-front.result.pos c.kept_front-front.result.word c.kept_front-front.result.counter c.common-a.ensures c.kept_front-front.ensures) c.in_ok-plan.plan.behind.number c.in_ok-plan.plan.behind.pos c.in_ok-plan.plan.behind.word c.in_ok-plan.plan.from
          c.in_ok-plan.ensures,
      c.well_formed.1.1.1.0,
    )

pub overflow_mul-count : goal.overflow_mul-count
overflow_mul-count c =
    omega (
      arith,
      entries_in c.args.older.now c.args.newer.now c.args.words.now c.args.entries c.args.directory.now c.requires.given c.requires.newer_value c.kept_front-front.result.number c.kept_front-front.result.pos c.kept_front-front.result.word c.kept_front-front.result.counter (front_common c.args.older.now c.args.newer.now c.common-a.result (olds_of c.args.entries c.args.directory.now) c.kept_front-front.result.number c.kept_front-front.result.pos c.kept_front-front.result.word c.kept_front-front.result.counter c.common-a.ensures c.kept_front-front.ensures) c.in_ok-plan.plan.behind.number c.in_ok-plan.plan.behind.pos c.in_ok-plan.plan.behind.word c.in_ok-plan.plan.from
          c.in_ok-plan.ensures,
      c.well_formed.1.1.1.0,
    )

pub overflow_sub-result : goal.overflow_sub-result
overflow_sub-result c =
    k_in c.args.older.now c.args.newer.now c.args.words.now c.args.entries c.args.directory.now c.requires.given c.requires.newer_value c.kept_front-front.result.number c.kept_front-front.result.pos c.kept_front-front.result.word c.kept_front-front.result.counter (front_common c.args.older.now c.args.newer.now c.common-a.result (olds_of c.args.entries c.args.directory.now) c.kept_front-front.result.number c.kept_front-front.result.pos c.kept_front-front.result.word c.kept_front-front.result.counter c.common-a.ensures c.kept_front-front.ensures) c.in_ok-plan.plan.behind.number c.in_ok-plan.plan.behind.pos c.in_ok-plan.plan.behind.word c.in_ok-plan.plan.from
    c.in_ok-plan.ensures

pub returns-in_err-plan : goal.returns-in_err-plan
returns-in_err-plan c =
    let p = err_from_is_err_and c.from_residual.result c.from_residual.ensures.1 in
    rw (p.1, p.2)
    (again_refused c.args.older.now c.args.newer.now c.args.words.now c.args.entries c.args.directory.now c.requires.given c.requires.newer_value c.in_err-plan.field-0.0.question c.in_err-plan.field-0.0.place c.in_err-plan.ensures)

pub returns : goal.returns
returns c =
    again_left_by c.args.older.now c.args.newer.now c.args.words.now c.args.entries c.args.directory.now c.requires.given c.requires.newer_value c.kept_front-front.result.number c.kept_front-front.result.pos c.kept_front-front.result.word c.kept_front-front.result.counter (front_common c.args.older.now c.args.newer.now c.common-a.result (olds_of c.args.entries c.args.directory.now) c.kept_front-front.result.number c.kept_front-front.result.pos c.kept_front-front.result.word c.kept_front-front.result.counter c.common-a.ensures c.kept_front-front.ensures) c.in_ok-plan.plan.behind.number c.in_ok-plan.plan.behind.pos c.in_ok-plan.plan.behind.word c.in_ok-plan.plan.from c.in_ok-plan.ensures c.keep_behind-end.result c.keep_behind-end.new.words c.keep_behind-end.new.directory c.keep_behind-end.ensures c.write.new.words c.write.new.directory c.clear.new.words c.clear-2.new.words c.write.ensures c.clear.ensures c.clear-2.ensures
