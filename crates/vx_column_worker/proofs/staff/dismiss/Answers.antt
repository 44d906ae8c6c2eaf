use Rattle.std.proofs.Common.{◌≡◌, ◌∙◌, ◌+◌, Some, None, map, length, vec_len, refl, sym, ap, arith}
use Rattle.std.specs.Prelude.{IsSome, option_map}
use Rattle.std.proofs.lemmas.List.{length-map, map_push}
use Rattle.std.proofs.lemmas.List.Elements.{All-pop}
use Rattle.vx_column_worker.proofs.Staffing.{all_reverse, none_moved, put_back}
use Rattle.vx_column_worker.proofs.staff.dismiss.Goals as goal

pub dismissed-init : goal.dismissed-init
dismissed-init g c =
    let no_seats : length c.args.staff.now.seats.items ≡ 0 = sym c.args.staff.now.seats.ok.0 ∙ c.requires.none.0.0 in
    let no_bytes : length c.args.staff.now.bytes.items ≡ 0 = sym c.args.staff.now.bytes.ok.0 ∙ c.requires.none.0.1 in
    let no_compressors : length c.args.staff.now.compressors.items ≡ 0 = sym c.args.staff.now.compressors.ok.0 ∙ c.requires.none.0.2 in
    let no_outcomes : length c.args.staff.now.outcomes.items ≡ 0 = sym c.args.staff.now.outcomes.ok.0 ∙ c.requires.none.1 in
    record {
      ended = rw c.reverse.ensures.items (all_reverse (λ w. (w.job ≡ None) × IsSome w.done) c.args.workers.items c.requires.ended);
      staffed = (
        omega (arith, c.requires.none.0.0, c.reverse.ensures.len),
        omega (arith, c.requires.none.0.1, c.reverse.ensures.len),
        omega (arith, c.requires.none.0.2, c.reverse.ensures.len),
        omega (arith, c.requires.none.1, c.reverse.ensures.len),
      );
      room = c.requires.room;
      seats = rw c.reverse.ensures.items (none_moved (λ w. w.seat) c.args.staff.now.seats.items c.args.workers.items no_seats);
      bytes = rw c.reverse.ensures.items (none_moved (λ w. w.bytes) c.args.staff.now.bytes.items c.args.workers.items no_bytes);
      compressors = rw c.reverse.ensures.items (none_moved (λ w. option_map (λ d. d.compressor) w.done) (map Some c.args.staff.now.compressors.items) c.args.workers.items (length-map c.args.staff.now.compressors.items Some ∙ no_compressors));
      outcomes = rw c.reverse.ensures.items (none_moved (λ w. option_map (λ d. d.outcome) w.done) (map Some c.args.staff.now.outcomes.items) c.args.workers.items (length-map c.args.staff.now.outcomes.items Some ∙ no_outcomes));
    }

pub dismissed-preserved : goal.dismissed-preserved
dismissed-preserved g c =
    let n = c.dismissed.invariant in
    let one : vec_len c.pop.new.self + 1 ≡ vec_len c.dismissed.workers = c.in-Some.ensures.cases in
    record {
      ended = (All-pop (λ w. (w.job ≡ None) × IsSome w.done) c.dismissed.workers.items c.pop.new.self.items (Some c.in-Some.worker) c.in-Some.ensures.items n.ended).0;
      staffed = (
        omega (arith, one, c.push_reserved.ensures.len, n.staffed.0),
        omega (arith, one, c.push_reserved-in-Some.ensures.len, n.staffed.1),
        omega (arith, one, c.push_reserved-in-Some-2.ensures.len, n.staffed.2),
        omega (arith, one, c.push_reserved-in-Some-3.ensures.len, n.staffed.3),
      );
      room = (
        (omega (arith, c.push_reserved.ensures.capacity, n.room.0.0), omega (arith, c.push_reserved-in-Some.ensures.capacity, n.room.0.1), omega (arith, c.push_reserved-in-Some-2.ensures.capacity, n.room.0.2)),
        omega (arith, c.push_reserved-in-Some-3.ensures.capacity, n.room.1),
      );
      seats = rw c.push_reserved.ensures.items
          (put_back (λ w. w.seat) c.dismissed.staff.seats.items c.in-Some.worker c.dismissed.workers.items c.pop.new.self.items _ _ c.in-Some.ensures.items refl n.seats);
      bytes = rw c.push_reserved-in-Some.ensures.items
          (put_back (λ w. w.bytes) c.dismissed.staff.bytes.items c.in-Some.worker c.dismissed.workers.items c.pop.new.self.items _ _ c.in-Some.ensures.items refl n.bytes);
      compressors = rw (c.push_reserved-in-Some-2.ensures.items, map_push)
          (put_back (λ w. option_map (λ d. d.compressor) w.done) (map Some c.dismissed.staff.compressors.items) c.in-Some.worker c.dismissed.workers.items c.pop.new.self.items _ _ c.in-Some.ensures.items
          (sym (ap (option_map (λ d. d.compressor)) c.ended-left.ensures)) n.compressors);
      outcomes = rw (c.push_reserved-in-Some-3.ensures.items, map_push)
          (put_back (λ w. option_map (λ d. d.outcome) w.done) (map Some c.dismissed.staff.outcomes.items) c.in-Some.worker c.dismissed.workers.items c.pop.new.self.items _ _ c.in-Some.ensures.items
          (sym (ap (option_map (λ d. d.outcome)) c.ended-left.ensures)) n.outcomes);
    }
